use Rattle.std.proofs.Common.{◌≡◌, sym, ◌∙◌}
use Rattle.std.proofs.lemmas.List.Quantifiers.{all_pairs_remove}
use Rattle.std.specs.declared.cmp.Ordering.TheVariants.{Less}
use Rattle.indexset_core.proofs.OrderLemmas.{parted_by_item, found_rank, found_without, gap_has_equal, gap_without, read_item}
use Rattle.indexset_core.proofs.node.VecNodeLike.delete.Goals as goal

pub returns-in-Ok-clause-index : goal.returns-in-Ok-clause-index
returns-in-Ok-clause-index g c =
    let cmp = g.T.Ord.cmp in
    let found = rw c.as_slice.ensures.value at c.in-Ok.ensures.found in
    sym (found_rank cmp _ _ _ found (parted_by_item cmp g.met.T.Ord.total _ c.requires.ascending c.args.value.now))

pub returns-in-Ok-clause-item : goal.returns-in-Ok-clause-item
returns-in-Ok-clause-item g c =
    let found = rw c.as_slice.ensures.value at c.in-Ok.ensures.found in
    read_item c.args.self.now.items c.in-Ok.index c.remove_item.result found.inside c.remove_item.ensures.value

pub returns-in-Ok-clause-list : goal.returns-in-Ok-clause-list
returns-in-Ok-clause-list g c =
    let found = rw c.as_slice.ensures.value at c.in-Ok.ensures.found in
    c.remove_item.ensures.items ∙ sym (found_without g.T.Ord.cmp c.args.self.now.items _ _ g.met.T.Ord.total c.requires.ascending found)

pub returns-in-Err-clause-found : goal.returns-in-Err-clause-found
returns-in-Err-clause-found g c =
    let gap = rw c.as_slice.ensures.value at c.in-Err.ensures.absent in
    sym (gap_has_equal g.T.Ord.cmp _ _ _ gap)

pub returns-in-Err-clause-list : goal.returns-in-Err-clause-list
returns-in-Err-clause-list g c =
    let gap = rw c.as_slice.ensures.value at c.in-Err.ensures.absent in
    sym (gap_without g.T.Ord.cmp _ _ _ gap)

pub returns-in-Ok-clause-ascending : goal.returns-in-Ok-clause-ascending
returns-in-Ok-clause-ascending g c =
    let found = rw c.as_slice.ensures.value at c.in-Ok.ensures.found in
    rw c.remove_item.ensures.items (all_pairs_remove (λ x y. g.T.Ord.cmp x y ≡ Less) c.args.self.now.items c.in-Ok.index found.inside c.requires.ascending)
