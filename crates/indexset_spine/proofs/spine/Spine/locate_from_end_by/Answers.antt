use Rattle.std.proofs.Common.{arith, ◌∙◌, sym}
use Rattle.std.proofs.lemmas.Bool.{false≢true}
use Rattle.indexset_spine.proofs.SpineReads.{all_less, located, node_parted, none_after, read_last}
use Rattle.indexset_spine.proofs.spine.Spine.locate_from_end_by.Goals as goal

pub returns-then-ends_less-clause-spot : goal.returns-then-ends_less-clause-spot
returns-then-ends_less-clause-spot g c =
    let ends = rw c.as_slice-items.ensures.value at (sym c.ends_less.ensures.value ∙ c.if-ends_less.true) in
    let here = read_last _ _ c.args.self.now c.self.view_is c.self.invariant.is_spine.is_cut _ c.requires _ c.index.result.now (omega arith) c.index.ensures ends in
    let all = all_less _ _ (node_parted _ _ _ _ here c.requires) ends in
    record {
      node = here.named;
      offset = rw (here.node, c.as_slice-items.ensures.value) all;
      found = rw c.as_slice-items.ensures.value (none_after _ _ _ _ here c.requires ends);
      position = located _ _ _ _ here c.requires _ (rw c.as_slice-items.ensures.value all);
      spot = record { node_in = here.inside; offset_in = rw (here.node, c.as_slice-items.ensures.value) (omega arith) };
      item = λ yes. absurd (false≢true yes);
    }
