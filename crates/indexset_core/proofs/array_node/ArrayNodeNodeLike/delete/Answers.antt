use Rattle.std.proofs.Common.{◌≡◌, ◌≤◌, length, sym, subst, ◌∙◌, arith, rules, remove}
use Rattle.std.proofs.lemmas.List.Quantifiers.{all_pairs_remove}
use Rattle.std.specs.declared.cmp.Ordering.TheVariants.{Less}
use Rattle.indexset_core.specs.Order.{IsAscending}
use Rattle.indexset_core.proofs.OrderLemmas.{parted_by_item, found_has_equal, found_rank, found_without, gap_has_equal, gap_without, read_item}
use Rattle.indexset_core.proofs.array_node.ArrayNodeNodeLike.delete.Goals as goal

pub returns-in-Ok-clause-index : goal.returns-in-Ok-clause-index
returns-in-Ok-clause-index g c =
    let cmp = g.T.Ord.cmp in
    let found = rw (c.as_slice.ensures.value, c.self.view_is) at c.in-Ok.ensures.found in
    sym (found_rank cmp c.args.self.now c.args.value.now c.in-Ok.index found (parted_by_item cmp g.met.T.Ord.total c.args.self.now c.requires.ascending c.args.value.now))

pub returns-in-Ok-clause-item : goal.returns-in-Ok-clause-item
returns-in-Ok-clause-item g c =
    let found = rw (c.as_slice.ensures.value, c.self.view_is) at c.in-Ok.ensures.found in
    let value = rw c.self.view_is at c.remove.ensures.value in
    read_item c.args.self.now c.in-Ok.index c.remove.result found.inside value

pub returns-in-Ok-clause-list : goal.returns-in-Ok-clause-list
returns-in-Ok-clause-list g c =
    let found = rw (c.as_slice.ensures.value, c.self.view_is) at c.in-Ok.ensures.found in
    let items = rw c.self.view_is at c.remove.ensures.items in
    ◌∙◌ {a = c.remove.new.self.items} {b = remove c.args.self.now c.in-Ok.index} items
    (sym
    (found_without g.T.Ord.cmp c.args.self.now c.args.value.now c.in-Ok.index g.met.T.Ord.total c.requires.ascending
    found))

pub returns-in-Ok-clause-ascending : goal.returns-in-Ok-clause-ascending
returns-in-Ok-clause-ascending g c =
    let found = rw (c.as_slice.ensures.value, c.self.view_is) at c.in-Ok.ensures.found in
    let items = rw c.self.view_is at c.remove.ensures.items in
    subst (IsAscending g.T.Ord.cmp) {x = remove c.args.self.now c.in-Ok.index} {y = c.remove.new.self.items}
    (sym items)
    (all_pairs_remove (λ x y. g.T.Ord.cmp x y ≡ Less) c.args.self.now c.in-Ok.index found.inside
    c.requires.ascending)

pub returns-in-Err-clause-found : goal.returns-in-Err-clause-found
returns-in-Err-clause-found g c =
    let gap = rw (c.as_slice.ensures.value, c.self.view_is) at c.in-Err.ensures.absent in
    sym (gap_has_equal g.T.Ord.cmp c.args.self.now c.args.value.now c.in-Err.field-0 gap)

pub returns-in-Err-clause-list : goal.returns-in-Err-clause-list
returns-in-Err-clause-list g c =
    let gap = rw (c.as_slice.ensures.value, c.self.view_is) at c.in-Err.ensures.absent in
    sym (gap_without g.T.Ord.cmp c.args.self.now c.args.value.now c.in-Err.field-0 gap)

pub find-requires : goal.find-requires
find-requires g c = rw (c.as_slice.ensures.value, c.self.view_is) c.requires.ascending

pub invariant_of-self : goal.invariant_of-self
invariant_of-self g c =
    let held : length c.self.inside.items.items ≤ g.row.N = c.self.invariant in
    let left : length c.remove.new.self.items ≤ g.row.N = omega (arith, c.remove.ensures.len) in
    left

pub remove-requires : goal.remove-requires
remove-requires g c =
    let found = rw c.as_slice.ensures.value at c.in-Ok.ensures.found in
    (search rules, found.inside)

pub returns-in-Ok-clause-found : goal.returns-in-Ok-clause-found
returns-in-Ok-clause-found g c =
    let found = rw (c.as_slice.ensures.value, c.self.view_is) at c.in-Ok.ensures.found in
    sym (found_has_equal g.T.Ord.cmp c.args.self.now c.args.value.now c.in-Ok.index found)
