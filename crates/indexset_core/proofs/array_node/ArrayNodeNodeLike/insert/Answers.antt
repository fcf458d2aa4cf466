use Rattle.std.proofs.Common.{◌<◌, ◌≤◌, length, ap, sym, subst, ◌∙◌, arith, rules, not, insert}
use Rattle.indexset_core.specs.Order.{IsAscending}
use Rattle.indexset_core.proofs.OrderLemmas.{parted_by_item, found_has_equal, found_rank, found_keep, gap_has_equal, gap_rank, gap_keep, gap_ascending}
use Rattle.indexset_core.proofs.array_node.ArrayNodeNodeLike.insert.Goals as goal

pub returns-in-Ok-clause-added : goal.returns-in-Ok-clause-added
returns-in-Ok-clause-added g c =
    let found = rw (c.as_slice.ensures.value, c.self.view_is) at c.in-Ok.ensures.found in
    sym (ap not (found_has_equal g.T.Ord.cmp c.args.self.now c.args.value c.in-Ok.index found))

pub returns-in-Ok-clause-index : goal.returns-in-Ok-clause-index
returns-in-Ok-clause-index g c =
    let cmp = g.T.Ord.cmp in
    let found = rw (c.as_slice.ensures.value, c.self.view_is) at c.in-Ok.ensures.found in
    sym (found_rank cmp c.args.self.now c.args.value c.in-Ok.index found (parted_by_item cmp g.met.T.Ord.total c.args.self.now c.requires.ascending c.args.value))

pub returns-in-Ok-clause-list : goal.returns-in-Ok-clause-list
returns-in-Ok-clause-list g c =
    let found = rw (c.as_slice.ensures.value, c.self.view_is) at c.in-Ok.ensures.found in
    sym (found_keep g.T.Ord.cmp c.args.self.now c.args.value c.in-Ok.index found)

pub returns-in-Err-clause-added : goal.returns-in-Err-clause-added
returns-in-Err-clause-added g c =
    let gap = rw (c.as_slice.ensures.value, c.self.view_is) at c.in-Err.ensures.absent in
    sym (ap not (gap_has_equal g.T.Ord.cmp c.args.self.now c.args.value c.in-Err.index gap))

pub returns-in-Err-clause-index : goal.returns-in-Err-clause-index
returns-in-Err-clause-index g c =
    let gap = rw (c.as_slice.ensures.value, c.self.view_is) at c.in-Err.ensures.absent in
    sym (gap_rank g.T.Ord.cmp c.args.self.now c.args.value c.in-Err.index gap)

pub returns-in-Err-clause-list : goal.returns-in-Err-clause-list
returns-in-Err-clause-list g c =
    let gap = rw (c.as_slice.ensures.value, c.self.view_is) at c.in-Err.ensures.absent in
    let items = rw c.self.view_is at c.insert.ensures.items in
    ◌∙◌ {a = c.insert.new.self.items} {b = insert c.args.self.now c.in-Err.index c.args.value} items (sym (gap_keep g.T.Ord.cmp c.args.self.now c.args.value c.in-Err.index gap))

pub returns-in-Err-clause-ascending : goal.returns-in-Err-clause-ascending
returns-in-Err-clause-ascending g c =
    let cmp = g.T.Ord.cmp in
    let gap = rw (c.as_slice.ensures.value, c.self.view_is) at c.in-Err.ensures.absent in
    let items = rw c.self.view_is at c.insert.ensures.items in
    subst (IsAscending cmp) {x = insert c.args.self.now c.in-Err.index c.args.value} {y = c.insert.new.self.items}
    (sym items)
    (gap_ascending cmp c.args.self.now c.args.value c.in-Err.index g.met.T.Ord.total gap c.requires.ascending)

pub find-requires : goal.find-requires
find-requires g c = rw (c.as_slice.ensures.value, c.self.view_is) c.requires.ascending

pub invariant_of-self : goal.invariant_of-self
invariant_of-self g c =
    let room : length c.self.inside.items.items < g.row.N = omega (arith, c.requires.room, ap (λ l. length l) c.self.view_is) in
    let held : length c.insert.new.self.items ≤ g.row.N = omega (arith, c.insert.ensures.len) in
    held

pub insert-requires : goal.insert-requires
insert-requires g c =
    let gap = rw c.as_slice.ensures.value at c.in-Err.ensures.absent in
    let room : length c.self.inside.items.items < g.row.N = omega (arith, c.requires.room, ap (λ l. length l) c.self.view_is) in
    (search rules, (gap.inside, room))
