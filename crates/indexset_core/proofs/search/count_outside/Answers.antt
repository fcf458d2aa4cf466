use Rattle.std.proofs.Common.{ap, arith}
use Rattle.std.proofs.lemmas.List.Sums.{count_by-le-length}
use Rattle.std.specs.Ordering.{is_lt, is_le}
use Rattle.indexset_core.proofs.OrderLemmas.{above_count, not_below_count, parted_by_item}
use Rattle.indexset_core.proofs.search.count_outside.Goals as goal

pub returns-else-from_start : goal.returns-else-from_start
returns-else-from_start g c =
    let place = rw (ap (λ p. p.0) c.new-else-from_start.ensures) at c.first_greater.ensures.count in
    rw (c.in-Included.is, c.if-from_start.false) (above_count g.T.Ord.cmp c.args.items.now _ _ place)

pub returns-else-from_start-2 : goal.returns-else-from_start-2
returns-else-from_start-2 g c =
    let place = rw (ap (λ p. p.0) c.new-else-from_start-2.ensures) at c.first_not_less-else-from_start-2.ensures.count in
    rw (c.in-Excluded.is, c.if-from_start-2.false) (not_below_count g.T.Ord.cmp c.args.items.now _ _ place)

pub first_not_less-requires : goal.first_not_less-requires
first_not_less-requires g c = parted_by_item g.T.Ord.cmp g.met.T.Ord.total c.args.items.now c.requires c.new.result.0

pub first_greater-requires : goal.first_greater-requires
first_greater-requires g c = parted_by_item g.T.Ord.cmp g.met.T.Ord.total c.args.items.now c.requires c.new-else-from_start.result.0

pub first_greater-requires-then-from_start-2 : goal.first_greater-requires-then-from_start-2
first_greater-requires-then-from_start-2 g c = parted_by_item g.T.Ord.cmp g.met.T.Ord.total c.args.items.now c.requires c.new-then-from_start-2.result.0

pub first_not_less-requires-else-from_start-2 : goal.first_not_less-requires-else-from_start-2
first_not_less-requires-else-from_start-2 g c = parted_by_item g.T.Ord.cmp g.met.T.Ord.total c.args.items.now c.requires c.new-else-from_start-2.result.0

pub overflow_sub-result : goal.overflow_sub-result
overflow_sub-result g c = omega (arith, c.first_greater.ensures.count, count_by-le-length (λ x. is_le (g.T.Ord.cmp x c.new-else-from_start.result.0)) c.args.items.now)

pub overflow_sub-result-else-from_start-2 : goal.overflow_sub-result-else-from_start-2
overflow_sub-result-else-from_start-2 g c = omega (
  arith,
  c.first_not_less-else-from_start-2.ensures.count,
  count_by-le-length (λ x. is_lt (g.T.Ord.cmp x c.new-else-from_start-2.result.0)) c.args.items.now,
)

pub returns-in-Unbounded : goal.returns-in-Unbounded
returns-in-Unbounded g c = rw c.in-Unbounded.is

pub returns-then-from_start : goal.returns-then-from_start
returns-then-from_start g c = rw (c.in-Included.is, c.if-from_start.true) (rw (ap (λ p. p.0) c.new.ensures) at c.first_not_less.ensures.count)

pub returns-then-from_start-2 : goal.returns-then-from_start-2
returns-then-from_start-2 g c = rw (c.in-Excluded.is, c.if-from_start-2.true) (rw (ap (λ p. p.0) c.new-then-from_start-2.ensures) at c.first_greater-then-from_start-2.ensures.count)
