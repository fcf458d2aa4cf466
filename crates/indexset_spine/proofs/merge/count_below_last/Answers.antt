use Rattle.std.proofs.Common.{sym, take, arith, length-take}
use Rattle.std.proofs.lemmas.List.{length-take-le}
use Rattle.std.proofs.lemmas.List.Sums.{count_by-le-length}
use Rattle.std.specs.Ordering.{is_lt}
use Rattle.indexset_core.proofs.CallerLemmas.{parted_by_item}
use Rattle.indexset_spine.proofs.PutLemmas.{taken_below, taken_up}
use Rattle.indexset_spine.proofs.merge.count_below_last.Goals as goal

pub returns-in-Some-clause-below : goal.returns-in-Some-clause-below
returns-in-Some-clause-below g c =
    taken_below g.T.Ord.cmp g.met.T.Ord.total c.args.items.now c.args.from.now c.in-Some.last.now _ _ c.requires
    (rw c.new.ensures at c.first_not_less.ensures.count) (sym c.in-Some.ensures.value)

pub slice_bounds-front-end : goal.slice_bounds-front-end
slice_bounds-front-end g c = sym (length-take-le c.min.result c.args.from.now (omega (arith, c.min.ensures)))

pub first_not_less-requires : goal.first_not_less-requires
first_not_less-requires g c =
    parted_by_item g.T.Ord.cmp g.met.T.Ord.total (take c.min.result c.args.from.now)
    (taken_up g.T.Ord.cmp g.met.T.Ord.total c.args.from.now c.min.result c.requires) c.new.result.0

pub returns-in-Some-clause-most : goal.returns-in-Some-clause-most
returns-in-Some-clause-most g c =
    omega (
      arith,
      c.first_not_less.ensures.count,
      count_by-le-length (λ x. is_lt (g.T.Ord.cmp x c.new.result.0)) (take c.min.result c.args.from.now),
      length-take c.min.result c.args.from.now,
      c.min.ensures,
    )

pub returns-in-Some-clause-within : goal.returns-in-Some-clause-within
returns-in-Some-clause-within g c =
    omega (
      arith,
      c.first_not_less.ensures.count,
      count_by-le-length (λ x. is_lt (g.T.Ord.cmp x c.new.result.0)) (take c.min.result c.args.from.now),
      length-take c.min.result c.args.from.now,
      c.min.ensures,
    )
