use Rattle.std.proofs.Common.{◌≡◌, ◌<◌, ◌-◌, length, slice_get, MatchOption, ap, ◌∙◌, arith}
use Rattle.std.specs.declared.cmp.Ordering.TheVariants.{Less}
use Rattle.std.specs.Option.{ForSome}
use Rattle.std.specs.Ordering.{is_lt}
use Rattle.std.proofs.lemmas.Bool.Decides.{nat_tests}
use Rattle.indexset_spine.proofs.PutLemmas.{merged_equal, merged_greater, merged_less, some_there}
use Rattle.indexset_spine.proofs.merge.merge_back.Given.{Over}
use Rattle.indexset_spine.proofs.merge.merge_back.Goals as goal
use Rattle.indexset_spine.proofs.merge.merge_back.Goals.{After-order_of_last}

module _ (g : Over) (c : After-order_of_last g) where
  told : ForSome (slice_get c.loop-items.run.items (length c.loop-items.run.items - 1)) (λ b.
      MatchOption (slice_get c.loop-items.items.items (length c.loop-items.items.items - 1))
      (c.order_of_last.result ≡ Less) (λ a. c.order_of_last.result ≡ g.T.Ord.cmp a b))
  told = rw (c.as_slice.ensures.value, c.as_slice-in-loop-items.ensures.value) at c.order_of_last.ensures

  some : 0 < length c.loop-items.run.items
  some = grind (arith, nat_tests, c.loop-items-test, c.is_empty.ensures, c.loop-items.run.ok)

pub loop-items-preserved-in-Less : goal.loop-items-preserved-in-Less
loop-items-preserved-in-Less g c =
    let at = (goal.at.loop-items-preserved-in-Less g c).After-order_of_last in
    let kept = c.loop-items.invariant in
    record {
      merging = rw c.push_reserved.ensures.items (merged_less g.T.Ord.cmp g.met.T.Ord.total _ _ _ _ kept.merging _ (told g at) c.in-Less.is _ _ c.take_last.ensures.items);
      length_bound = omega (arith, kept.length_bound, c.take_last.ensures.len, c.push_reserved.ensures.len);
      capacity = kept.capacity;
      room = c.push_reserved.ensures.capacity ∙ kept.room;
    }

pub take_last-requires-in-Greater : goal.take_last-requires-in-Greater
take_last-requires-in-Greater g c =
    let at = (goal.at.take_last-requires-in-Greater g c).After-order_of_last in
    omega (arith, c.loop-items.items.ok, some_there g.T.Ord.cmp g.met.T.Ord.total _ _ _ _ c.loop-items.invariant.merging _ (told g at) (some g at) (ap is_lt c.in-Greater.is))

pub loop-items-preserved-in-Greater : goal.loop-items-preserved-in-Greater
loop-items-preserved-in-Greater g c =
    let at = (goal.at.loop-items-preserved-in-Greater g c).After-order_of_last in
    let kept = c.loop-items.invariant in
    record {
      merging =
          rw c.push_reserved-in-Greater.ensures.items
          (merged_greater g.T.Ord.cmp g.met.T.Ord.total _ _ _ _ kept.merging _ (told g at) c.in-Greater.is (some g at) _
          _ c.take_last-in-Greater.ensures.items);
      length_bound = omega (arith, kept.length_bound, c.take_last-in-Greater.ensures.len, c.push_reserved-in-Greater.ensures.len);
      capacity = c.take_last-in-Greater.ensures.capacity ∙ kept.capacity;
      room = c.push_reserved-in-Greater.ensures.capacity ∙ kept.room;
    }

pub take_last-requires-in-Equal : goal.take_last-requires-in-Equal
take_last-requires-in-Equal g c =
    let at = (goal.at.take_last-requires-in-Equal g c).After-order_of_last in
    omega (arith, c.loop-items.items.ok, some_there g.T.Ord.cmp g.met.T.Ord.total _ _ _ _ c.loop-items.invariant.merging _ (told g at) (some g at) (ap is_lt c.in-Equal.is))

pub loop-items-preserved : goal.loop-items-preserved
loop-items-preserved g c =
    let at = (goal.at.loop-items-preserved g c).After-order_of_last in
    let kept = c.loop-items.invariant in
    record {
      merging =
          rw c.push_reserved-in-Equal.ensures.items
          (merged_equal g.T.Ord.cmp g.met.T.Ord.total _ _ _ _ kept.merging _ (told g at) c.in-Equal.is _ _ _ _
          c.take_last-in-Equal.ensures.items c.take_last-in-Equal-2.ensures.items);
      length_bound = omega (arith, kept.length_bound, c.take_last-in-Equal.ensures.len, c.take_last-in-Equal-2.ensures.len, c.push_reserved-in-Equal.ensures.len);
      capacity = c.take_last-in-Equal.ensures.capacity ∙ kept.capacity;
      room = c.push_reserved-in-Equal.ensures.capacity ∙ kept.room;
    }
