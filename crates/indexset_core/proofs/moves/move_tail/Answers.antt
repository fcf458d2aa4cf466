use Rattle.std.proofs.Common.{◌≡◌, ◌++◌, length, take, drop, refl, ap, ◌∙◌, arith, rules, vec_len, vec_capacity}
use Rattle.std.specs.Vec.Iter.{drain_items, drain_kept, drain_capacity}
use Rattle.indexset_core.proofs.MoveLemmas.{moved_on, room_on, moved_all, tail_range, tail_left}
use Rattle.std.proofs.lemmas.List.{length-drop}
use Rattle.indexset_core.proofs.moves.move_tail.Given.{Over}
use Rattle.indexset_core.proofs.moves.move_tail.Goals as goal
use Rattle.indexset_core.proofs.moves.move_tail.Goals.{After-drop-item-iterator, After-into_iter-item-iterator}

-- the iterator's items at the start
module _ (g : Over) (c : After-into_iter-item-iterator g) where
  begins : drain_items c.into_iter-item-iterator.result ≡ drop c.args.index c.args.items.now.items
  begins = ap drain_items c.into_iter-item-iterator.ensures.into_iter_gives ∙ (c.drain-item-items.ensures.rest ∙ tail_range c.args.items.now.items c.args.index _ (omega (arith, c.args.items.now.ok)))

pub loop-item-init : goal.loop-item-init
loop-item-init g c = record {
  callable = tt;
  finite = tt;
  keeps = (refl, refl, refl);
  moved = refl;
  same = refl;
  room = omega (arith, ap (λ l. length l) (begins g c), length-drop c.args.index c.args.items.now.items, c.requires.room);
}

pub push_reserved-requires : goal.push_reserved-requires
push_reserved-requires g c = omega (arith, ap (λ l. length l) c.in-Some.ensures.steps.0, c.loop-item.invariant.room)

pub loop-item-preserved : goal.loop-item-preserved
loop-item-preserved g c =
    let step = c.in-Some.ensures.steps in
    let at = c.loop-item.invariant in
    record {
      callable = tt;
      finite = tt;
      keeps = (step.2.0 ∙ at.keeps.0, step.2.1 ∙ at.keeps.1, step.2.2 ∙ at.keeps.2);
      moved =
          moved_on c.loop-item.other.items c.push_reserved.new.self.items (drain_items c.loop-item.item-iterator)
          (drain_items c.next.new.self) (c.args.other.now.items ++ drain_items c.into_iter-item-iterator.result)
          c.in-Some.item c.push_reserved.ensures.items step.0 at.moved;
      same = c.push_reserved.ensures.capacity ∙ at.same;
      room = omega (
        arith,
        room_on c.loop-item.other.items c.push_reserved.new.self.items (drain_items c.loop-item.item-iterator) (drain_items c.next.new.self) c.in-Some.item c.push_reserved.ensures.items step.0,
        at.room,
        c.push_reserved.ensures.capacity,
        c.loop-item.other.ok,
        c.push_reserved.new.self.ok,
      );
    }

-- what the iterator leaves of the list
module _ (g : Over) (c : After-drop-item-iterator g) where
  ends : c.next.new.self ≡ c.loop-item.item-iterator
  ends = c.in-None.ensures.steps.1

  kept : drain_kept c.next.new.self ≡ take c.args.index c.args.items.now.items
  kept =
      ap drain_kept ends
      ∙ (c.loop-item.invariant.keeps.1
      ∙ (ap drain_kept c.into_iter-item-iterator.ensures.into_iter_gives
      ∙ (c.drain-item-items.ensures.kept
      ∙ tail_left c.args.items.now.items c.args.index (vec_len c.args.items.now) (omega (arith, c.args.items.now.ok)))))

  capacity : drain_capacity c.next.new.self ≡ vec_capacity c.args.items.now
  capacity = ap drain_capacity ends ∙ (c.loop-item.invariant.keeps.2 ∙ (ap drain_capacity c.into_iter-item-iterator.ensures.into_iter_gives ∙ c.drain-item-items.ensures.capacity))

pub returns-clause-left : goal.returns-clause-left
returns-clause-left g c =
    let at = (goal.at.returns-clause-left g c).After-drop-item-iterator in
    let k = kept g at in
    search (rules, k)

pub returns-clause-moved : goal.returns-clause-moved
returns-clause-moved g c =
    moved_all c.loop-item.other.items _ _ c.in-None.ensures.steps.0 c.loop-item.invariant.moved
    ∙ ap (λ l. c.args.other.now.items ++ l)
    (begins g (goal.at.returns-clause-moved g c).After-into_iter-item-iterator)

pub returns-clause-capacity : goal.returns-clause-capacity
returns-clause-capacity g c =
    let at = (goal.at.returns-clause-capacity g c).After-drop-item-iterator in
    let k = capacity g at in
    search (rules, k)

pub returns-clause-other_capacity : goal.returns-clause-other_capacity
returns-clause-other_capacity g c = c.loop-item.invariant.same
