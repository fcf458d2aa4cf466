use Rattle.std.proofs.Common.{◌≡◌, ◌++◌, length, take, drop, refl, sym, ap, ◌∙◌, arith, rules, vec_capacity}
use Rattle.std.proofs.lemmas.List.{drop_all, length-take-le, take_all}
use Rattle.std.specs.Vec.Iter.{drain_items, drain_kept, drain_capacity}
use Rattle.indexset_core.proofs.MoveLemmas.{moved_on, room_on, moved_all, front_range}
use Rattle.indexset_core.proofs.moves.move_front.Given.{Over}
use Rattle.indexset_core.proofs.moves.move_front.Goals as goal
use Rattle.indexset_core.proofs.moves.move_front.Goals.{After-drop-item-iterator, After-into_iter-item-iterator}

pub returns-then-count-len-clause-left : goal.returns-then-count-len-clause-left
returns-then-count-len-clause-left g c =
    let ok = c.append.ensures.succeeds (omega (arith, c.requires.room, c.len.ensures, c.if-count-len.true)) in
    rw ok at c.append.ensures.other_items ∙ sym (drop_all c.args.count c.args.items.now.items (omega (arith, c.len.ensures, c.if-count-len.true, c.args.items.now.ok)))

pub returns-then-count-len-clause-moved : goal.returns-then-count-len-clause-moved
returns-then-count-len-clause-moved g c =
    let ok = c.append.ensures.succeeds (omega (arith, c.requires.room, c.len.ensures, c.if-count-len.true)) in
    rw ok at c.append.ensures.items
    ∙ ap (λ l. c.args.other.now.items ++ l)
    (sym
    (take_all c.args.count c.args.items.now.items
    (omega (arith, c.len.ensures, c.if-count-len.true, c.args.items.now.ok))))

-- the iterator's items at the start
begins : (g : Over) (c : After-into_iter-item-iterator g) → drain_items c.into_iter-item-iterator.result ≡ take c.args.count c.args.items.now.items
begins g c = ap drain_items c.into_iter-item-iterator.ensures.into_iter_gives ∙ (c.drain-item-items.ensures.rest ∙ front_range c.args.items.now.items c.args.count)

-- what the iterator leaves of the list
module _ (g : Over) (c : After-drop-item-iterator g) where
  kept : drain_kept c.next.new.self ≡ drop c.args.count c.args.items.now.items
  kept = ap drain_kept c.in-None.ensures.steps.1 ∙ (c.loop-item.invariant.keeps.1 ∙ (ap drain_kept c.into_iter-item-iterator.ensures.into_iter_gives ∙ c.drain-item-items.ensures.kept))

  capacity : drain_capacity c.next.new.self ≡ vec_capacity c.args.items.now
  capacity = ap drain_capacity c.in-None.ensures.steps.1 ∙ (c.loop-item.invariant.keeps.2 ∙ (ap drain_capacity c.into_iter-item-iterator.ensures.into_iter_gives ∙ c.drain-item-items.ensures.capacity))

pub loop-item-init : goal.loop-item-init
loop-item-init g c = record {
  callable = tt;
  finite = tt;
  keeps = (refl, refl, refl);
  moved = refl;
  same = refl;
  room = omega (arith, ap (λ l. length l) (begins g c), length-take-le c.args.count c.args.items.now.items c.requires.within, c.requires.room);
}

pub push_reserved-requires : goal.push_reserved-requires
push_reserved-requires g c = omega (arith, ap (λ l. length l) c.in-Some.ensures.steps.0, c.loop-item.invariant.room)

pub loop-item-preserved : goal.loop-item-preserved
loop-item-preserved g c =
    let step = c.in-Some.ensures.steps in
    let at = c.loop-item.invariant in
    record {
      callable = tt;
      finite = tt;
      keeps = (step.2.0 ∙ at.keeps.0, step.2.1 ∙ at.keeps.1, step.2.2 ∙ at.keeps.2);
      moved =
          moved_on c.loop-item.other.items c.push_reserved.new.self.items (drain_items c.loop-item.item-iterator)
          (drain_items c.next.new.self) (c.args.other.now.items ++ drain_items c.into_iter-item-iterator.result)
          c.in-Some.item c.push_reserved.ensures.items step.0 at.moved;
      same = c.push_reserved.ensures.capacity ∙ at.same;
      room = omega (
        arith,
        room_on c.loop-item.other.items c.push_reserved.new.self.items (drain_items c.loop-item.item-iterator) (drain_items c.next.new.self) c.in-Some.item c.push_reserved.ensures.items step.0,
        at.room,
        c.push_reserved.ensures.capacity,
        c.loop-item.other.ok,
        c.push_reserved.new.self.ok,
      );
    }

pub returns-clause-left : goal.returns-clause-left
returns-clause-left g c = let k = kept g (goal.at.returns-clause-left g c).After-drop-item-iterator in search (rules, k)

pub returns-clause-moved : goal.returns-clause-moved
returns-clause-moved g c =
    moved_all c.loop-item.other.items (drain_items c.loop-item.item-iterator)
    (c.args.other.now.items ++ drain_items c.into_iter-item-iterator.result) c.in-None.ensures.steps.0
    c.loop-item.invariant.moved
    ∙ ap (λ l. c.args.other.now.items ++ l) (begins g (goal.at.returns-clause-moved g c).After-into_iter-item-iterator)

pub returns-clause-capacity : goal.returns-clause-capacity
returns-clause-capacity g c = let k = capacity g (goal.at.returns-clause-capacity g c).After-drop-item-iterator in search (rules, k)

pub returns-clause-other_capacity : goal.returns-clause-other_capacity
returns-clause-other_capacity g c = omega (arith, c.loop-item.invariant.same)
