use Rattle.std.proofs.Common.{◌≡◌, ◌++◌, length, take, drop, refl, ap, ◌∙◌, arith, rules}
use Rattle.std.proofs.lemmas.List.{length-drop}
use Rattle.arrayvec.specs.Iter.{drain_items, drain_kept}
use Rattle.indexset_core.proofs.MoveLemmas.{moved_on, room_on, moved_all, tail_range, tail_left}
use Rattle.indexset_core.proofs.array_node.move_tail.Given.{Over}
use Rattle.indexset_core.proofs.array_node.move_tail.Goals as goal
use Rattle.indexset_core.proofs.array_node.move_tail.Goals.{After-drop-item-iterator, After-into_iter-item-iterator}

-- the iterator's items at the start
begins : (g : Over) (c : After-into_iter-item-iterator g) → drain_items c.into_iter-item-iterator.result ≡ drop c.args.index c.args.items.now.items
begins g c = ap drain_items c.into_iter-item-iterator.ensures.into_iter_gives ∙ (c.drain-item-items.ensures.rest ∙ tail_range c.args.items.now.items c.args.index (length c.args.items.now.items) refl)

-- what the iterator leaves of the list
kept : (g : Over) (c : After-drop-item-iterator g) → drain_kept c.next.new.self ≡ take c.args.index c.args.items.now.items
kept g c =
    ap drain_kept c.in-None.ensures.steps.1
    ∙ (c.loop-item.invariant.keeps.1
    ∙ (ap drain_kept c.into_iter-item-iterator.ensures.into_iter_gives
    ∙ (c.drain-item-items.ensures.kept
    ∙ tail_left c.args.items.now.items c.args.index (length c.args.items.now.items) refl)))

pub loop-item-init : goal.loop-item-init
loop-item-init g c = record {
  callable = rw c.into_iter-item-iterator.ensures.into_iter_gives c.drain-item-items.ensures.ready;
  finite = tt;
  keeps = (refl, refl);
  moved = refl;
  room = omega (arith, ap (λ l. length l) (begins g c), length-drop c.args.index c.args.items.now.items, c.requires.room);
}

pub loop-item-smaller : goal.loop-item-smaller
loop-item-smaller g c = (c.in-Some.ensures.goes.on tt).2

pub loop-item-preserved : goal.loop-item-preserved
loop-item-preserved g c =
    let step = c.in-Some.ensures.steps in
    let at = c.loop-item.invariant in
    record {
      callable = c.in-Some.ensures.goes.keeps;
      finite = tt;
      keeps = (step.1.0 ∙ at.keeps.0, step.1.1 ∙ at.keeps.1);
      moved =
          moved_on c.loop-item.other.items c.push.new.self.items (drain_items c.loop-item.item-iterator)
          (drain_items c.next.new.self) (c.args.other.now.items ++ drain_items c.into_iter-item-iterator.result)
          c.in-Some.item c.push.ensures.items step.0 at.moved;
      room = omega (
        arith,
        room_on c.loop-item.other.items c.push.new.self.items (drain_items c.loop-item.item-iterator) (drain_items c.next.new.self) c.in-Some.item c.push.ensures.items step.0,
        at.room,
      );
    }

pub returns-clause-left : goal.returns-clause-left
returns-clause-left g c = let k = kept g (goal.at.returns-clause-left g c).After-drop-item-iterator in search (rules, k)

pub returns-clause-moved : goal.returns-clause-moved
returns-clause-moved g c =
    moved_all c.loop-item.other.items (drain_items c.loop-item.item-iterator)
    (c.args.other.now.items ++ drain_items c.into_iter-item-iterator.result) c.in-None.ensures.steps.0
    c.loop-item.invariant.moved
    ∙ ap (λ l. c.args.other.now.items ++ l) (begins g (goal.at.returns-clause-moved g c).After-into_iter-item-iterator)
