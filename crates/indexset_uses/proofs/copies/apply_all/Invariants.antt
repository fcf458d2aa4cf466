-- Replaying the events so far gives the nodes so far, and replaying the others gives the nodes
-- after all events.
use Rattle.std.proofs.Common.{◌≡◌, ◌+◌, List, Some, drop, take}
use Rattle.std.specs.List.{AllZip}
use Rattle.indexset.specs.Words.{replay, AreClonesEqual, AreCopies, IsEventClone}
use Rattle.indexset_uses.proofs.Copied.{IsOnTheWay}
use Rattle.indexset_uses.proofs.copies.apply_all.Given as goal

abbrev pub invariant-loop-event : goal.invariant-loop-event
invariant-loop-event g l =
    let cmp = g.T.Ord.cmp in
    let C = g.T.Clone.is_clone in
    record {
      counted : l.copy.next ≡ l.initial.copy.next + l.event-index;
      applied : ((x y : _) → C x y → y ≡ x) → replay cmp l.initial.copy.nodes (take l.event-index l.events) ≡ Some l.copy.nodes;
      copies : AreClonesEqual cmp C → (ns after : List (List g.row.T.Denot)) (es : List _)
          → AreCopies cmp C ns l.initial.copy.nodes → AllZip (IsEventClone C) es l.initial.events
          → replay cmp ns es ≡ Some after → IsOnTheWay cmp C after l.copy.nodes (drop l.event-index l.events);
    }
