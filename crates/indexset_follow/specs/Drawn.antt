-- Lines of events with losses and repeats, in any order.
use Rattle.std.specs.Prelude.{◌≡◌, ℕ, ◌+◌, ◌-◌, ◌<◌, ◌≤◌, Some, slice_get, List, [], ◌∷◌}
use Rattle.indexset_bench.specs.PairText.{event_text}
use Rattle.indexset_core.specs.Pairs.{by_key}
use Rattle.indexset_core.specs.declared.pair.Pair.{Pair}
use Rattle.indexset_events.specs.Replay.{event_number}
use Rattle.indexset_replica.specs.Delivery.{IsAt, IsEventLog}
use Rattle.indexset_follow.specs.Early.{AscendFrom}
use Rattle.indexset_follow.specs.EventLine.{Event, event_of}
use Rattle.indexset_follow.specs.Follow.{State, after_line}
use Rattle.indexset_follow.specs.Told.{IsAmong}
use Rattle.std.specs.declared.cmp.Ordering.{Ordering}
use Rattle.indexset_wire.specs.Texts.{Texts}

module _ {T : Type 0} (texts : Texts T) where
  -- the line is the text of one of the events
  pub record IsDrawn (es : List (Event T)) (line : List ℕ) : Type 0 where
    pub place : ℕ
    pub event : Event T
    pub at : slice_get es place ≡ Some event
    pub text : line ≡ event_text texts event

module _ {T : Type 0} (cmp : T → T → Ordering) where
  -- the events are numbered from s on without a gap, and apply to these nodes one after another
  abbrev pub IsFeedOfPairs : ℕ → List (List (Pair T T)) → List (Event T) → Type 0
  IsFeedOfPairs s ns es = IsEventLog (by_key cmp) s ns es

  -- the nodes are those after the first k events, and the event after these is awaited
  abbrev pub HoldsFirst : ℕ → List (List (Pair T T)) → List (Event T) → ℕ → State T → Type 0
  HoldsFirst s ns es k r = IsAt (by_key cmp) s ns es k r.held

module _ {T : Type 0} where
  -- the event has its place in the list by its number, where the first number is s
  abbrev pub IsOneOf : ℕ → List (Event T) → Pair ℕ (Event T) → Type 0
  IsOneOf s es p = slice_get es (p.key - s) ≡ Some p.value

  -- each early event is one of those after the awaited event
  abbrev pub HoldsAhead : ℕ → List (Event T) → State T → Type 0
  HoldsAhead s es r = AscendFrom (IsOneOf s es) (r.held.next + 1) r.early

module _ {T : Type 0} (cmp : T → T → Ordering) (texts : Texts T) where
  -- when the line of an event comes, the event is ahead of the awaited one by at most the window
  abbrev pub AreWithin : State T → List (List ℕ) → Type 0
  AreWithin r [] = Unit {0}
  AreWithin r (line ∷ lines) =
      ((e : Event T) → event_of texts line ≡ Some e → event_number e ≤ r.held.next + r.window)
      × AreWithin (after_line cmp texts r line) lines

module _ {T : Type 0} (texts : Texts T) where
  -- k is the first place from j on whose event is not among the lines
  pub record IsFirstMissing (es : List (Event T)) (j : ℕ) (lines : List (List ℕ))
      (k : ℕ) : Type 0 where
    pub from : j ≤ k
    pub came : (p : ℕ) (e : Event T) → j ≤ p → p < k → slice_get es p ≡ Some e
        → IsAmong lines (event_text texts e)
    pub missing : (e : Event T) → slice_get es k ≡ Some e → IsAmong lines (event_text texts e) → ⊥
