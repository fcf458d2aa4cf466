-- The line of an event whose items are pairs.
use Rattle.std.specs.Prelude.{ℕ, List, Option}
use Rattle.indexset_core.specs.declared.pair.Pair.{Pair}
use Rattle.indexset_events.specs.declared.change.ChangeEvent.{ChangeEvent}
use Rattle.indexset_wire.specs.Event.{EventInRange, event_of as event_of_text}
use Rattle.indexset_wire.specs.Pairs.{pair_texts}
use Rattle.indexset_wire.specs.Texts.{Texts}

-- an event whose items are pairs
abbrev pub Event : Type 0 → Type 0
Event T = ChangeEvent (Pair T T)

module _ {T : Type 0} (texts : Texts T) where
  -- the numbers of an event have at most 64 bits, and its keys and values are in range
  abbrev pub EventFits : Event T → Type 0
  EventFits e = EventInRange (pair_texts texts texts) e

  -- the event of a line
  abbrev pub event_of : List ℕ → Option (Event T)
  event_of line = event_of_text (pair_texts texts texts) line
