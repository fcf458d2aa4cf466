-- The texts of pairs, events and nodes, from the texts of keys and values.
use Rattle.std.specs.Prelude.{ℕ, List, [], ◌∷◌, ◌++◌, map}
use Rattle.std.specs.List.{concat, join_with_byte}
use Rattle.indexset_core.specs.declared.pair.Pair.{Pair}
use Rattle.indexset_events.specs.declared.change.ChangeEvent.{ChangeEvent}
use Rattle.indexset_wire.specs.Event.{event_text as text_of_event}
use Rattle.indexset_wire.specs.Pairs.{pair_texts}
use Rattle.indexset_wire.specs.Texts.{Texts}

-- a text followed by a byte 10
abbrev pub ended : List ℕ → List ℕ
ended text = text ++ 10 ∷ []

-- one line for each element
abbrev pub lines_for : {X : Type 0} → (X → List ℕ) → List X → List ℕ
lines_for text xs = concat (map (λ x. ended (text x)) xs)

module _ {T : Type 0} (texts : Texts T) where
  -- the text of a pair of keys
  abbrev pub pair_text : Pair T T → List ℕ
  pair_text p = (pair_texts texts texts).text p

  -- the text of an event whose items are pairs
  abbrev pub event_text : ChangeEvent (Pair T T) → List ℕ
  event_text e = text_of_event (pair_texts texts texts) e

  -- the pairs of a node, separated by spaces
  abbrev pub node_text : List (Pair T T) → List ℕ
  node_text n = join_with_byte 32 (map pair_text n)
