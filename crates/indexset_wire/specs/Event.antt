-- The text of an event, and how it is read.
use Rattle.std.specs.Prelude.{ℕ, ◌^◌, ◌<◌, if◌then◌else◌, List, ◌∷◌, ◌++◌}
use Rattle.std.specs.Prelude.{Option, None, Some, codes}
use Rattle.std.specs.Fmt.{decimal}
use Rattle.std.specs.Option.{option_map, option_and_then}
use Rattle.std.specs.Str.{bytes_eq}
use Rattle.indexset_events.specs.declared.change.ChangeEvent.{ChangeEvent}
use Rattle.indexset_events.specs.declared.change.ChangeEvent.TheVariants.{
  InsertAt,
  RemoveAt,
  CreateNode,
  RemoveNode,
  SplitNode,
  MergeNodes,
}
use Rattle.indexset_events.specs.declared.change.Id.{Id}
use Rattle.indexset_wire.specs.Numbers.{number_of}
use Rattle.indexset_wire.specs.Parts.{cut_at}
use Rattle.indexset_wire.specs.Texts.{Texts}

module _ {T : Type 0} (texts : Texts T) where
  -- the first fields of an event: its number, its word, and the maximum of its node
  abbrev pub event_head : Id → List ℕ → T → List ℕ
  event_head id word m = decimal id.0 ++ (word ++ texts.text m)

  -- the text of an event: one line, without its end
  abbrev pub event_text : ChangeEvent T → List ℕ
  event_text (CreateNode id m) = event_head id (codes " create ") m
  event_text (RemoveNode id m) = event_head id (codes " drop ") m
  event_text (InsertAt id m v i) =
      event_head id (codes " insert ") m ++ 32 ∷ (texts.text v ++ 32 ∷ decimal i)
  event_text (RemoveAt id m v i) =
      event_head id (codes " remove ") m ++ 32 ∷ (texts.text v ++ 32 ∷ decimal i)
  event_text (SplitNode id m k) = event_head id (codes " split ") m ++ 32 ∷ decimal k
  event_text (MergeNodes id m w) = event_head id (codes " merge ") m ++ 32 ∷ texts.text w

  -- the items and the numbers of an event are in range
  abbrev pub EventInRange : ChangeEvent T → Type 0
  EventInRange (CreateNode id m) = (id.0 < 2 ^ 64) × texts.InRange m
  EventInRange (RemoveNode id m) = (id.0 < 2 ^ 64) × texts.InRange m
  EventInRange (InsertAt id m v i) =
      (id.0 < 2 ^ 64) × texts.InRange m × texts.InRange v × (i < 2 ^ 64)
  EventInRange (RemoveAt id m v i) =
      (id.0 < 2 ^ 64) × texts.InRange m × texts.InRange v × (i < 2 ^ 64)
  EventInRange (SplitNode id m k) = (id.0 < 2 ^ 64) × texts.InRange m × (k < 2 ^ 64)
  EventInRange (MergeNodes id m w) = (id.0 < 2 ^ 64) × texts.InRange m × texts.InRange w

  -- the event of a number, a word, a node's maximum, an item and an index
  abbrev pub placed_event : Id → List ℕ → T → T → ℕ → Option (ChangeEvent T)
  placed_event id word m v i =
      if bytes_eq word (codes "insert") then Some (InsertAt id m v i)
      else if bytes_eq word (codes "remove") then Some (RemoveAt id m v i)
      else None

  -- the event of a number, a word, a node's maximum and the text after it, which is an item and an
  -- index
  abbrev pub item_event : Id → List ℕ → T → List ℕ → Option (ChangeEvent T)
  item_event id word m rest =
      option_and_then (λ cut.
      option_and_then (λ v. option_and_then (placed_event id word m v) (number_of cut.1))
      (texts.parse cut.0))
      (cut_at 32 rest)

  -- the event of a number, a word, a node's maximum and the text after it
  abbrev pub named_event : Id → List ℕ → T → List ℕ → Option (ChangeEvent T)
  named_event id word m rest =
      if bytes_eq word (codes "split") then option_map (SplitNode id m) (number_of rest)
      else if bytes_eq word (codes "merge") then option_map (MergeNodes id m) (texts.parse rest)
      else item_event id word m rest

  -- the event of a number, a word and the text after it
  abbrev pub word_event : Id → List ℕ → List ℕ → Option (ChangeEvent T)
  word_event id word rest =
      if bytes_eq word (codes "create") then option_map (CreateNode id) (texts.parse rest)
      else if bytes_eq word (codes "drop") then option_map (RemoveNode id) (texts.parse rest)
      else option_and_then
      (λ cut. option_and_then (λ m. named_event id word m cut.1) (texts.parse cut.0))
      (cut_at 32 rest)

  -- the event of a line: a number, a word and the rest, separated by spaces
  abbrev pub event_of : List ℕ → Option (ChangeEvent T)
  event_of line =
      option_and_then (λ cut.
      option_and_then
      (λ n. option_and_then (λ more. word_event (record { 0 = n }) more.0 more.1) (cut_at 32 cut.1))
      (number_of cut.0))
      (cut_at 32 line)
