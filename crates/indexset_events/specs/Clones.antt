-- Events whose items are clones of those of another event.
use Rattle.std.specs.Prelude.{◌≡◌, ℕ, List, [], ◌∷◌}
use Rattle.std.specs.List.{AllZip}
use Rattle.indexset_events.specs.declared.change.ChangeEvent.{ChangeEvent}
use Rattle.indexset_events.specs.declared.change.ChangeEvent.TheVariants as numbered
use Rattle.indexset_events.specs.declared.change.ChangeEventUnassigned.{ChangeEventUnassigned}
use Rattle.indexset_events.specs.Replay.{numbered_from}

-- the items of an event
abbrev pub event_items : {T : Type 0} → ChangeEvent T → List T
event_items (numbered.InsertAt id m v i) = m ∷ v ∷ []
event_items (numbered.RemoveAt id m v i) = m ∷ v ∷ []
event_items (numbered.CreateNode id m) = m ∷ []
event_items (numbered.RemoveNode id m) = m ∷ []
event_items (numbered.SplitNode id m k) = m ∷ []
event_items (numbered.MergeNodes id m w) = m ∷ w ∷ []

-- an event without its items: the kind, the number and the index
abbrev pub event_shape : {T : Type 0} → ChangeEvent T → ChangeEvent (Unit {0})
event_shape (numbered.InsertAt id m v i) = numbered.InsertAt id tt tt i
event_shape (numbered.RemoveAt id m v i) = numbered.RemoveAt id tt tt i
event_shape (numbered.CreateNode id m) = numbered.CreateNode id tt
event_shape (numbered.RemoveNode id m) = numbered.RemoveNode id tt
event_shape (numbered.SplitNode id m k) = numbered.SplitNode id tt k
event_shape (numbered.MergeNodes id m w) = numbered.MergeNodes id tt tt

-- f is e with clones in the place of its items
abbrev pub IsEventClone : {T : Type 0} → (T → T → Type 0) → ChangeEvent T → ChangeEvent T → Type 0
IsEventClone C e f = (event_shape f ≡ event_shape e) × AllZip C (event_items e) (event_items f)

-- the events are those of the table, numbered from s, with clones in the place of their items
abbrev pub AreTableEvents : {T : Type 0} → (T → T → Type 0) → ℕ → List (ChangeEventUnassigned T)
    → List (ChangeEvent T) → Type 0
AreTableEvents C s table events = AllZip (IsEventClone C) (numbered_from s table) events
