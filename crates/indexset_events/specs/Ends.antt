-- The item at a position: its place, and the events of its removal.
use Rattle.std.specs.Prelude.{◌≡◌, ℕ, ◌<◌, length, List, [], slice_get}
use Rattle.std.specs.Option.{option_map_or}
use Rattle.std.specs.declared.cmp.Ordering.{Ordering}
use Rattle.indexset_core.specs.Nodes.{concat, node_at}
use Rattle.indexset_events.specs.declared.change.ChangeEventUnassigned.{ChangeEventUnassigned}
use Rattle.indexset_core.specs.Places.{items_before}
use Rattle.indexset_events.specs.Table.{removal_events}

module _ {T : Type 0} where
  -- p is the place of the item at position i
  pub record IsItemAt (ns : List (List T)) (p : ℕ × ℕ) (i : ℕ) : Type 0 where
    pub node_in : p.0 < length ns
    pub offset_in : p.1 < length (node_at ns p.0)
    pub before : items_before ns p ≡ i

  -- the events of the removal of the item at position i, if any
  unfoldable pub removal_events_at : (T → T → Ordering) → ℕ → List (List T) → ℕ
      → List (ChangeEventUnassigned T)
  removal_events_at cmp size ns i =
      option_map_or (λ x. removal_events cmp size ns x) (slice_get (concat ns) i) []
