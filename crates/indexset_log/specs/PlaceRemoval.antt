-- The removal of the item at an optional place.
use Rattle.std.specs.Prelude.{ℕ, ◌<◌, length, List, [], slice_get, Option, Some, None, IfSome}
use Rattle.std.specs.Option.{option_and_then, option_map_or}
use Rattle.indexset_core.specs.Nodes.{concat, node_at}
use Rattle.indexset_events.specs.declared.change.ChangeEventUnassigned.{ChangeEventUnassigned}
use Rattle.indexset_log.specs.Changed.{Change}
use Rattle.indexset_log.specs.Edits.{after_place_removal}
use Rattle.indexset_events.specs.Table.{place_removal_events}
use Rattle.indexset_log.specs.Tree.{Tree}

module _ {T : Type 0} where
  -- an optional place is that of an item
  abbrev pub IsItemPlaceInNodes : List (List T) → Option (ℕ × ℕ) → Type 0
  IsItemPlaceInNodes ns place =
      IfSome place (λ p. (p.0 < length ns) × (p.1 < length (node_at ns p.0)))

  -- the item at an optional place
  abbrev pub placed_item : List (List T) → Option (ℕ × ℕ) → Option T
  placed_item ns place = option_and_then (λ p. slice_get (node_at ns p.0) p.1) place

  -- the events of its removal
  abbrev pub optional_removal_events : Tree T → Option (ℕ × ℕ) → List (ChangeEventUnassigned T)
  optional_removal_events t None = []
  optional_removal_events t (Some p) =
      option_map_or (λ x. place_removal_events t.size t.nodes p.0 p.1 x)
      (slice_get (node_at t.nodes p.0) p.1) []

  -- the tree after it
  abbrev pub after_optional_removal : Tree T → Option (ℕ × ℕ) → Tree T
  after_optional_removal t None = t
  after_optional_removal t (Some p) = after_place_removal t p.0 p.1

  -- the removal
  abbrev pub optional_removal : Tree T → Option (ℕ × ℕ) → Change T
  optional_removal t place = record {
    tree = after_optional_removal t place;
    items = concat (after_optional_removal t place).nodes;
    events = optional_removal_events t place;
  }
