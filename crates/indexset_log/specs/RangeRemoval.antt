-- The removal of ranges.
use Rattle.std.specs.Prelude.{not, List, filter, map}
use Rattle.std.specs.declared.cmp.Ordering.{Ordering}
use Rattle.std.specs.declared.ops.Bound.{Bound}
use Rattle.indexset_core.specs.KeyRange.{is_within}
use Rattle.indexset_events.specs.Nodes.{is_filled}

module _ {T Q : Type 0} (cmp : T → Q → Ordering) where
  -- the items that do not satisfy both bounds
  abbrev pub outside : Bound Q → Bound Q → List T → List T
  outside start end l = filter (λ x. not (is_within cmp start end x)) l

  -- the nodes without their items within the bounds, and without the nodes that are then empty
  abbrev pub without_range : List (List T) → Bound Q → Bound Q → List (List T)
  without_range ns start end = filter is_filled (map (outside start end) ns)
