-- The part of a list between two bounds, on the items or on their positions.
use Rattle.std.specs.Prelude.{ℕ, Bool, true, false, ◌&&◌, List, length, filter}
use Rattle.std.specs.List.{between}
use Rattle.std.specs.Ordering.{is_lt, is_le, is_gt, is_ge, nat_cmp}
use Rattle.std.specs.Range.Bound.{start_index, end_index}
use Rattle.std.specs.declared.cmp.Ordering.{Ordering}
use Rattle.std.specs.declared.ops.Bound.{Bound}
use Rattle.std.specs.declared.ops.Bound.TheVariants.{Included, Excluded, Unbounded}

-- P holds of the bound's key, if it has one
abbrev pub IfBounded : {Q : Type 0} → (Q → Type 0) → Bound Q → Type 0
IfBounded P (Included v) = P v
IfBounded P (Excluded v) = P v
IfBounded P Unbounded = Unit {0}

-- items are compared with the keys of bounds, which may be of another type
module _ {T Q : Type 0} (cmp : T → Q → Ordering) where
  -- x is before the start
  abbrev pub is_before : Bound Q → T → Bool
  is_before (Included v) x = is_lt (cmp x v)
  is_before (Excluded v) x = is_le (cmp x v)
  is_before Unbounded x = false

  -- x is not before the start
  abbrev pub is_from_start : Bound Q → T → Bool
  is_from_start (Included v) x = is_ge (cmp x v)
  is_from_start (Excluded v) x = is_gt (cmp x v)
  is_from_start Unbounded x = true

  -- x is not past the end
  abbrev pub is_up_to_end : Bound Q → T → Bool
  is_up_to_end (Included v) x = is_le (cmp x v)
  is_up_to_end (Excluded v) x = is_lt (cmp x v)
  is_up_to_end Unbounded x = true

  -- x satisfies both bounds
  abbrev pub is_within : Bound Q → Bound Q → T → Bool
  is_within start end x = is_from_start start x && is_up_to_end end x

  -- the elements that satisfy both bounds
  abbrev pub in_range : List T → Bound Q → Bound Q → List T
  in_range l start end = filter (is_within start end) l

module _ {T : Type 0} (cmp : T → T → Ordering) where
  -- the start is at most the end, and below it if both are excluded
  abbrev pub are_ordered : Bound T → Bound T → Bool
  are_ordered Unbounded end = true
  are_ordered (Included v) Unbounded = true
  are_ordered (Included v) (Included w) = is_le (cmp v w)
  are_ordered (Included v) (Excluded w) = is_le (cmp v w)
  are_ordered (Excluded v) Unbounded = true
  are_ordered (Excluded v) (Included w) = is_le (cmp v w)
  are_ordered (Excluded v) (Excluded w) = is_lt (cmp v w)

-- the position satisfies both bounds
abbrev pub is_at_position : Bound ℕ → Bound ℕ → ℕ → Bool
is_at_position start end i = is_within nat_cmp start end i

-- the items at the positions that satisfy both bounds: none if the start is past the end
abbrev pub in_positions : {T : Type 0} → List T → Bound ℕ → Bound ℕ → List T
in_positions l start end = between (start_index start) (end_index end (length l)) l
