-- Tests of nodes.
use Rattle.std.specs.Prelude.{◌≡◌, ℕ, Bool, true, false, List, [], ◌∷◌, ◌&&◌, map, min, sum_by}
use Rattle.std.below.core.specs.declared.int.usize.TheConstants.{MAX}
use Rattle.std.specs.declared.cmp.Ordering.{Ordering}
use Rattle.std.specs.Ordering.{is_lt}
use Rattle.std.specs.List.{list_all}
use Rattle.indexset_core.specs.Nodes.{concat}

-- the last item, or d
abbrev pub last_of : {T : Type 0} → List T → T → T
last_of [] d = d
last_of (x ∷ xs) d = last_of xs x

-- the list is not empty
abbrev pub is_filled : {T : Type 0} → List T → Bool
is_filled [] = false
is_filled (x ∷ xs) = true

-- each item is below every later one
abbrev pub is_ascending : {T : Type 0} → (T → T → Ordering) → List T → Bool
is_ascending cmp [] = true
is_ascending cmp (x ∷ xs) = list_all (λ y. is_lt (cmp x y)) xs && is_ascending cmp xs

-- no node is empty, and the concatenation ascends: the test of `IsNodeList`
unfoldable pub are_nodes : {T : Type 0} → (T → T → Ordering) → List (List T) → Bool
are_nodes cmp ns = list_all is_filled ns && is_ascending cmp (concat ns)

-- the total is the sum of the capacities of nodes with these items, at most MAX
abbrev pub AddsUp : {N T : Type 0} → (N → List T) → (N → ℕ) → List (List T) → ℕ → Type 0
AddsUp {N} list room lists total =
    (ns : List N) × (map list ns ≡ lists) × (total ≡ min MAX (sum_by room ns))
