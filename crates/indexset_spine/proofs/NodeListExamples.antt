-- Worked examples of the cut: the numbers from 1 to 7 in nodes of two.
use Rattle.std.proofs.Common.{◌≡◌, ℕ, true, ◌-◌, List, [], ◌∷◌, length, refl}
use Rattle.indexset_core.specs.Nodes.{node_at}
use Rattle.indexset_spine.specs.NodeList.{first_spot, parts_with, with_inserted}

-- v is inserted after the last item
abbrev put_last : List (List ℕ) → ℕ → List (List ℕ)
put_last ns v = with_inserted 2 ns record { node = length ns - 1; offset = length (node_at ns (length ns - 1)); found = true } v

-- v is inserted before the first item
abbrev put_first : List (List ℕ) → ℕ → List (List ℕ)
put_first ns v = with_inserted 2 ns first_spot v

ascending : put_last (put_last (put_last (put_last (put_last (put_last (put_last ([] ∷ []) 1) 2) 3) 4) 5) 6) 7
    ≡ (1 ∷ []) ∷ (2 ∷ []) ∷ (3 ∷ []) ∷ (4 ∷ []) ∷ (5 ∷ []) ∷ (6 ∷ 7 ∷ []) ∷ []
unfolding with_inserted parts_with
ascending = refl

descending : put_first (put_first (put_first (put_first (put_first (put_first (put_first ([] ∷ []) 7) 6) 5) 4) 3) 2) 1
    ≡ (1 ∷ 2 ∷ []) ∷ (3 ∷ []) ∷ (4 ∷ []) ∷ (5 ∷ []) ∷ (6 ∷ []) ∷ (7 ∷ []) ∷ []
unfolding with_inserted parts_with
descending = refl
