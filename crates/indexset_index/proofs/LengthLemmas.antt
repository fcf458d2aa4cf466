-- The lengths of nodes, as the code stores them.
use Rattle.std.proofs.Common.{◌≡◌, ℕ, ◌+◌, ◌<◌, ◌≤◌, List, [], ◌∷◌, ◌++◌, length, map, sum, take, get_or, ap, ◌∙◌, append_assoc, arith}
use Rattle.std.proofs.Math.ListN.{get_or-map}
use Rattle.std.proofs.lemmas.List.{length-map, take_more}
use Rattle.std.proofs.lemmas.List.Sums.{sum_by-append, sum_by-take-le}
use Rattle.indexset_core.specs.Nodes.{node_lengths}
use Rattle.indexset_core.proofs.CallerLemmas.{node_read}

module _ {X N : Type 0} (held : N → List X) where
  pub length-lengths : (vs : List N) → length (node_lengths (map held vs)) ≡ length vs
  length-lengths vs = length-map (map held vs) (λ n. length n) ∙ length-map vs held

  pub length-read : (vs : List N) (i : ℕ) (v : N) → i < length vs → v ≡ get_or vs i v → get_or (node_lengths (map held vs)) i 0 ≡ length (held v)
  length-read vs i v lt is = get_or-map (λ (n : List X). length n) (map held vs) i [] ∙ ap (λ (n : List X). length n) (node_read held vs i v lt is [])

-- one number more
more : (xs : List ℕ) (i j : ℕ) → j ≡ i + 1 → i < length xs → take j xs ≡ take i xs ++ get_or xs i 0 ∷ []
more xs i j e h = rw e (take_more xs i 0 h)

-- four numbers more
pub take_four : (xs : List ℕ) (i : ℕ) → i + 4 ≤ length xs → take (i + 4) xs ≡ take i xs ++ get_or xs i 0 ∷ get_or xs (i + 1) 0 ∷ get_or xs (i + 2) 0 ∷ get_or xs (i + 3) 0 ∷ []
take_four xs i h =
    let first = more xs i (i + 1) (omega arith) (omega arith) in
    let second = more xs (i + 1) (i + 2) (omega arith) (omega arith) in
    let third = more xs (i + 2) (i + 3) (omega arith) (omega arith) in
    let fourth = more xs (i + 3) (i + 4) (omega arith) (omega arith) in
    rw (fourth, third, second, first) (simp append_assoc)

pub four_fit : (xs : List ℕ) (i : ℕ) → i + 4 ≤ length xs → sum (take i xs) + (get_or xs i 0 + get_or xs (i + 1) 0 + get_or xs (i + 2) 0 + get_or xs (i + 3) 0) ≤ sum xs
four_fit xs i h =
    let all = ap sum (take_four xs i h) ∙ sum_by-append (λ x. x) (take i xs) (get_or xs i 0 ∷ get_or xs (i + 1) 0 ∷ get_or xs (i + 2) 0 ∷ get_or xs (i + 3) 0 ∷ []) in
    omega (arith, all, sum_by-take-le (λ x. x) xs (i + 4))
