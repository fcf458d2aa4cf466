-- Pairs that are inserted one after another.
use Rattle.std.proofs.Common.{◌≡◌, ℕ, zero, suc, ◌+◌, ◌<◌, List, [], ◌∷◌, take, length, slice_index_or, add-one, refl, ap, ◌∙◌, arith}
use Rattle.std.specs.Ordering.{nat_cmp}
use Rattle.indexset_core.specs.declared.pair.Pair.{Pair}
use Rattle.indexset_core.specs.Pairs.{put_value}
use Rattle.indexset_ffi.specs.Elements.{put_in_turn}

put_next : (ps : List (Pair ℕ ℕ)) (ks ws : List ℕ) (n : ℕ) → n < length ks → n < length ws
    → put_in_turn ps (take (suc n) ks) (take (suc n) ws)
    ≡ put_value nat_cmp (put_in_turn ps (take n ks) (take n ws)) (slice_index_or ks n 0) (slice_index_or ws n 0)
unfolding put_in_turn
put_next ps [] ws n h g = let no : ⊥ = omega (arith, h) in absurd no
put_next ps (k ∷ ks) [] n h g = let no : ⊥ = omega (arith, g) in absurd no
put_next ps (k ∷ ks) (w ∷ ws) zero h g = refl
put_next ps (k ∷ ks) (w ∷ ws) (suc n) h g = put_next (put_value nat_cmp ps k w) ks ws n (omega (arith, h)) (omega (arith, g))

-- another pair is inserted
pub put_more : (ps : List (Pair ℕ ℕ)) (ks ws : List ℕ) (n : ℕ) → n < length ks → n < length ws
    → put_in_turn ps (take (n + 1) ks) (take (n + 1) ws)
    ≡ put_value nat_cmp (put_in_turn ps (take n ks) (take n ws)) (slice_index_or ks n 0) (slice_index_or ws n 0)
put_more ps ks ws n h g = ap (λ m. put_in_turn ps (take m ks) (take m ws)) (add-one n) ∙ put_next ps ks ws n h g
