-- The bytes of a caller after a loop that writes byte strings one after another.
use Rattle.std.proofs.Common.{◌≡◌, ℕ, zero, suc, ◌+◌, List, [], ◌∷◌, ◌++◌, length, take, drop, min, slice_get, Some, refl, ap, sym, ◌∙◌, arith, append_assoc, append-nil, add-one}
use Rattle.indexset_core.specs.Nodes.{concat}
use Rattle.indexset_ffi.specs.Text.{written_over}

over_none : (b : List ℕ) → written_over [] b ≡ b
over_none [] = refl
over_none (c ∷ b) = refl

pub length-over : (xs b : List ℕ) → length (written_over xs b) ≡ length b
length-over [] b = ap length (over_none b)
length-over (x ∷ xs) [] = refl
length-over (x ∷ xs) (c ∷ b) = ap suc (length-over xs b)

-- more bytes are written after those so far, as many as fit
pub over_more : (xs ys b : List ℕ) (u : ℕ) → u ≡ min (length b) (length xs) → take u (written_over xs b) ++ written_over ys (drop u (written_over xs b)) ≡ written_over (xs ++ ys) b
over_more [] ys b u h = let none : u ≡ 0 = omega (arith, h) in rw none (ap (written_over ys) (over_none b))
over_more (x ∷ xs) ys [] u h = let none : u ≡ 0 = omega (arith, h) in rw none (nothing ys) where
  nothing : (ys : List ℕ) → written_over ys [] ≡ []
  nothing [] = refl
  nothing (y ∷ ys) = refl
over_more (x ∷ xs) ys (c ∷ b) zero h = let no : ⊥ = omega (arith, h) in absurd no
over_more (x ∷ xs) ys (c ∷ b) (suc u) h = ap (λ l. x ∷ l) (over_more xs ys b u (omega (arith, h)))

-- another byte string
next_joined : (ks : List (List ℕ)) (n : ℕ) (k : List ℕ) → slice_get ks n ≡ Some k → concat (take (suc n) ks) ≡ concat (take n ks) ++ k
next_joined [] n k h = grind arith
next_joined (x ∷ ks) zero k h = let same : x ≡ k = grind arith in append-nil x ∙ same
next_joined (x ∷ ks) (suc n) k h = ap (λ l. x ++ l) (next_joined ks n k h) ∙ sym (append_assoc x (concat (take n ks)) k)

pub joined_more : (ks : List (List ℕ)) (n : ℕ) (k : List ℕ) → slice_get ks n ≡ Some k → concat (take (n + 1) ks) ≡ concat (take n ks) ++ k
joined_more ks n k h = ap (λ m. concat (take m ks)) (add-one n) ∙ next_joined ks n k h
