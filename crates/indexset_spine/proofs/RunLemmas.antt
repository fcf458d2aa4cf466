-- Lists compared part by part.
use Rattle.std.proofs.Common.{◌≡◌, ℕ, suc, ◌<◌, ◌≤◌, Bool, ◌&&◌, List, [], ◌∷◌, ◌++◌, length, drop, get_or, refl, ap, ap₂, ◌∙◌, sym, arith}
use Rattle.std.proofs.Math.Bool.{and_assoc, and-true}
use Rattle.std.proofs.Math.Seq.{drop-cons}
use Rattle.std.proofs.Math.ListN.{drop_of_length-le}
use Rattle.std.specs.Cmp.Lexicographic.{pointwise}

module _ {X : Type 0} (E : X → X → Bool) where
  pub pointwise-append : (xs ys us vs : List X) → length xs ≡ length ys → pointwise E (xs ++ us) (ys ++ vs) ≡ (pointwise E xs ys && pointwise E us vs)
  pointwise-append [] [] us vs e = refl
  pointwise-append [] (y ∷ ys) us vs e = absurd (omega arith)
  pointwise-append (x ∷ xs) [] us vs e = absurd (omega arith)
  pointwise-append (x ∷ xs) (y ∷ ys) us vs e =
      ap (λ b. E x y && b) (pointwise-append xs ys us vs (omega arith)) ∙ sym (and_assoc (E x y) (pointwise E xs ys) (pointwise E us vs))

  -- the first of what is left, and the rest
  pub pointwise-drop : (xs ys : List X) (i : ℕ) (x y : X) → i < length xs → i < length ys → x ≡ get_or xs i x
      → y ≡ get_or ys i y
      → pointwise E (drop i xs) (drop i ys) ≡ (E x y && pointwise E (drop (suc i) xs) (drop (suc i) ys))
  pointwise-drop xs ys i x y inside within first second =
      ap₂ (pointwise E) (drop-cons xs i x inside ∙ ap (λ z. z ∷ drop (suc i) xs) (sym first)) (drop-cons ys i y within ∙ ap (λ z. z ∷ drop (suc i) ys) (sym second))

  -- the answer so far, and what is left
  pub compared_on : (same : Bool) (xs ys : List X) (i : ℕ) (x y : X) → i < length xs → i < length ys → x ≡ get_or xs i x → y ≡ get_or ys i y
      → ((same && E x y) && pointwise E (drop (suc i) xs) (drop (suc i) ys)) ≡ (same && pointwise E (drop i xs) (drop i ys))
  compared_on same xs ys i x y inside within first second =
      and_assoc same (E x y) (pointwise E (drop (suc i) xs) (drop (suc i) ys))
      ∙ ap (λ b. same && b) (sym (pointwise-drop xs ys i x y inside within first second))

  -- nothing is left
  pub compared_all : (same : Bool) (xs ys : List X) (i : ℕ) → length xs ≤ i → length ys ≤ i → same ≡ (same && pointwise E (drop i xs) (drop i ys))
  compared_all same xs ys i p q = sym (ap (λ b. same && b) (ap₂ (pointwise E) (drop_of_length-le xs p) (drop_of_length-le ys q)) ∙ and-true same)
