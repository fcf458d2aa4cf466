-- Items of a list that is read one by one, and of a part of it.
use Rattle.std.proofs.Common.{◌≡◌, ℕ, zero, suc, ◌+◌, ◌-◌, ◌<◌, ◌≤◌, Bool, true, false, List, [], ◌∷◌, length, take, drop, find, slice_get, Some, refl, ap, sym, ◌∙◌, add-one, arith}
use Rattle.std.specs.List.{between}
use Rattle.std.proofs.lemmas.List.{length-drop}

-- the next item, at index i, is x, and t is the rest after it
pub record Next {X : Type 0} (l : List X) (i : ℕ) (x : X) (t : List X) : Type 0 where
  pub inside : i < length l
  pub here : slice_get l i ≡ Some x
  pub rest : t ≡ drop (i + 1) l

module _ {X : Type 0} where
  pub next_read : (l : List X) (i : ℕ) (x : X) (t : List X) → x ∷ t ≡ drop i l → Next l i x t
  next_read [] zero x t e = absurd (omega (arith, ap (λ m. length m) e))
  next_read [] (suc i) x t e = absurd (omega (arith, ap (λ m. length m) e))
  next_read (y ∷ l) zero x t e = record { inside = omega arith; here = ap (λ m. slice_get m 0) (sym e); rest = ap (λ m. drop 1 m) e }
  next_read (y ∷ l) (suc i) x t e =
      let n = next_read l i x t e in
      record { inside = omega (arith, n.inside); here = n.here; rest = rw add-one (rw add-one at n.rest) }

  find_here : (q : X → Bool) (x : X) (t : List X) → q x ≡ true → find q (x ∷ t) ≡ Some x
  find_here q x t e = rw e refl

  find_later : (q : X → Bool) (x : X) (t : List X) → q x ≡ false → find q (x ∷ t) ≡ find q t
  find_later q x t e = rw e refl

  -- the first item that passes, of the rest from index i on
  module _ (q : X → Bool) (l r : List X) (i : ℕ) (x : X) (t : List X) (left : r ≡ drop i l) (so_far : find q r ≡ find q l) (next : r ≡ x ∷ t) where
    pub read : Next l i x t
    read = next_read l i x t (sym next ∙ left)

    pub first_is : q x ≡ true → slice_get l i ≡ find q l
    first_is e = let n = read in n.here ∙ (sym (find_here q x t e) ∙ (ap (λ m. find q m) (sym next) ∙ so_far))

    pub first_later : q x ≡ false → find q t ≡ find q l
    first_later e = sym (find_later q x t e) ∙ (ap (λ m. find q m) (sym next) ∙ so_far)

  slice_take : (l : List X) (n i : ℕ) → i < length (take n l) → slice_get (take n l) i ≡ slice_get l i
  slice_take [] zero i lt = refl
  slice_take [] (suc n) i lt = refl
  slice_take (x ∷ l) zero i lt = absurd (omega arith)
  slice_take (x ∷ l) (suc n) zero lt = refl
  slice_take (x ∷ l) (suc n) (suc i) lt = slice_take l n i (omega arith)

  slice_drop : (l : List X) (n i : ℕ) → slice_get (drop n l) i ≡ slice_get l (n + i)
  slice_drop [] zero i = refl
  slice_drop [] (suc n) i = refl
  slice_drop (x ∷ l) zero i = let e : i ≡ 0 + i = omega arith in ap (λ j. slice_get (x ∷ l) j) e
  slice_drop (x ∷ l) (suc n) i = let e : suc (n + i) ≡ suc n + i = omega arith in slice_drop l n i ∙ ap (λ j. slice_get (x ∷ l) j) e

  take_fewer : (n : ℕ) (l : List X) → length (take n l) ≤ length l
  take_fewer zero [] = omega arith
  take_fewer zero (x ∷ l) = omega arith
  take_fewer (suc n) [] = omega arith
  take_fewer (suc n) (x ∷ l) = omega (arith, take_fewer n l)

  -- an item of a part is an item of the whole
  module _ (a b : ℕ) (l : List X) (i : ℕ) (lt : i < length (between a b l)) where
    pub between_inside : a + i < length l
    between_inside = omega (arith, lt, take_fewer (b - a) (drop a l), length-drop a l)

    pub slice_between : slice_get (between a b l) i ≡ slice_get l (a + i)
    slice_between = slice_take (drop a l) (b - a) i lt ∙ slice_drop l a i
