-- Items that are moved one by one from the front of a list to the end of another.
use Rattle.std.proofs.Common.{◌≡◌, ℕ, ◌+◌, ◌-◌, List, [], ◌∷◌, ◌++◌, length, take, drop, sym, ap, ◌∙◌, arith, append_assoc, length-append}
use Rattle.std.proofs.lemmas.List.{append-nil, drop_all, length-drop, take_all}
use Rattle.std.specs.List.{slice_range, remove_range}

module _ {X : Type 0} where
  -- one item more
  pub moved_on : (front on left rest all : List X) (x : X) → on ≡ front ++ x ∷ [] → left ≡ x ∷ rest → front ++ left ≡ all → on ++ rest ≡ all
  moved_on front on left rest all x e f g = ap (λ l. l ++ rest) e ∙ (append_assoc front (x ∷ []) rest ∙ (sym (ap (λ l. front ++ l) f) ∙ g))

  -- there is room for the rest
  pub room_on : (front on left rest : List X) (x : X) → on ≡ front ++ x ∷ [] → left ≡ x ∷ rest → length on + length rest ≡ length front + length left
  room_on front on left rest x e f = omega (arith, ap (λ (l : List X). length l) e, ap (λ (l : List X). length l) f, length-append front (x ∷ []))

  -- no item remains
  pub moved_all : (front left all : List X) → left ≡ [] → front ++ left ≡ all → front ≡ all
  moved_all front left all e g = sym (append-nil front) ∙ (sym (ap (λ l. front ++ l) e) ∙ g)

  -- the range from an index to the end, and the list without it
  pub tail_range : (xs : List X) (i n : ℕ) → n ≡ length xs → slice_range xs i n ≡ drop i xs
  tail_range xs i n e = take_all (n - i) (drop i xs) (omega (arith, length-drop i xs))

  pub tail_left : (xs : List X) (i n : ℕ) → n ≡ length xs → remove_range xs i n ≡ take i xs
  tail_left xs i n e = ap (λ l. take i xs ++ l) (drop_all n xs (omega arith)) ∙ append-nil (take i xs)

  pub front_range : (xs : List X) (n : ℕ) → slice_range xs 0 n ≡ take n xs
  front_range xs n = let e : n - 0 ≡ n = omega arith in ap (λ m. take m xs) e
