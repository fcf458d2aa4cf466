-- A list whose last item was moved from an index by rotations of successive parts.
use Rattle.std.proofs.Common.{◌≡◌, ℕ, suc, ◌+◌, ◌<◌, ◌≤◌, List, [], ◌∷◌, ◌++◌, length, take, drop, get_or, sym, ap, ap₂, ◌∙◌, arith, append_assoc}
use Rattle.std.proofs.Math.Seq.{drop-cons, take-add}
use Rattle.std.proofs.lemmas.List.{drop-drop, drop_at, length-take-le, same_from_push, take-append-drop, take_at, with_items_is}
use Rattle.std.proofs.lemmas.List.Edits.{insert_end, length-insert}
use Rattle.std.specs.List.{insert, remove}
use Rattle.std.specs.Vec.{with_items}
use Rattle.std.specs.declared.vec.Vec.{Vec}
use borrow.Rule.Slice.PartMut.{put_mid, mid_of}

module _ {X : Type 0} where
  -- before the first rotation
  pub not_turned : (xs : List X) (i : ℕ) (d : X) → i < length xs → xs ≡ insert (remove xs i) i (get_or xs i d)
  not_turned xs i d h =
      let long = length-take-le i xs (omega (arith, h)) in
      sym (ap₂ (λ u v. u ++ get_or xs i d ∷ v) (take_at (take i xs) (drop (suc i) xs) i long) (drop_at (take i xs) (drop (suc i) xs) i long)
      ∙ ap (λ l. take i xs ++ l) (sym (drop-cons xs i d h)) ∙ take-append-drop i xs)

  -- a rotation moves x towards the end
  module _ (xs : List X) (x : X) (a k : ℕ) (inside : a ≤ length xs) where
    part : mid_of a (suc k) (insert xs a x) ≡ x ∷ take k (drop a xs)
    part = ap (take (suc k)) (drop_at (take a xs) (x ∷ drop a xs) a (length-take-le a xs inside))

    rest : drop (suc k) (drop a (insert xs a x)) ≡ drop (a + k) xs
    rest = ap (drop (suc k)) (drop_at (take a xs) (x ∷ drop a xs) a (length-take-le a xs inside)) ∙ drop-drop k a xs

    pub turned_on : (ys : List X) → ys ≡ drop 1 (mid_of a (suc k) (insert xs a x)) ++ take 1 (mid_of a (suc k) (insert xs a x))
        → put_mid a (suc k) (insert xs a x) ys ≡ insert xs (a + k) x
    turned_on ys turned =
        let moved : ys ≡ take k (drop a xs) ++ x ∷ [] = turned ∙ ap (λ l. drop 1 l ++ take 1 l) part in
        let front : take a (insert xs a x) ≡ take a xs = take_at (take a xs) (x ∷ drop a xs) a (length-take-le a xs inside) in
        ap₂ (λ u v. u ++ v) front (ap₂ (λ u v. u ++ v) moved rest ∙ append_assoc (take k (drop a xs)) (x ∷ []) (drop (a + k) xs))
        ∙ sym (append_assoc (take a xs) (take k (drop a xs)) (x ∷ drop (a + k) xs)) ∙ ap (λ l. l ++ x ∷ drop (a + k) xs) (sym (take-add a k xs))

  -- the same of a vector
  module _ {Z : Type 0} (v : Vec X Z) (xs ys : List X) (x : X) (a k n : ℕ) (part_is : n ≡ suc k) (held : v.items ≡ insert xs a x) (inside : a + k ≤ length xs) where
    pub turn : ys ≡ drop 1 (mid_of a n v.items) ++ take 1 (mid_of a n v.items) → (with_items v (put_mid a n v.items ys)).items ≡ insert xs (a + k) x
    turn turned =
        let on : put_mid a n v.items ys ≡ insert xs (a + k) x = rw (part_is, held) (turned_on xs x a k (omega (arith, inside)) ys (rw (part_is, held) at turned)) in
        let long : length (put_mid a n v.items ys) ≡ v.len =
        omega (arith, ap (λ (l : List X). length l) on, ap (λ (l : List X). length l) held, length-insert xs (a + k) x inside, length-insert xs a x (omega (arith, inside)), v.ok) in
        with_items_is v (put_mid a n v.items ys) long ∙ on

  -- after the last rotation x is the last item
  pub turned_out : (xs left : List X) (x y : X) (a : ℕ) → a ≡ length xs → insert xs a x ≡ left ++ y ∷ [] → (left ≡ xs) × (y ≡ x)
  turned_out xs left x y a e last = same_from_push left xs y x (sym last ∙ (ap (λ i. insert xs i x) e ∙ insert_end xs x))
