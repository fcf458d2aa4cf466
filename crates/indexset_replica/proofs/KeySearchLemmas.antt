-- Searches of an ascending list by a key.
use Rattle.std.proofs.Common.{◌≡◌, ℕ, zero, suc, ◌+◌, ◌<◌, true, false, cond, List, [], ◌∷◌, length, Some, None, is_some, slice_get, Ordering, refl, ap, sym, ◌∙◌, arith}
use Rattle.std.specs.List.{AllWithin, count_by, find, list_any, position}
use Rattle.std.specs.Ordering.{is_eq, is_le, is_lt}
use Rattle.std.specs.declared.cmp.Ordering.TheVariants.{Less, Equal, Greater}
use Rattle.std.proofs.lemmas.List.Sums.{sum_by-cons}
use Rattle.indexset_core.specs.Nodes.{equal_at}
use Rattle.indexset_core.specs.Parted.{IsParted, less_count, not_greater_count}
use Rattle.indexset_core.proofs.CallerLemmas.{count_parts, equal_inside, find_absent, find_position, front-is_lt, is_some-find, less_from, position_absent, position_found}

module _ {T : Type 0} (answer : T → Ordering) (l : List T) (parted : IsParted answer l) where
  some_at : (m : List T) (i : ℕ) → i < length m → is_some (slice_get m i) ≡ true
  some_at [] i lt = absurd (omega arith)
  some_at (x ∷ m) zero lt = refl
  some_at (x ∷ m) (suc i) lt = some_at m i (omega arith)

  -- if an item is found Equal, the first such item follows those found Less
  pub there : list_any (λ x. is_eq (answer x)) l ≡ true → equal_at answer l (less_count answer l) ≡ true
  there has = elim (equal_at answer l (less_count answer l)) as (λ b. equal_at answer l (less_count answer l) ≡ b → b ≡ true) [
    | true ↦ λ e. refl
    | false ↦ λ e.
        let none : find (λ x. is_eq (answer x)) l ≡ None = find_absent (λ x. is_eq (answer x)) l (position_absent answer l (less_count answer l) parted refl e) in
        sym (ap is_some none) ∙ (is_some-find (λ x. is_eq (answer x)) l ∙ has)
  ] refl

  pub there_item : list_any (λ x. is_eq (answer x)) l ≡ true → slice_get l (less_count answer l) ≡ find (λ x. is_eq (answer x)) l
  there_item has = sym (find_position (λ x. is_eq (answer x)) l (less_count answer l) (position_found answer l (less_count answer l) parted refl (there has)))

  pub there_inside : list_any (λ x. is_eq (answer x)) l ≡ true → less_count answer l < length l
  there_inside has = equal_inside answer l (less_count answer l) (there has)

  pub all_before : AllWithin (λ x. answer x ≡ Less) l 0 (less_count answer l)
  all_before k d low high = less_from _ ((count_parts is_lt front-is_lt answer l parted).before k d low high)

  -- an item at a position that is found Equal is present
  pub has_there : (i : ℕ) → position (λ x. is_eq (answer x)) l ≡ Some i → i < length l → list_any (λ x. is_eq (answer x)) l ≡ true
  has_there i at lt = sym (is_some-find (λ x. is_eq (answer x)) l) ∙ (ap is_some (find_position (λ x. is_eq (answer x)) l i at) ∙ some_at l i lt)

-- the items found Less or Equal are those not found Greater
module _ {T : Type 0} (answer : T → Ordering) where
  cond_or : (a : Ordering) → cond (is_le a) 1 0 ≡ cond (is_lt a) 1 0 + cond (is_eq a) 1 0
  cond_or Less = refl
  cond_or Equal = refl
  cond_or Greater = refl

  pub count_equal : (l : List T) → not_greater_count answer l ≡ less_count answer l + count_by (λ x. is_eq (answer x)) l
  count_equal [] = refl
  count_equal (x ∷ l) =
      omega (
        arith,
        cond_or (answer x),
        count_equal l,
        sum_by-cons (λ x. cond (is_le (answer x)) 1 0) x l,
        sum_by-cons (λ x. cond (is_lt (answer x)) 1 0) x l,
        sum_by-cons (λ x. cond (is_eq (answer x)) 1 0) x l,
      )
