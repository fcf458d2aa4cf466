-- The ends of an ascending list: nothing is below the first, and nothing above the last.
use Rattle.std.proofs.Common.{◌≡◌, ℕ, zero, suc, ◌+◌, ◌-◌, ◌<◌, Bool, true, false, cond, filter, List, [], ◌∷◌, ◌++◌}
use Rattle.std.proofs.Common.{length, remove, get_or, slice_get, Some, Ordering, refl, ap, ◌∙◌, inl, inr, subst, arith}
use Rattle.std.specs.Cmp.{IsTotalOrder}
use Rattle.std.specs.List.{All}
use Rattle.std.specs.Ordering.{is_lt, is_gt}
use Rattle.std.specs.declared.cmp.Ordering.TheVariants.{Less}
use Rattle.std.proofs.lemmas.Bool.{cases_lt}
use Rattle.std.proofs.lemmas.Cmp.{tied_itself}
use Rattle.std.proofs.lemmas.List.{nil_from_length}
use Rattle.std.proofs.lemmas.List.Elements.{All-cons, All-nil}
use Rattle.std.proofs.lemmas.List.Sums.{length-filter}
use Rattle.std.proofs.lemmas.Option.{get_or_from_slice_get, slice_get_within}
use Rattle.indexset_core.specs.Order.{IsAscending, above, below, has_equal}
use Rattle.indexset_core.proofs.CallerLemmas.{count_parted, found_has_equal, rank-slice_get}

-- if no element is left by a test, each fails it
pub none_passes : {X : Type 0} (p : X → Bool) (l : List X) → filter p l ≡ [] → All (λ x. p x ≡ false) l
none_passes p [] h = All-nil (λ x. p x ≡ false)
none_passes p (x ∷ l) h = elim (p x) as (λ b. p x ≡ b → cond b (x ∷ filter p l) (filter p l) ≡ [] → All (λ y. p y ≡ false) (x ∷ l)) [
  | true ↦ λ e g. absurd (cc)
  | false ↦ λ e g. All-cons (λ y. p y ≡ false) x l e (none_passes p l g)
] refl h

module _ {T : Type 0} (cmp : T → T → Ordering) (o : IsTotalOrder cmp) (l : List T) (up : IsAscending cmp l) where
  none_below : (x : T) → slice_get l 0 ≡ Some x → below cmp l x ≡ []
  none_below x is = nil_from_length (below cmp l x) (length-filter (λ y. is_lt (cmp y x)) l ∙ rank-slice_get cmp o l up 0 x is)

  up_to_last : (x : T) → slice_get l (length l - 1) ≡ Some x → (k : ℕ) (d : T) → k < length l → is_gt (cmp (get_or l k d) x) ≡ false
  up_to_last x is k d inside =
      let last : get_or l (length l - 1) d ≡ x = get_or_from_slice_get l (length l - 1) x d is in
      elim (cases_lt k (length l - 1)) [
        | inl before ↦ ap is_gt (subst (λ y. cmp (get_or l k d) y ≡ Less) last (up k (length l - 1) d before (omega arith)))
        | inr at ↦ let same : k ≡ length l - 1 = omega arith in rw (same, last, tied_itself o x) refl
      ]

  none_above : (x : T) → slice_get l (length l - 1) ≡ Some x → above cmp l x ≡ []
  none_above x is =
      let count = count_parted (λ y. is_gt (cmp y x)) l 0 (omega arith) (λ k d low high. absurd (omega arith)) (λ k d low high. up_to_last x is k d high) in
      nil_from_length (above cmp l x) (length-filter (λ y. is_gt (cmp y x)) l ∙ count)

  -- an element equals itself
  held_at : (i : ℕ) (x : T) → slice_get l i ≡ Some x → has_equal cmp l x ≡ true
  held_at i x is = found_has_equal cmp l x i (record {
    inside = slice_get_within l i x is;
    equal = λ d. ap (λ y. cmp y x) (get_or_from_slice_get l i x d is) ∙ tied_itself o x;
    below_before = λ k d low high. subst (λ y. cmp (get_or l k d) y ≡ Less) (get_or_from_slice_get l i x d is) (up k i d high (slice_get_within l i x is));
  })

  module _ (x : T) (is : slice_get l 0 ≡ Some x) where
    pub first_least : below cmp l x ≡ []
    first_least = none_below x is

    pub first_held : has_equal cmp l x ≡ true
    first_held = held_at 0 x is

    pub all_from_first : All (λ y. is_lt (cmp y x) ≡ false) l
    all_from_first = none_passes (λ y. is_lt (cmp y x)) l first_least

  module _ (x : T) (is : slice_get l (length l - 1) ≡ Some x) where
    pub last_greatest : above cmp l x ≡ []
    last_greatest = none_above x is

    pub last_held : has_equal cmp l x ≡ true
    last_held = held_at (length l - 1) x is

    pub all_up_to_last : All (λ y. is_gt (cmp y x) ≡ false) l
    all_up_to_last = none_passes (λ y. is_gt (cmp y x)) l last_greatest

parted_at : {T : Type 0} (l : List T) (i : ℕ) (x : T) → slice_get l i ≡ Some x → i + 1 ≡ length l → l ≡ remove l i ++ x ∷ []
parted_at [] i x is end = absurd (omega (arith, end))
parted_at (y ∷ []) zero x is end = let same : y ≡ x = cc in rw same refl
parted_at (y ∷ z ∷ l) zero x is end = absurd (omega (arith, end))
parted_at (y ∷ l) (suc i) x is end = ap (λ q. y ∷ q) (parted_at l i x is (omega (arith, end)))

-- a list is its elements without the last one, and that one
pub last_parted : {T : Type 0} (l : List T) (i : ℕ) (x : T) → slice_get l i ≡ Some x → i ≡ length l - 1 → l ≡ remove l i ++ x ∷ []
last_parted l i x is end = parted_at l i x is (omega (arith, end, slice_get_within l i x is))
