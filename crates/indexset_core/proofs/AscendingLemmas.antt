-- The positions of items in an ascending list, and what an edit leaves of one.
use Rattle.std.proofs.Common.{◌≡◌, ℕ, zero, suc, ◌<◌, ◌≤◌, ◌≢◌, Bool, true, false, cond, ◌||◌, List, [], ◌∷◌}
use Rattle.std.proofs.Common.{length, get_or, set, Ordering, Some, None, is_some, slice_get, nat_lt, not, refl}
use Rattle.std.proofs.Common.{ap, sym, inl, inr, ◌∙◌, subst, arith, length-set, get_or-set_same, get_or-set_other}
use Rattle.std.specs.declared.cmp.Ordering.TheVariants.{Less, Equal, Greater}
use Rattle.std.specs.Bool.{OnTrue, OnFalse}
use Rattle.std.specs.List.{AllWithin, HoldsAt, find, list_any, position, position_or_len, remove}
use Rattle.std.specs.Ordering.{ordering_reverse, is_lt, is_le, is_eq}
use Rattle.std.specs.Cmp.{IsTotalOrder}
use Rattle.std.proofs.lemmas.Cmp.{tied_itself}
use Rattle.std.proofs.lemmas.List.Folds.{find_at}
use Rattle.std.proofs.lemmas.List.Quantifiers.{all_pairs_remove}
use Rattle.std.proofs.lemmas.List.Sums.{position_or_len_is}
use Rattle.std.proofs.lemmas.Option.{slice_get_past, slice_get_within, get_or_from_slice_get}
use Rattle.std.proofs.lemmas.Bool.{false≢true, cases_order}
use Rattle.std.proofs.lemmas.Bool.Decides.{nat_tests}
use Rattle.indexset_core.specs.Nodes.{equal_at}
use Rattle.indexset_core.specs.Parted.{IsParted, less_count}
use Rattle.indexset_core.specs.Order.{IsAscending, rank, has_equal, IsFoundAt, IsGapFor}
use Rattle.indexset_core.specs.Order.{equal_element, lower_element}
use Rattle.indexset_core.specs.LookupKey.{OrdersAsItem, acts_as_itself}
use Rattle.indexset_core.proofs.OrderLemmas.{parted_by_item, parted_by_sought, less_from, greater_from, found_at, gap_at, found_rank, found_after, found_has_equal, gap_has_equal}
use Rattle.indexset_core.proofs.PartedLemmas.{front-is_lt, front-is_le, count_parts, Parts, fails_above}

-- the removal of an item keeps the order
pub remove_ascending : {T : Type 0} (cmp : T → T → Ordering) (l : List T) (i : ℕ) → i < length l → IsAscending cmp l → IsAscending cmp (remove l i)
remove_ascending cmp l i lt up = all_pairs_remove (λ x y. cmp x y ≡ Less) l i lt up

-- the first index that passes
module _ {T : Type 0} (p : T → Bool) where
  first_is : (l : List T) (i : ℕ) → i ≤ length l → AllWithin (λ x. p x ≡ false) l 0 i → (i < length l → HoldsAt (λ x. p x ≡ true) l i) → position_or_len p l ≡ i
  first_is [] i le before here = omega arith
  first_is (x ∷ xs) i le before here = position_or_len_is p (x ∷ xs) i x le (λ k lt. before k x (omega arith) lt) (λ lt. here lt x)

  pub find_is : (l : List T) (i : ℕ) → i ≤ length l → AllWithin (λ x. p x ≡ false) l 0 i → (i < length l → HoldsAt (λ x. p x ≡ true) l i) → find p l ≡ slice_get l i
  find_is l i le before here = find_at p l ∙ ap (slice_get l) (first_is l i le before here)

  pub find_none : (l : List T) → AllWithin (λ x. p x ≡ false) l 0 (length l) → find p l ≡ None
  find_none l none = find_is l (length l) (omega arith) none (λ lt. absurd (omega arith)) ∙ slice_get_past l (length l) (omega arith)

  pub position_is : (l : List T) (i : ℕ) → i < length l → AllWithin (λ x. p x ≡ false) l 0 i → HoldsAt (λ x. p x ≡ true) l i → position p l ≡ Some i
  position_is l i lt before here =
      let e = first_is l i (omega arith) before (λ _. here) in let t : nat_lt i (length l) ≡ true = grind (arith, nat_tests) in rw (e, t) refl

  pub position_none : (l : List T) → AllWithin (λ x. p x ≡ false) l 0 (length l) → position p l ≡ None
  position_none l none =
      let e = first_is l (length l) (omega arith) none (λ lt. absurd (omega arith)) in let t : nat_lt (length l) (length l) ≡ false = grind (arith, nat_tests) in rw (e, t) refl

  -- an item is found if one passes
  pub is_some-find : (l : List T) → is_some (find p l) ≡ list_any p l
  is_some-find [] = refl
  is_some-find (x ∷ xs) = elim (p x) as (λ b. is_some (cond b (Some x) (find p xs)) ≡ (b || list_any p xs)) [
    | true ↦ refl
    | false ↦ is_some-find xs
  ]

-- what a search shows of the item at its index
module _ {T : Type 0} (answer : T → Ordering) where
  pub equal_inside : (l : List T) (i : ℕ) → equal_at answer l i ≡ true → i < length l
  equal_inside [] i h = absurd (false≢true h)
  equal_inside (x ∷ xs) zero h = omega arith
  equal_inside (x ∷ xs) (suc i) h = omega (arith, equal_inside xs i h)

  pub equal_here : (l : List T) (i : ℕ) → equal_at answer l i ≡ true → HoldsAt (λ x. is_eq (answer x) ≡ true) l i
  equal_here [] i h d = absurd (false≢true h)
  equal_here (x ∷ xs) zero h d = h
  equal_here (x ∷ xs) (suc i) h d = equal_here xs i h d

  pub unequal_here : (l : List T) (i : ℕ) → equal_at answer l i ≡ false → i < length l → HoldsAt (λ x. is_eq (answer x) ≡ false) l i
  unequal_here [] i h lt d = absurd (omega arith)
  unequal_here (x ∷ xs) zero h lt d = h
  unequal_here (x ∷ xs) (suc i) h lt d = unequal_here xs i h (omega arith) d

  module _ (l : List T) (i : ℕ) (parted : IsParted answer l) (place : i ≡ less_count answer l) where
    parts : Parts (λ x. is_lt (answer x)) l i
    parts = rw place (count_parts is_lt front-is_lt answer l parted)

    before_unequal : AllWithin (λ x. is_eq (answer x) ≡ false) l 0 i
    before_unequal k d low high = ap is_eq (less_from _ (parts.before k d low high))

    not_le : (a : Ordering) → is_lt a ≡ false → is_eq a ≡ false → is_le a ≡ false
    not_le Less h g = h
    not_le Equal h g = g
    not_le Greater h g = refl

    all_unequal : equal_at answer l i ≡ false → AllWithin (λ x. is_eq (answer x) ≡ false) l 0 (length l)
    all_unequal h k d low high = elim (cases_order k i) [
      | inl e ↦ let at : i < length l = omega arith in rw e (unequal_here l i h at d)
      | inr (inl below) ↦ before_unequal k d low below
      | inr (inr above) ↦
          let at : i < length l = omega arith in
          ap is_eq (greater_from _ (fails_above is_le front-is_le answer l parted i at (λ e. not_le _ (parts.after i e (omega arith) at) (unequal_here l i h at e)) k d (omega arith) high))
    ]

    -- the first item that compares Equal, if any
    pub position_found : equal_at answer l i ≡ true → position (λ x. is_eq (answer x)) l ≡ Some i
    position_found h = position_is (λ x. is_eq (answer x)) l i (equal_inside l i h) before_unequal (equal_here l i h)

    pub position_absent : equal_at answer l i ≡ false → position (λ x. is_eq (answer x)) l ≡ None
    position_absent h = position_none (λ x. is_eq (answer x)) l (all_unequal h)

module _ {T Q : Type 0} (cmp : T → Q → Ordering) (l : List T) (v : Q) (i : ℕ) where
  -- what the index of a search by an item is
  pub located_found : IsParted (λ x. cmp x v) l → i ≡ rank cmp l v → equal_at (λ x. cmp x v) l i ≡ true → IsFoundAt cmp l v i
  located_found parted place h = found_at cmp l v i parted place (equal_inside (λ x. cmp x v) l i h) (equal_here (λ x. cmp x v) l i h)

  pub located_gap : IsParted (λ x. cmp x v) l → i ≡ rank cmp l v → equal_at (λ x. cmp x v) l i ≡ false → IsGapFor cmp l v i
  located_gap parted place h = gap_at cmp l v i parted place (unequal_here (λ x. cmp x v) l i h)

  -- the same for a search whose comparator holds an item that is v, by its result
  pub told_found : (w : Q) → w ≡ v → IsParted (λ x. cmp x v) l → (b : Bool) → i ≡ rank cmp l w → b ≡ equal_at (λ x. cmp x w) l i → OnTrue b (IsFoundAt cmp l v i)
  told_found w same parted true place told = located_found parted (place ∙ ap (rank cmp l) same) (sym (ap (λ z. equal_at (λ x. cmp x z) l i) same) ∙ sym told)
  told_found w same parted false place told = tt

  pub told_gap : (w : Q) → w ≡ v → IsParted (λ x. cmp x v) l → (b : Bool) → i ≡ rank cmp l w → b ≡ equal_at (λ x. cmp x w) l i → OnFalse b (IsGapFor cmp l v i)
  told_gap w same parted true place told = tt
  told_gap w same parted false place told = located_gap parted (place ∙ ap (rank cmp l) same) (sym (ap (λ z. equal_at (λ x. cmp x z) l i) same) ∙ sym told)

  pub found_equal : IsFoundAt cmp l v i → equal_element cmp l v ≡ slice_get l i
  found_equal f = find_is (λ x. is_eq (cmp x v)) l i (omega (arith, f.inside)) (λ k d low high. ap is_eq (f.below_before k d low high)) (λ _ d. ap is_eq (f.equal d))

  -- the items on both sides of a gap differ from v
  gap_unequal : IsGapFor cmp l v i → AllWithin (λ x. is_eq (cmp x v) ≡ false) l 0 (length l)
  gap_unequal gap k d low high = elim (cases_order k i) [
    | inl e ↦ ap is_eq (gap.above_after k d (omega arith) high)
    | inr (inl below) ↦ ap is_eq (gap.below_before k d low below)
    | inr (inr above) ↦ ap is_eq (gap.above_after k d (omega arith) high)
  ]

  pub gap_equal : IsGapFor cmp l v i → equal_element cmp l v ≡ None
  gap_equal gap = find_none (λ x. is_eq (cmp x v)) l (gap_unequal gap)

  -- the result of a search is whether an equal item is present
  pub told_has_equal : (b : Bool) → OnTrue b (IsFoundAt cmp l v i) → OnFalse b (IsGapFor cmp l v i) → b ≡ has_equal cmp l v
  told_has_equal true there gap = sym (found_has_equal cmp l v i there)
  told_has_equal false there gap = sym (gap_has_equal cmp l v i gap)

-- the replacement of an item by an equal v keeps the order
module _ {T : Type 0} (cmp : T → T → Ordering) (l : List T) (v : T) (i : ℕ) where
  pub found_ascending : IsTotalOrder cmp → IsAscending cmp l → IsFoundAt cmp l v i → IsAscending cmp (set l i v)
  found_ascending o up f a b d lt inside =
      let long = length-set l i v in
      let here : (k : ℕ) → k ≡ i → get_or (set l i v) k d ≡ v = λ k e. rw e (get_or-set_same l i v d f.inside) in
      let other : (k : ℕ) → k ≢ i → get_or (set l i v) k d ≡ get_or l k d = λ k ne. get_or-set_other l i k v d ne in
      elim (cases_order a i) [
        | inl e ↦
            let next : i < b = omega arith in
            rw (here a e, other b (λ same. omega arith)) (o.antisymm v (get_or l b d) ∙ ap ordering_reverse (found_after cmp l v i o up f b d next (omega arith)))
        | inr (inl below) ↦ elim (cases_order b i) [
          | inl e ↦ rw (other a (λ same. omega arith), here b e) (f.below_before a d (omega arith) below)
          | inr (inl also) ↦ rw (other a (λ same. omega arith), other b (λ same. omega arith)) (up a b d lt (omega arith))
          | inr (inr above) ↦ rw (other a (λ same. omega arith), other b (λ same. omega arith)) (up a b d lt (omega arith))
        ]
        | inr (inr above) ↦ rw (other a (λ same. omega arith), other b (λ same. omega arith)) (up a b d lt (omega arith))
      ]

module _ {T Q : Type 0} {cmp : T → T → Ordering} {order : T → Q → Ordering} {among : Q → Q → Ordering} (acts : OrdersAsItem cmp order among) (l : List T) (up : IsAscending cmp l) (v : Q) where
  parted : IsParted (λ x. order x v) l
  parted = parted_by_sought acts l up v

  -- the item at the rank is the first not below v
  pub lower_sought : slice_get l (rank order l v) ≡ lower_element order l v
  lower_sought =
      let parts : Parts (λ x. is_lt (order x v)) l (rank order l v) = count_parts is_lt front-is_lt (λ x. order x v) l parted in
      sym
      (find_is (λ x. not (is_lt (order x v))) l (rank order l v) parts.inside
      (λ k d low high. ap not (parts.before k d low high))
      (λ lt d. ap not (parts.after (rank order l v) d (omega arith) lt)))

  -- the item at the rank, if an equal one is present
  pub equal_sought : has_equal order l v ≡ true → slice_get l (rank order l v) ≡ equal_element order l v
  equal_sought has =
      elim (equal_at (λ x. order x v) l (rank order l v)) as (λ b. equal_at (λ x. order x v) l (rank order l v) ≡ b → slice_get l (rank order l v) ≡ equal_element order l v) [
        | true ↦ λ e. sym (found_equal order l v (rank order l v) (located_found order l v (rank order l v) parted refl e))
        | false ↦ λ e. absurd (false≢true (sym (gap_has_equal order l v (rank order l v) (located_gap order l v (rank order l v) parted refl e)) ∙ has))
      ] refl

module _ {T : Type 0} (cmp : T → T → Ordering) (o : IsTotalOrder cmp) (l : List T) (up : IsAscending cmp l) where
  -- an item is at its rank
  stands : (i : ℕ) (x : T) → slice_get l i ≡ Some x → IsFoundAt cmp l x i
  stands i x is =
      let lt : i < length l = slice_get_within l i x is in
      record {
        inside = lt;
        equal = λ d. ap (λ y. cmp y x) (get_or_from_slice_get l i x d is) ∙ tied_itself o x;
        below_before = λ k d low high. subst (λ y. cmp (get_or l k d) y ≡ Less) (get_or_from_slice_get l i x d is) (up k i d high lt);
      }

  pub rank-slice_get : (i : ℕ) (x : T) → slice_get l i ≡ Some x → rank cmp l x ≡ i
  rank-slice_get i x is = found_rank cmp l x i (stands i x is) (parted_by_item cmp o l up x)

  pub slice_get-rank : (v : T) → slice_get l (rank cmp l v) ≡ lower_element cmp l v
  slice_get-rank v = lower_sought (acts_as_itself o) l up v

  pub slice_get-rank_equal : (v : T) → has_equal cmp l v ≡ true → slice_get l (rank cmp l v) ≡ equal_element cmp l v
  slice_get-rank_equal v has = equal_sought (acts_as_itself o) l up v has
