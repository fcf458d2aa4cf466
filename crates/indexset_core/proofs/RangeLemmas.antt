-- The part of a list between two bounds.
use Rattle.std.proofs.Common.{◌≡◌, ℕ, zero, suc, ◌+◌, ◌-◌, ◌<◌, ◌≤◌, Bool, true, false, not, ◌&&◌, List, [], ◌∷◌, length, get_or, take, drop, filter, Ordering, refl, ap, sym, inl, inr, ◌∙◌, arith}
use Rattle.std.specs.declared.cmp.Ordering.TheVariants.{Less, Equal, Greater}
use Rattle.std.specs.declared.ops.Bound.{Bound}
use Rattle.std.specs.declared.ops.Bound.TheVariants.{Included, Excluded, Unbounded}
use Rattle.std.specs.List.{AllWithin, count_by, between}
use Rattle.std.specs.Ordering.{is_lt, is_le, is_gt, is_ge}
use Rattle.std.specs.Cmp.{IsTotalOrder}
use Rattle.std.proofs.lemmas.Bool.{false≢true, cases_lt}
use Rattle.indexset_core.specs.KeyRange.{is_before, is_from_start, is_up_to_end, is_within, are_ordered, in_range}
use Rattle.indexset_core.specs.Order.{IsAscending, IsFoundAt, IsGapFor}
use Rattle.indexset_core.specs.Parted.{IsParted}
use Rattle.indexset_core.specs.LookupKey.{OrdersAsItem, acts_as_itself}
use Rattle.indexset_core.proofs.OrderLemmas.{found_after, parted_by_item}
use Rattle.indexset_core.proofs.PartedLemmas.{Parts, count_parts, count_parted, front-is_lt, front-is_le}

module _ {T : Type 0} where
  -- the elements that pass are the n from place i on
  filter_part : (r : T → Bool) (l : List T) (i n : ℕ) → i + n ≤ length l → AllWithin (λ x. r x ≡ false) l 0 i
      → AllWithin (λ x. r x ≡ true) l i (i + n) → AllWithin (λ x. r x ≡ false) l (i + n) (length l)
      → filter r l ≡ take n (drop i l)
  filter_part r [] zero zero le before inside after = refl
  filter_part r [] zero (suc n) le before inside after = refl
  filter_part r [] (suc i) zero le before inside after = refl
  filter_part r [] (suc i) (suc n) le before inside after = refl
  filter_part r (x ∷ xs) zero zero le before inside after =
      rw (after 0 x (omega arith) (omega arith))
      (filter_part r xs 0 0 (omega arith) (λ k d low high. absurd (omega arith))
      (λ k d low high. absurd (omega arith)) (λ k d low high. after (suc k) d (omega arith) (omega arith)))
  filter_part r (x ∷ xs) zero (suc n) le before inside after =
      rw (inside 0 x (omega arith) (omega arith))
      (ap (λ ys. x ∷ ys)
      (filter_part r xs 0 n (omega arith) (λ k d low high. absurd (omega arith))
      (λ k d low high. inside (suc k) d (omega arith) (omega arith))
      (λ k d low high. after (suc k) d (omega arith) (omega arith))))
  filter_part r (x ∷ xs) (suc i) n le before inside after =
      rw (before 0 x (omega arith) (omega arith))
      (filter_part r xs i n (omega arith) (λ k d low high. before (suc k) d (omega arith) (omega arith))
      (λ k d low high. inside (suc k) d (omega arith) (omega arith))
      (λ k d low high. after (suc k) d (omega arith) (omega arith)))

  -- if p passes the elements before i, and q those before j
  module _ (p q : T → Bool) (l : List T) (i j : ℕ) (ps : Parts p l i) (qs : Parts q l j) where
    -- q passes what p passes
    pub parts_le : ((x : T) → p x ≡ true → q x ≡ true) → i ≤ j
    parts_le weaker = elim (cases_lt j i) [
      | inl lt ↦ absurd (stops (omega (arith, ps.inside)) lt)
      | inr ge ↦ ge
    ]
      where
        stops : j < length l → j < i → ⊥
        stops inside lt = first l inside (λ d. weaker _ (ps.before j d (omega arith) lt)) (λ d. qs.after j d (omega arith) inside)
          where
            first : (xs : List T) → j < length xs → ((d : T) → q (get_or l j d) ≡ true) → ((d : T) → q (get_or l j d) ≡ false) → ⊥
            first [] h pass fail = absurd (omega arith)
            first (x ∷ xs) h pass fail = false≢true (sym (fail x) ∙ pass x)

    pub parts_between : i ≤ j → filter (λ x. not (p x) && q x) l ≡ between i j l
    parts_between le = filter_part (λ x. not (p x) && q x) l i (j - i) (omega (arith, qs.inside)) (λ k d low high. rw (ps.before k d low high) refl)
        (λ k d low high. rw (ps.after k d low (omega (arith, qs.inside)), qs.before k d (omega arith) (omega arith)) refl)
        (λ k d low high. rw (ps.after k d (omega arith) high, qs.after k d (omega arith) high) refl)

le_from : (a : Ordering) → is_lt a ≡ true → is_le a ≡ true
le_from Less h = refl
le_from Equal h = absurd (false≢true h)
le_from Greater h = absurd (false≢true h)

less_is : (a : Ordering) → is_lt a ≡ true → a ≡ Less
less_is Less h = refl
less_is Equal h = absurd (false≢true h)
less_is Greater h = absurd (false≢true h)

not_less : (a : Ordering) → not (is_lt a) ≡ is_ge a
not_less Less = refl
not_less Equal = refl
not_less Greater = refl

not_le : (a : Ordering) → not (is_le a) ≡ is_gt a
not_le Less = refl
not_le Equal = refl
not_le Greater = refl

module _ {T Q : Type 0} {cmp : T → T → Ordering} {order : T → Q → Ordering} {among : Q → Q → Ordering} (acts : OrdersAsItem cmp order among) where
  before_less : (x : T) (a b : Q) → is_lt (order x a) ≡ true → is_le (among a b) ≡ true → is_lt (order x b) ≡ true
  before_less x a b e h = ap is_lt (acts.below x a b (less_is _ e) h)

  up_to : (test : Ordering → Bool) → test Less ≡ true → (x : T) (a b : Q) → (r : Ordering) → order x a ≡ r
      → is_le r ≡ true → is_le (among a b) ≡ true → test (among a b) ≡ true → test (order x b) ≡ true
  up_to test passes x a b Less e h le g = ap test (acts.below x a b e le) ∙ passes
  up_to test passes x a b Equal e h le g = ap test (acts.tied x a b e) ∙ g
  up_to test passes x a b Greater e h le g = absurd (false≢true h)

  -- what is before the start is not past the end
  ordered_weaker : (start end : Bound Q) → are_ordered among start end ≡ true → (x : T) → is_before order start x ≡ true → is_up_to_end order end x ≡ true
  ordered_weaker (Included a) (Included b) h x e = le_from _ (before_less x a b e h)
  ordered_weaker (Included a) (Excluded b) h x e = before_less x a b e h
  ordered_weaker (Included a) Unbounded h x e = refl
  ordered_weaker (Excluded a) (Included b) h x e = up_to is_le refl x a b _ refl e h h
  ordered_weaker (Excluded a) (Excluded b) h x e = up_to is_lt refl x a b _ refl e (le_from _ h) h
  ordered_weaker (Excluded a) Unbounded h x e = refl
  ordered_weaker Unbounded end h x e = absurd (false≢true e)

-- what is not before the start is from it on
pub not_before : {T Q : Type 0} (order : T → Q → Ordering) (start : Bound Q) (x : T) → not (is_before order start x) ≡ is_from_start order start x
not_before order (Included a) x = not_less (order x a)
not_before order (Excluded a) x = not_le (order x a)
not_before order Unbounded x = refl

-- a list that a comparator by a look-up key partitions: f is the part of an item that is compared
module _ {X T Q : Type 0} (order : T → Q → Ordering) (f : X → T) (l : List X) (parted : (v : Q) → IsParted (λ x. order (f x) v) l) where
  none_parts : Parts (λ x. false) l (count_by (λ x. false) l)
  none_parts =
      rw
      (count_parted (λ (x : X). false) l 0 (omega arith) (λ k d low high. absurd (omega arith)) (λ k d low high. refl))
      (record { inside = omega arith; before = λ k d low high. absurd (omega arith); after = λ k d low high. refl })

  all_parts : Parts (λ x. true) l (count_by (λ x. true) l)
  all_parts =
      rw
      (count_parted (λ (x : X). true) l (length l) (omega arith) (λ k d low high. refl)
      (λ k d low high. absurd (omega arith)))
      (record { inside = omega arith; before = λ k d low high. refl; after = λ k d low high. absurd (omega arith) })

  pub before_parts : (start : Bound Q) → Parts (λ x. is_before order start (f x)) l (count_by (λ x. is_before order start (f x)) l)
  before_parts (Included a) = count_parts is_lt front-is_lt (λ x. order (f x) a) l (parted a)
  before_parts (Excluded a) = count_parts is_le front-is_le (λ x. order (f x) a) l (parted a)
  before_parts Unbounded = none_parts

  pub up_to_parts : (end : Bound Q) → Parts (λ x. is_up_to_end order end (f x)) l (count_by (λ x. is_up_to_end order end (f x)) l)
  up_to_parts (Included a) = count_parts is_le front-is_le (λ x. order (f x) a) l (parted a)
  up_to_parts (Excluded a) = count_parts is_lt front-is_lt (λ x. order (f x) a) l (parted a)
  up_to_parts Unbounded = all_parts

  module _ {cmp : T → T → Ordering} {among : Q → Q → Ordering} (acts : OrdersAsItem cmp order among)
      (start end : Bound Q) (ordered : are_ordered among start end ≡ true) (i j : ℕ)
      (from : i ≡ count_by (λ x. is_before order start (f x)) l)
      (to : j ≡ count_by (λ x. is_up_to_end order end (f x)) l) where
    pub sought_range_order : i ≤ j
    sought_range_order =
        rw (from, to)
        (parts_le (λ x. is_before order start (f x)) (λ x. is_up_to_end order end (f x)) l _ _ (before_parts start)
        (up_to_parts end) (λ x. ordered_weaker acts start end ordered (f x)))

    pub sought_range_is : between i j l ≡ filter (λ x. is_within order start end (f x)) l
    sought_range_is =
        sym (parts_between (λ x. is_before order start (f x)) (λ x. is_up_to_end order end (f x)) l i j (rw from (before_parts start)) (rw to (up_to_parts end)) sought_range_order)
        ∙ ap (λ (r : X → Bool). filter r l) (λ k x. not_before order start (f x) k && is_up_to_end order end (f x))

-- the same for bounds that are themselves compared
module _ {T : Type 0} (cmp : T → T → Ordering) (o : IsTotalOrder cmp) where
  module _ {X : Type 0} (f : X → T) (l : List X) (parted : (v : T) → IsParted (λ x. cmp (f x) v) l)
      (start end : Bound T) (ordered : are_ordered cmp start end ≡ true) (i j : ℕ)
      (from : i ≡ count_by (λ x. is_before cmp start (f x)) l)
      (to : j ≡ count_by (λ x. is_up_to_end cmp end (f x)) l) where
    pub keyed_range_order : i ≤ j
    keyed_range_order = sought_range_order cmp f l parted (acts_as_itself o) start end ordered i j from to

    pub keyed_range_is : between i j l ≡ filter (λ x. is_within cmp start end (f x)) l
    keyed_range_is = sought_range_is cmp f l parted (acts_as_itself o) start end ordered i j from to

  -- the part of an ascending list between two bounds on its items
  module _ (l : List T) (up : IsAscending cmp l) (start end : Bound T) (ordered : are_ordered cmp start end ≡ true)
      (i j : ℕ) (from : i ≡ count_by (is_before cmp start) l) (to : j ≡ count_by (is_up_to_end cmp end) l) where
    pub range_order : i ≤ j
    range_order = keyed_range_order (λ x. x) l (parted_by_item cmp o l up) start end ordered i j from to

    pub range_is : between i j l ≡ in_range cmp l start end
    range_is = keyed_range_is (λ x. x) l (parted_by_item cmp o l up) start end ordered i j from to

-- how many are below v or equal to it
module _ {T : Type 0} (cmp : T → T → Ordering) (l : List T) (v : T) (i : ℕ) where
  pub found_not_above : IsTotalOrder cmp → IsAscending cmp l → IsFoundAt cmp l v i → count_by (λ x. is_le (cmp x v)) l ≡ i + 1
  found_not_above o up f = count_parted (λ x. is_le (cmp x v)) l (i + 1) (omega (arith, f.inside)) (λ k d low high. elim (cases_lt k i) [
    | inl lt ↦ ap is_le (f.below_before k d low lt)
    | inr ge ↦ let e : k ≡ i = omega arith in rw e (ap is_le (f.equal d))
  ]) (λ k d low high. ap is_le (found_after cmp l v i o up f k d (omega arith) high))

module _ {T Q : Type 0} (cmp : T → Q → Ordering) (l : List T) (v : Q) (i : ℕ) where
  pub gap_not_above : IsGapFor cmp l v i → count_by (λ x. is_le (cmp x v)) l ≡ i
  gap_not_above gap = count_parted (λ x. is_le (cmp x v)) l i gap.inside (λ k d low high. ap is_le (gap.below_before k d low high)) (λ k d low high. ap is_le (gap.above_after k d low high))

pub count_no : {T : Type 0} (l : List T) → 0 ≡ count_by (λ x. false) l
count_no l = sym (count_parted (λ x. false) l 0 (omega arith) (λ k d low high. absurd (omega arith)) (λ k d low high. refl))

pub count_each : {T : Type 0} (l : List T) → length l ≡ count_by (λ x. true) l
count_each l = sym (count_parted (λ x. true) l (length l) (omega arith) (λ k d low high. refl) (λ k d low high. absurd (omega arith)))
