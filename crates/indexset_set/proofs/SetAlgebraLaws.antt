-- The elements of set operations on two ascending lists.
use Rattle.std.proofs.Common.{◌≡◌, zero, suc, ◌+◌, ◌⊎◌, inl, inr, Bool, true, false, not, cond}
use Rattle.std.proofs.Common.{◌&&◌, ◌||◌, ◌≤◌, if◌then◌else◌, List, [], ◌∷◌, ◌++◌, length}
use Rattle.std.proofs.Common.{take, drop, filter, Ordering, refl, ap, sym, ◌∙◌, subst, arith}
use Rattle.std.specs.declared.cmp.Ordering.TheVariants.{Less, Equal, Greater}
use Rattle.std.specs.Cmp.{IsTotalOrder}
use Rattle.std.specs.List.{All, Contains, insert, list_any}
use Rattle.std.specs.Ordering.{is_lt, is_gt, is_eq}
use Rattle.std.proofs.lemmas.Cmp.{alike_right}
use Rattle.std.proofs.lemmas.List.{take-append-drop}
use Rattle.std.proofs.lemmas.List.Folds.{list_any-append}
use Rattle.std.proofs.lemmas.List.Kept.{AllPairs-filter}
use Rattle.std.proofs.lemmas.List.Sums.{count_by-le-length, length-filter}
use Rattle.std.proofs.lemmas.Bool.{false≢true}
use Rattle.indexset_core.specs.Order.{IsAscending, IsGapFor, below, above, rank, has_equal, keep, put}
use Rattle.indexset_set.specs.SetAlgebra.{union, intersection, difference, symmetric_difference}
use Rattle.indexset_core.proofs.CallerLemmas.{parted_by_item, gap_at, gap_put, gap_ascending}
use Rattle.indexset_set.specs.Merge.{merged}
use Rattle.indexset_set.proofs.MergeLemmas.{lefts_merged, rights_merged, read_counts}
use Rattle.indexset_set.proofs.SetAlgebraLemmas.{union_read, intersection_read}

or_left : (a b : Bool) → (a || b) ≡ false → a ≡ false
or_left true b h = h
or_left false b h = refl

or_right : (a b : Bool) → (a || b) ≡ false → b ≡ false
or_right true b h = absurd (false≢true (sym h))
or_right false b h = h

none_pass : {T : Type 0} (p : T → Bool) (l : List T) → list_any p l ≡ false → All (λ x. p x ≡ false) l
none_pass p [] h k d lt = absurd (omega arith)
none_pass p (x ∷ xs) h zero d lt = or_left (p x) (list_any p xs) h
none_pass p (x ∷ xs) h (suc k) d lt = none_pass p xs (or_right (p x) (list_any p xs) h) k d (omega arith)

module _ {T : Type 0} (cmp : T → T → Ordering) where
  pub intersection_ascending : (l r : List T) → IsAscending cmp l → IsAscending cmp (intersection cmp l r)
  unfolding intersection
  intersection_ascending l r up = AllPairs-filter (λ x y. cmp x y ≡ Less) (has_equal cmp r) l up

  pub intersection_few : (l r : List T) → length (intersection cmp l r) ≤ length l
  unfolding intersection
  intersection_few l r = rw (length-filter (has_equal cmp r) l) (count_by-le-length (has_equal cmp r) l)

  pub difference_few : (l r : List T) → length (difference cmp l r) ≤ length l
  unfolding difference
  difference_few l r = rw (length-filter (λ x. not (has_equal cmp r x)) l) (count_by-le-length (λ x. not (has_equal cmp r x)) l)

  pub difference_ascending : (l r : List T) → IsAscending cmp l → IsAscending cmp (difference cmp l r)
  unfolding difference
  difference_ascending l r up = AllPairs-filter (λ x y. cmp x y ≡ Less) (λ x. not (has_equal cmp r x)) l up

module _ {T : Type 0} (cmp : T → T → Ordering) (o : IsTotalOrder cmp) where
  pub equal_is : (a : Ordering) → is_eq a ≡ true → a ≡ Equal
  equal_is Less h = absurd (false≢true h)
  equal_is Equal h = refl
  equal_is Greater h = absurd (false≢true h)

  -- equal elements are in the same lists
  pub has_alike : (x y : T) → cmp x y ≡ Equal → (l : List T) → has_equal cmp l x ≡ has_equal cmp l y
  has_alike x y e [] = refl
  has_alike x y e (z ∷ zs) = rw (alike_right o x y z e, has_alike x y e zs) refl

  module _ (l : List T) (up : IsAscending cmp l) (v : T) (none : has_equal cmp l v ≡ false) where
    gap : IsGapFor cmp l v (rank cmp l v)
    gap = gap_at cmp l v (rank cmp l v) (parted_by_item cmp o l up v) refl (λ lt d. none_pass (λ x. is_eq (cmp x v)) l none (rank cmp l v) d lt)

    pub put_absent : put cmp l v ≡ insert l (rank cmp l v) v
    put_absent = gap_put cmp l v (rank cmp l v) gap

    put_ascending : IsAscending cmp (put cmp l v)
    put_ascending = rw put_absent (gap_ascending cmp l v (rank cmp l v) o gap up)

    turn : (a b c : Bool) → (a || (b || c)) ≡ ((a || c) || b)
    turn true b c = refl
    turn false true true = refl
    turn false true false = refl
    turn false false true = refl
    turn false false false = refl

    has_put : (x : T) → has_equal cmp (put cmp l v) x ≡ (has_equal cmp l x || is_eq (cmp v x))
    has_put x =
        let i = rank cmp l v in let p = λ (y : T). is_eq (cmp y x) in
        ap (list_any p) put_absent
        ∙ (list_any-append p (take i l) (v ∷ drop i l)
        ∙ (turn (list_any p (take i l)) (p v) (list_any p (drop i l))
        ∙ ap (λ b. b || p v)
        (sym (list_any-append p (take i l) (drop i l)) ∙ ap (list_any p) (take-append-drop i l))))

  module _ (l : List T) (up : IsAscending cmp l) (v : T) where
    pub keep_ascending : IsAscending cmp (keep cmp l v)
    unfolding keep
    keep_ascending = elim (has_equal cmp l v) as (λ b. has_equal cmp l v ≡ b → IsAscending cmp (if b then l else put cmp l v)) [
      | true ↦ λ _. up
      | false ↦ λ e. put_ascending l up v e
    ] refl

    had : (x : T) → has_equal cmp l v ≡ true → (b : Bool) → is_eq (cmp v x) ≡ b → has_equal cmp l x ≡ (has_equal cmp l x || b)
    had x has true e = rw (sym (has_alike v x (equal_is _ e) l) ∙ has) refl
    had x has false e = elim (has_equal cmp l x) as (λ a. a ≡ (a || false)) [ true ↦ refl | false ↦ refl ]

    pub has_keep : (x : T) → has_equal cmp (keep cmp l v) x ≡ (has_equal cmp l x || is_eq (cmp v x))
    unfolding keep
    has_keep x = elim (has_equal cmp l v) as (λ b. has_equal cmp l v ≡ b → has_equal cmp (if b then l else put cmp l v) x ≡ (has_equal cmp l x || is_eq (cmp v x))) [
      | true ↦ λ e. had x e (is_eq (cmp v x)) refl
      | false ↦ λ e. has_put l up v e x
    ] refl

  -- the union
  pub union_ascending : (l r : List T) → IsAscending cmp l → IsAscending cmp (union cmp l r)
  unfolding union
  union_ascending l [] up = up
  union_ascending l (y ∷ ys) up = union_ascending (keep cmp l y) ys (keep_ascending l up y)

  or_assoc : (a b c : Bool) → ((a || b) || c) ≡ (a || (b || c))
  or_assoc true b c = refl
  or_assoc false b c = refl

  or_none : (a : Bool) → a ≡ (a || false)
  or_none true = refl
  or_none false = refl

  pub union_members : (l r : List T) → IsAscending cmp l → (x : T) → has_equal cmp (union cmp l r) x ≡ (has_equal cmp l x || has_equal cmp r x)
  unfolding union
  union_members l [] up x = or_none (has_equal cmp l x)
  union_members l (y ∷ ys) up x =
      union_members (keep cmp l y) ys (keep_ascending l up y) x ∙ (ap (λ b. b || has_equal cmp ys x) (has_keep l up y x) ∙ or_assoc (has_equal cmp l x) (is_eq (cmp y x)) (has_equal cmp ys x))

  -- x is an element
  abbrev In : T → List T → Type 0
  In x [] = ⊥
  In x (y ∷ ys) = (y ≡ x) ⊎ In x ys

  in_from : (x : T) (l : List T) → Contains l x → In x l
  in_from x [] (k, lt, is) = absurd (omega arith)
  in_from x (y ∷ ys) (zero, lt, is) = inl is
  in_from x (y ∷ ys) (suc k, lt, is) = inr (in_from x ys (k, omega arith, is))

  in_at : (x : T) (l : List T) → In x l → Contains l x
  in_at x [] h = absurd h
  in_at x (y ∷ ys) (inl e) = (0, omega arith, e)
  in_at x (y ∷ ys) (inr h) = let at = in_at x ys h in (suc at.0, omega (arith, at.1), at.2)

  in_append : (x : T) (a b : List T) → In x (a ++ b) → In x a ⊎ In x b
  in_append x [] b h = inr h
  in_append x (y ∷ ys) b (inl e) = inl (inl e)
  in_append x (y ∷ ys) b (inr h) = elim (in_append x ys b h) [ inl p ↦ inl (inr p) | inr q ↦ inr q ]

  in_cond : (x y : T) (b : Bool) (ys zs : List T) → (In x ys → In x zs) → In x (cond b (y ∷ ys) ys) → In x (y ∷ zs)
  in_cond x y true ys zs f (inl e) = inl e
  in_cond x y true ys zs f (inr h) = inr (f h)
  in_cond x y false ys zs f h = inr (f h)

  in_filter : (x : T) (p : T → Bool) (l : List T) → In x (filter p l) → In x l
  in_filter x p [] h = h
  in_filter x p (y ∷ ys) h = in_cond x y (p y) (filter p ys) ys (in_filter x p ys) h

  in_put : (x v : T) (l : List T) → In x (put cmp l v) → In x l ⊎ (v ≡ x)
  unfolding put
  in_put x v l h = elim (in_append x (below cmp l v) (v ∷ above cmp l v) h) [
    | inl p ↦ inl (in_filter x (λ y. is_lt (cmp y v)) l p)
    | inr (inl e) ↦ inr e
    | inr (inr q) ↦ inl (in_filter x (λ y. is_gt (cmp y v)) l q)
  ]

  in_keep : (x v : T) (l : List T) → In x (keep cmp l v) → In x l ⊎ ((v ≡ x) × (has_equal cmp l v ≡ false))
  unfolding keep
  in_keep x v l = elim (has_equal cmp l v) as (λ b. has_equal cmp l v ≡ b → In x (if b then l else put cmp l v) → In x l ⊎ ((v ≡ x) × (b ≡ false))) [
    | true ↦ λ e h. inl h
    | false ↦ λ e h. elim (in_put x v l h) [ inl p ↦ inl p | inr q ↦ inr (q, refl) ]
  ] refl

  in_union : (x : T) (l r : List T) → IsAscending cmp l → In x (union cmp l r) → In x l ⊎ (In x r × (has_equal cmp l x ≡ false))
  unfolding union
  in_union x l [] up h = inl h
  in_union x l (y ∷ ys) up h = elim (in_union x (keep cmp l y) ys (keep_ascending l up y) h) [
    | inl p ↦ elim (in_keep x y l p) [
      | inl q ↦ inl q
      | inr q ↦ inr (inl q.0, subst (λ z. has_equal cmp l z ≡ false) q.0 q.1)
    ]
    | inr q ↦ inr (inr q.0, or_left (has_equal cmp l x) (is_eq (cmp y x)) (sym (has_keep l up y x) ∙ q.1))
  ]

  pub union_from_either : (l r : List T) → IsAscending cmp l → (x : T) → Contains (union cmp l r) x → Contains l x ⊎ (Contains r x × (has_equal cmp l x ≡ false))
  union_from_either l r up x h = elim (in_union x l r up (in_from x (union cmp l r) h)) [
    | inl p ↦ inl (in_at x l p)
    | inr q ↦ inr (in_at x r q.0, q.1)
  ]

  -- the elements that pass a test that equal ones pass alike
  module _ (p : T → Bool) (x : T) (b : Bool) (alike : (y : T) → cmp y x ≡ Equal → p y ≡ b) where
    both : (a : Bool) → b ≡ true → b ≡ ((true || a) && b)
    both a e = refl

    abbrev Kept : Bool → Bool → T → List T → Type 0
    Kept s t y ys = is_eq (cmp y x) ≡ s → p y ≡ t → has_equal cmp (cond t (y ∷ filter p ys) (filter p ys)) x ≡ ((s || has_equal cmp ys x) && b)

    absorbed : (a c : Bool) → c ≡ false → (a && c) ≡ c
    absorbed true c e = refl
    absorbed false c e = sym e

    step : (s t : Bool) (y : T) (ys : List T) → has_equal cmp (filter p ys) x ≡ (has_equal cmp ys x && b) → Kept s t y ys
    step true true y ys h e f = ap (λ a. a || has_equal cmp (filter p ys) x) e ∙ (sym f ∙ alike y (equal_is _ e))
    step true false y ys h e f = h ∙ absorbed (has_equal cmp ys x) b (sym (alike y (equal_is _ e)) ∙ f)
    step false true y ys h e f = ap (λ a. a || has_equal cmp (filter p ys) x) e ∙ h
    step false false y ys h e f = h

    filter_members : (l : List T) → has_equal cmp (filter p l) x ≡ (has_equal cmp l x && b)
    filter_members [] = refl
    filter_members (y ∷ ys) = step (is_eq (cmp y x)) (p y) y ys (filter_members ys) refl refl

  pub intersection_members : (l r : List T) (x : T) → has_equal cmp (intersection cmp l r) x ≡ (has_equal cmp l x && has_equal cmp r x)
  unfolding intersection
  intersection_members l r x = filter_members (has_equal cmp r) x (has_equal cmp r x) (λ y e. has_alike y x e r) l

  pub difference_members : (l r : List T) (x : T) → has_equal cmp (difference cmp l r) x ≡ (has_equal cmp l x && not (has_equal cmp r x))
  unfolding difference
  difference_members l r x = filter_members (λ y. not (has_equal cmp r y)) x (not (has_equal cmp r x)) (λ y e. ap not (has_alike y x e r)) l

  pub apart_ascending : (l r : List T) → IsAscending cmp l → IsAscending cmp (symmetric_difference cmp l r)
  unfolding symmetric_difference
  apart_ascending l r up = union_ascending (difference cmp l r) (difference cmp r l) (difference_ascending cmp l r up)

  pub apart_members : (l r : List T) → IsAscending cmp l → (x : T)
      → has_equal cmp (symmetric_difference cmp l r) x
      ≡ ((has_equal cmp l x && not (has_equal cmp r x)) || (has_equal cmp r x && not (has_equal cmp l x)))
  unfolding symmetric_difference
  apart_members l r up x =
      union_members (difference cmp l r) (difference cmp r l) (difference_ascending cmp l r up) x ∙ (λ k. difference_members l r x k || difference_members r l x k)

  -- the lengths of both
  pub lengths_sum : (l r : List T) → IsAscending cmp l → IsAscending cmp r → length (union cmp l r) + length (intersection cmp l r) ≡ length l + length r
  lengths_sum l r up vp =
      rw (← union_read cmp o l r up vp, ← intersection_read cmp o l r up vp) (rw (lefts_merged, rights_merged) at (read_counts (merged cmp l r)))

  pub union_few : (l r : List T) → IsAscending cmp l → IsAscending cmp r → length (union cmp l r) ≤ length l + length r
  union_few l r up vp = omega (arith, lengths_sum l r up vp)

  pub symmetric_difference_few : (l r : List T) → IsAscending cmp l → IsAscending cmp r → length (symmetric_difference cmp l r) ≤ length l + length r
  unfolding symmetric_difference
  symmetric_difference_few l r up vp =
      omega (arith, union_few (difference cmp l r) (difference cmp r l) (difference_ascending cmp l r up) (difference_ascending cmp r l vp), difference_few cmp l r, difference_few cmp r l)
