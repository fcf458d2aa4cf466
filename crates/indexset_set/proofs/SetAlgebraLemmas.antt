-- Set operations on two ascending lists, by their first items and by the merged list.
use Rattle.std.proofs.Common.{◌≡◌, zero, suc, Option, None, Some, is_some, Bool, true}
use Rattle.std.proofs.Common.{false, not, cond, ◌&&◌, if◌then◌else◌, List, [], ◌∷◌, ◌++◌}
use Rattle.std.proofs.Common.{filter, map, Ordering, refl, ap, sym, ◌∙◌, subst, arith}
use Rattle.std.specs.declared.cmp.Ordering.TheVariants.{Less, Equal, Greater}
use Rattle.std.specs.Cmp.{IsTotalOrder}
use Rattle.std.specs.List.{All, AllByRecursion, fold, list_all}
use Rattle.std.specs.Ordering.{ordering_reverse}
use Rattle.std.specs.Map.Iter.{TakesFirst}
use Rattle.std.proofs.lemmas.Cmp.{tied_back}
use Rattle.std.proofs.lemmas.List.Kept.{AllPairs-cons}
use Rattle.std.proofs.lemmas.Bool.{false≢true}
use Rattle.indexset_core.specs.Order.{IsAscending, below, above, has_equal, keep, put}
use Rattle.std.specs.List.{cons_option}
use Rattle.indexset_set.specs.declared.algebra.merge.MergeItem.{MergeItem}
use Rattle.indexset_set.specs.declared.algebra.merge.MergeItem.TheVariants.{Left, Right, Both}
use Rattle.indexset_set.specs.Merge.{read, merged, of_either, of_both, of_left_alone, of_one_alone}
use Rattle.indexset_set.specs.SetAlgebra.{union, intersection, difference, symmetric_difference}
use Rattle.indexset_set.proofs.MergeLemmas.{merged_by, read_all, read_none}

module _ {T : Type 0} (cmp : T → T → Ordering) where
  -- x is below each of l
  abbrev pub IsUnder : T → List T → Type 0
  IsUnder x l = AllByRecursion (λ y. cmp x y ≡ Less) l

  -- each is below all later ones
  abbrev pub Up : List T → Type 0
  Up [] = Unit {0}
  Up (x ∷ xs) = IsUnder x xs × Up xs

  by_recursion : (P : T → Type 0) (l : List T) → All P l → AllByRecursion P l
  by_recursion P [] h = tt
  by_recursion P (x ∷ xs) h = (h 0 x (omega arith), by_recursion P xs (λ k d lt. h (suc k) d (omega arith)))

  by_place : (P : T → Type 0) (l : List T) → AllByRecursion P l → All P l
  by_place P [] h k d lt = absurd (omega arith)
  by_place P (x ∷ xs) h zero d lt = h.0
  by_place P (x ∷ xs) h (suc k) d lt = by_place P xs h.1 k d (omega arith)

  pub up_from : (l : List T) → IsAscending cmp l → Up l
  up_from [] h = tt
  up_from (x ∷ xs) h = (by_recursion (λ y. cmp x y ≡ Less) xs (λ k d lt. h 0 (suc k) d (omega arith) (omega arith)), up_from xs (λ i j d lt inside. h (suc i) (suc j) d (omega arith) (omega arith)))

  pub ascending_from : (l : List T) → Up l → IsAscending cmp l
  ascending_from [] h = λ i j d lt inside. absurd (omega arith)
  ascending_from (x ∷ xs) h = AllPairs-cons (λ y z. cmp y z ≡ Less) x xs (by_place (λ y. cmp x y ≡ Less) xs h.0) (ascending_from xs h.1)

  pub under_map : (x y : T) → ((z : T) → cmp y z ≡ Less → cmp x z ≡ Less) → (l : List T) → IsUnder y l → IsUnder x l
  under_map x y f [] h = tt
  under_map x y f (z ∷ zs) h = (f z h.0, under_map x y f zs h.1)

  under_cond : (x y : T) (b : Bool) (l : List T) → cmp x y ≡ Less → IsUnder x l → IsUnder x (cond b (y ∷ l) l)
  under_cond x y true l e h = (e, h)
  under_cond x y false l e h = h

  under_filter : (x : T) (p : T → Bool) (l : List T) → IsUnder x l → IsUnder x (filter p l)
  under_filter x p [] h = tt
  under_filter x p (y ∷ ys) h = under_cond x y (p y) (filter p ys) h.0 (under_filter x p ys h.1)

  module _ (o : IsTotalOrder cmp) where
    pub turned : (x y : T) → cmp x y ≡ Greater → cmp y x ≡ Less
    turned x y h = o.antisymm y x ∙ ap ordering_reverse h

    over : (x y : T) → cmp x y ≡ Less → cmp y x ≡ Greater
    over x y h = o.antisymm y x ∙ ap ordering_reverse h

    -- an item that is at most y is below what y is below
    pub under_less : (x y : T) (l : List T) → cmp x y ≡ Less → IsUnder y l → IsUnder x (y ∷ l)
    under_less x y l e h = (e, under_map x y (λ z f. o.trans x y z e f) l h)

    pub under_equal : (x y : T) (l : List T) → cmp x y ≡ Equal → IsUnder y l → IsUnder x l
    under_equal x y l e h = under_map x y (λ z f. o.congr x y z e ∙ f) l h

    -- no item that v is below is equal to it
    pub under_none : (v : T) (l : List T) → IsUnder v l → has_equal cmp l v ≡ false
    under_none v [] h = refl
    under_none v (x ∷ xs) h = rw (over v x h.0) (under_none v xs h.1)

    under_below : (v : T) (l : List T) → IsUnder v l → below cmp l v ≡ []
    under_below v [] h = refl
    under_below v (x ∷ xs) h = rw (over v x h.0) (under_below v xs h.1)

    under_above : (v : T) (l : List T) → IsUnder v l → above cmp l v ≡ l
    under_above v [] h = refl
    under_above v (x ∷ xs) h = rw (over v x h.0) (ap (λ l. x ∷ l) (under_above v xs h.1))

    -- v is inserted at the front
    keep_front : (v : T) (l : List T) → IsUnder v l → keep cmp l v ≡ v ∷ l
    unfolding keep put
    keep_front v l h = rw (under_none v l h, under_below v l h, under_above v l h) refl

    -- v is inserted after the front
    keep_behind : (x v : T) (l : List T) → cmp x v ≡ Less → keep cmp (x ∷ l) v ≡ x ∷ keep cmp l v
    unfolding keep put
    keep_behind x v l e = rw e (elim (has_equal cmp l v) as (λ b. (if b then x ∷ l else x ∷ (below cmp l v ++ v ∷ above cmp l v)) ≡ x ∷ (if b then l else below cmp l v ++ v ∷ above cmp l v)) [
      | true ↦ refl
      | false ↦ refl
    ])

    -- an equal element is present
    keep_there : (x v : T) (l : List T) → cmp x v ≡ Equal → keep cmp (x ∷ l) v ≡ x ∷ l
    unfolding keep
    keep_there x v l e = rw e refl

    all_behind : (x : T) (l r : List T) → IsUnder x r → fold (keep cmp) (x ∷ l) r ≡ x ∷ fold (keep cmp) l r
    all_behind x l [] h = refl
    all_behind x l (y ∷ ys) h = ap (λ m. fold (keep cmp) m ys) (keep_behind x y l h.0) ∙ all_behind x (keep cmp l y) ys h.1

    -- the union, by its first element
    pub union_none : (l : List T) → union cmp l [] ≡ l
    unfolding union
    union_none l = refl

    pub union_behind : (x : T) (l r : List T) → IsUnder x r → union cmp (x ∷ l) r ≡ x ∷ union cmp l r
    unfolding union
    union_behind x l r h = all_behind x l r h

    pub union_same : (x y : T) (l r : List T) → cmp x y ≡ Equal → IsUnder y r → union cmp (x ∷ l) (y ∷ r) ≡ x ∷ union cmp l r
    unfolding union
    union_same x y l r e h = ap (λ m. fold (keep cmp) m r) (keep_there x y l e) ∙ all_behind x l r (under_equal x y r e h)

    pub union_front : (y : T) (l r : List T) → IsUnder y l → IsUnder y r → union cmp l (y ∷ r) ≡ y ∷ union cmp l r
    unfolding union
    union_front y l r h g = ap (λ m. fold (keep cmp) m r) (keep_front y l h) ∙ all_behind y l r g

    pub union_alone : (r : List T) → Up r → union cmp [] r ≡ r
    union_alone [] h = union_none []
    union_alone (y ∷ ys) h = union_front y [] ys tt h.0 ∙ ap (λ l. y ∷ l) (union_alone ys h.1)

    -- an item that y is below is not equal to it
    unequal : (y : T) (f : Bool → Bool) (r l : List T) → IsUnder y l → filter (λ z. f (has_equal cmp (y ∷ r) z)) l ≡ filter (λ z. f (has_equal cmp r z)) l
    unequal y f r [] h = refl
    unequal y f r (z ∷ zs) h = rw h.0 (ap (λ l. cond (f (has_equal cmp r z)) (z ∷ l) l) (unequal y f r zs h.1))

    filter_with : (p : T → Bool) (x : T) (l : List T) → p x ≡ true → filter p (x ∷ l) ≡ x ∷ filter p l
    filter_with p x l h = rw h refl

    filter_without : (p : T → Bool) (x : T) (l : List T) → p x ≡ false → filter p (x ∷ l) ≡ filter p l
    filter_without p x l h = rw h refl

    has_first : (x y : T) (r : List T) → cmp x y ≡ Equal → has_equal cmp (y ∷ r) x ≡ true
    has_first x y r e = rw (tied_back o x y e) refl

    -- the intersection
    pub intersection_none : (l : List T) → intersection cmp l [] ≡ []
    unfolding intersection
    intersection_none [] = refl
    intersection_none (x ∷ xs) = intersection_none xs

    pub intersection_first : (r : List T) → intersection cmp [] r ≡ []
    unfolding intersection
    intersection_first r = refl

    pub intersection_under : (x : T) (l r : List T) → IsUnder x r → intersection cmp (x ∷ l) r ≡ intersection cmp l r
    unfolding intersection
    intersection_under x l r h = filter_without (has_equal cmp r) x l (under_none x r h)

    pub intersection_same : (x y : T) (l r : List T) → cmp x y ≡ Equal → IsUnder x l → intersection cmp (x ∷ l) (y ∷ r) ≡ x ∷ intersection cmp l r
    unfolding intersection
    intersection_same x y l r e h = filter_with (has_equal cmp (y ∷ r)) x l (has_first x y r e) ∙ ap (λ m. x ∷ m) (unequal y (λ b. b) r l (under_equal y x l (tied_back o x y e) h))

    pub intersection_over : (y : T) (l r : List T) → IsUnder y l → intersection cmp l (y ∷ r) ≡ intersection cmp l r
    unfolding intersection
    intersection_over y l r h = unequal y (λ b. b) r l h

    -- the difference
    pub difference_none : (l : List T) → difference cmp l [] ≡ l
    unfolding difference
    difference_none [] = refl
    difference_none (x ∷ xs) = ap (λ l. x ∷ l) (difference_none xs)

    pub difference_under : (x : T) (l r : List T) → IsUnder x r → difference cmp (x ∷ l) r ≡ x ∷ difference cmp l r
    unfolding difference
    difference_under x l r h = filter_with (λ z. not (has_equal cmp r z)) x l (ap not (under_none x r h))

    pub difference_same : (x y : T) (l r : List T) → cmp x y ≡ Equal → IsUnder x l → difference cmp (x ∷ l) (y ∷ r) ≡ difference cmp l r
    unfolding difference
    difference_same x y l r e h = filter_without (λ z. not (has_equal cmp (y ∷ r) z)) x l (ap not (has_first x y r e)) ∙ unequal y not r l (under_equal y x l (tied_back o x y e) h)

    pub difference_over : (y : T) (l r : List T) → IsUnder y l → difference cmp l (y ∷ r) ≡ difference cmp l r
    unfolding difference
    difference_over y l r h = unequal y not r l h

    pub difference_first : (r : List T) → difference cmp [] r ≡ []
    unfolding difference
    difference_first r = refl

    under_difference : (x : T) (l r : List T) → IsUnder x l → IsUnder x (difference cmp l r)
    unfolding difference
    under_difference x l r h = under_filter x (λ z. not (has_equal cmp r z)) l h

    -- the symmetric difference
    pub apart_none : (l : List T) → symmetric_difference cmp l [] ≡ l
    unfolding symmetric_difference
    apart_none l = rw (difference_none l, difference_first l) (union_none l)

    pub apart_alone : (r : List T) → Up r → symmetric_difference cmp [] r ≡ r
    unfolding symmetric_difference
    apart_alone r h = rw (difference_first r, difference_none r) (union_alone r h)

    pub apart_under : (x : T) (l r : List T) → IsUnder x r → symmetric_difference cmp (x ∷ l) r ≡ x ∷ symmetric_difference cmp l r
    unfolding symmetric_difference
    apart_under x l r h =
        rw (difference_under x l r h, difference_over x r l h) (union_behind x (difference cmp l r) (difference cmp r l) (under_difference x r l h))

    pub apart_same : (x y : T) (l r : List T) → cmp x y ≡ Equal → IsUnder x l → IsUnder y r → symmetric_difference cmp (x ∷ l) (y ∷ r) ≡ symmetric_difference cmp l r
    unfolding symmetric_difference
    apart_same x y l r e h g = rw (difference_same x y l r e h, difference_same y x r l (tied_back o x y e) g) refl

    pub apart_front : (y : T) (l r : List T) → IsUnder y l → IsUnder y r → symmetric_difference cmp l (y ∷ r) ≡ y ∷ symmetric_difference cmp l r
    unfolding symmetric_difference
    apart_front y l r h g =
        rw (difference_over y l r h, difference_under y r l h) (union_front y (difference cmp l r) (difference cmp r l) (under_difference y l r h) (under_difference y r l g))

-- a list that is read from merged lists is a list of two ascending ones, if it is at each first
-- item
module _ {T : Type 0} (cmp : T → T → Ordering) where
  pub record Reads (f : MergeItem T → Option T) (whole : List T → List T → List T) : Type 0 where
    pub left_ended : (r : List T) → Up cmp r → read f (map Right r) ≡ whole [] r
    pub right_ended : (l : List T) → read f (map Left l) ≡ whole l []
    pub at_left : (x : T) (l r : List T) → IsUnder cmp x r → cons_option (f (Left x)) (whole l r) ≡ whole (x ∷ l) r
    pub at_both : (x y : T) (l r : List T) → cmp x y ≡ Equal → IsUnder cmp x l → IsUnder cmp y r → cons_option (f (Both x y)) (whole l r) ≡ whole (x ∷ l) (y ∷ r)
    pub at_right : (y : T) (l r : List T) → IsUnder cmp y l → IsUnder cmp y r → cons_option (f (Right y)) (whole l r) ≡ whole l (y ∷ r)

  module _ (o : IsTotalOrder cmp) where
    abbrev pub IsWhole : (MergeItem T → Option T) → (List T → List T → List T) → List T → List T → List (MergeItem T) → Type 0
    IsWhole f whole l r m = Up cmp l → Up cmp r → read f m ≡ whole l r

    pub merged_reads : (f : MergeItem T → Option T) (whole : List T → List T → List T) → Reads f whole → (l r : List T) → IsWhole f whole l r (merged cmp l r)
    merged_reads f whole reads =
        merged_by cmp (IsWhole f whole) (λ r up vp. reads.left_ended r vp) (λ l up vp. reads.right_ended l)
        (λ x xs y ys m e rest up vp. ap (cons_option (f (Left x))) (rest up.1 vp) ∙ reads.at_left x xs (y ∷ ys) (under_less cmp o x y ys e vp.0))
        (λ x xs y ys m e rest up vp. ap (cons_option (f (Both x y))) (rest up.1 vp.1) ∙ reads.at_both x y xs ys e up.0 vp.0)
        (λ x xs y ys m e rest up vp. ap (cons_option (f (Right y))) (rest up vp.1) ∙ reads.at_right y (x ∷ xs) ys (under_less cmp o y x xs (turned cmp o x y e) up.0) vp.0)

    union_reads : Reads of_either (union cmp)
    union_reads = record {
      left_ended = λ r up. read_all of_either Right (λ y. refl) r ∙ sym (union_alone cmp o r up);
      right_ended = λ l. read_all of_either Left (λ x. refl) l ∙ sym (union_none cmp o l);
      at_left = λ x l r h. sym (union_behind cmp o x l r h);
      at_both = λ x y l r e h g. sym (union_same cmp o x y l r e g);
      at_right = λ y l r h g. sym (union_front cmp o y l r h g);
    }

    intersection_reads : Reads of_both (intersection cmp)
    intersection_reads = record {
      left_ended = λ r up. read_none of_both Right (λ y. refl) r ∙ sym (intersection_first cmp o r);
      right_ended = λ l. read_none of_both Left (λ x. refl) l ∙ sym (intersection_none cmp o l);
      at_left = λ x l r h. sym (intersection_under cmp o x l r h);
      at_both = λ x y l r e h g. sym (intersection_same cmp o x y l r e h);
      at_right = λ y l r h g. sym (intersection_over cmp o y l r h);
    }

    difference_reads : Reads of_left_alone (difference cmp)
    difference_reads = record {
      left_ended = λ r up. read_none of_left_alone Right (λ y. refl) r ∙ sym (difference_first cmp o r);
      right_ended = λ l. read_all of_left_alone Left (λ x. refl) l ∙ sym (difference_none cmp o l);
      at_left = λ x l r h. sym (difference_under cmp o x l r h);
      at_both = λ x y l r e h g. sym (difference_same cmp o x y l r e h);
      at_right = λ y l r h g. sym (difference_over cmp o y l r h);
    }

    apart_reads : Reads of_one_alone (symmetric_difference cmp)
    apart_reads = record {
      left_ended = λ r up. read_all of_one_alone Right (λ y. refl) r ∙ sym (apart_alone cmp o r up);
      right_ended = λ l. read_all of_one_alone Left (λ x. refl) l ∙ sym (apart_none cmp o l);
      at_left = λ x l r h. sym (apart_under cmp o x l r h);
      at_both = λ x y l r e h g. sym (apart_same cmp o x y l r e h g);
      at_right = λ y l r h g. sym (apart_front cmp o y l r h g);
    }

    module _ (l r : List T) (up : IsAscending cmp l) (vp : IsAscending cmp r) where
      pub union_read : read of_either (merged cmp l r) ≡ union cmp l r
      union_read = merged_reads of_either (union cmp) union_reads l r (up_from cmp l up) (up_from cmp r vp)

      pub intersection_read : read of_both (merged cmp l r) ≡ intersection cmp l r
      intersection_read = merged_reads of_both (intersection cmp) intersection_reads l r (up_from cmp l up) (up_from cmp r vp)

      pub difference_read : read of_left_alone (merged cmp l r) ≡ difference cmp l r
      difference_read = merged_reads of_left_alone (difference cmp) difference_reads l r (up_from cmp l up) (up_from cmp r vp)

      pub apart_read : read of_one_alone (merged cmp l r) ≡ symmetric_difference cmp l r
      apart_read = merged_reads of_one_alone (symmetric_difference cmp) apart_reads l r (up_from cmp l up) (up_from cmp r vp)

-- one call of an iterator over what passes p shows whether all pass q
module _ {T A : Type 0} (shows : A → T) (p q : T → Bool) (other : (x : T) → q x ≡ not (p x)) where
  abbrev Passes : Bool → T → List T → Type 0
  Passes b x xs = cond b (x ∷ filter p xs) (filter p xs) ≡ [] → (not b && list_all q xs) ≡ true

  none_pass : (l : List T) → filter p l ≡ [] → list_all q l ≡ true
  none_pass [] = λ h. refl
  none_pass (x ∷ xs) = rw (other x) (elim (p x) as (λ b. Passes b x xs) [
    | true ↦ λ h. absurd (cc)
    | false ↦ λ h. none_pass xs h
  ])

  abbrev Fails : Bool → T → List T → T → List T → Type 0
  Fails b x xs y t = cond b (x ∷ filter p xs) (filter p xs) ≡ y ∷ t → (not b && list_all q xs) ≡ false

  some_passes : (l : List T) (y : T) (t : List T) → filter p l ≡ y ∷ t → list_all q l ≡ false
  some_passes [] y t = λ h. absurd (cc)
  some_passes (x ∷ xs) y t = rw (other x) (elim (p x) as (λ b. Fails b x xs y t) [
    | true ↦ λ h. refl
    | false ↦ λ h. some_passes xs y t h
  ])

  pub asked_once : (l t : List T) (r : Option A) (b : Bool) → TakesFirst shows (filter p l) r t → is_some r ≡ not b → b ≡ list_all q l
  asked_once l t None true h e = sym (none_pass l h.0)
  asked_once l t None false h e = absurd (false≢true e)
  asked_once l t (Some x) true h e = absurd (false≢true (sym e))
  asked_once l t (Some x) false h e = sym (some_passes l (shows x) t h)

not_not : (b : Bool) → b ≡ not (not b)
not_not true = refl
not_not false = refl

module _ {T A : Type 0} (cmp : T → T → Ordering) (shows : A → T) (l r w t : List T) (s : Option A) (b : Bool) where
  pub subset_told : w ≡ difference cmp l r → TakesFirst shows w s t → is_some s ≡ not b → b ≡ list_all (has_equal cmp r) l
  unfolding difference
  subset_told e h told = asked_once shows (λ x. not (has_equal cmp r x)) (has_equal cmp r) (λ x. not_not (has_equal cmp r x)) l t s b (subst (λ v. TakesFirst shows v s t) e h) told

  pub disjoint_told : w ≡ intersection cmp l r → TakesFirst shows w s t → is_some s ≡ not b → b ≡ list_all (λ x. not (has_equal cmp r x)) l
  unfolding intersection
  disjoint_told e h told = asked_once shows (has_equal cmp r) (λ x. not (has_equal cmp r x)) (λ x. refl) l t s b (subst (λ v. TakesFirst shows v s t) e h) told
