-- A stable sort of values, without all but the first of equal ones, gives the values that are
-- inserted one by one.
use Rattle.std.proofs.Common.{◌≡◌, Option, None, Some, Bool, true, false, not, cond, ◌&&◌}
use Rattle.std.proofs.Common.{if◌then◌else◌, find, is_some, List, [], ◌∷◌, take, drop, filter}
use Rattle.std.proofs.Common.{Ordering, Result, Ok, Err, IfOk, refl, ap, sym, ◌∙◌, subst, arith}
use Rattle.std.specs.declared.cmp.Ordering.TheVariants.{Less, Equal, Greater}
use Rattle.std.specs.Cmp.{IsTotalOrder}
use Rattle.std.specs.List.{dedup, dedup_from, fold}
use Rattle.std.specs.List.Sorted.{IsSorted, IsStable, IsStrictlySortedBy, ties}
use Rattle.std.specs.Option.{option_or}
use Rattle.std.specs.Ordering.{is_eq, is_lt, ordering_reverse}
use Rattle.std.proofs.lemmas.Bool.{false≢true}
use Rattle.std.proofs.lemmas.List.{take-append-drop}
use Rattle.std.proofs.lemmas.List.Folds.{find-append}
use Rattle.std.proofs.lemmas.List.Kept.{IsStrictlySortedBy-dedup}
use Rattle.indexset_core.specs.Order.{IsAscending, equal_element, has_equal, keep, put, rank}
use Rattle.indexset_core.proofs.CallerLemmas.{is_some-find}
use Rattle.indexset_set.specs.SetNodes.{nodes_kept_all}
use Rattle.indexset_spine.specs.NodeList.{NodeList, items}
use Rattle.indexset_set.proofs.SetAlgebraLaws.{has_alike, keep_ascending, put_absent, equal_is}
use Rattle.indexset_set.proofs.SetAlgebraLemmas.{IsUnder, Up, ascending_from, under_map, up_from}

some_other : {X Y : Type 0} (x : X) → None ≡ Some x → Y
some_other x e = absurd (false≢true (ap is_some e))

the_same : {X : Type 0} (x y : X) → Some x ≡ Some y → x ≡ y
the_same x y e = cc

not_there : {X : Type 0} (o : Option X) → is_some o ≡ false → o ≡ None
not_there None h = refl
not_there (Some x) h = absurd (false≢true (sym h))

there_or : {X : Type 0} (o p : Option X) → is_some o ≡ true → option_or o p ≡ o
there_or None p h = absurd (false≢true h)
there_or (Some x) p h = refl

or_none : {X : Type 0} (o : Option X) → option_or o None ≡ o
or_none None = refl
or_none (Some x) = refl

or_assoc : {X : Type 0} (o p q : Option X) → option_or (option_or o p) q ≡ option_or o (option_or p q)
or_assoc None p q = refl
or_assoc (Some x) p q = refl

-- equal to v is neither below nor above it
ties_equal : (a : Ordering) → (not (is_lt (ordering_reverse a)) && not (is_lt a)) ≡ is_eq a
ties_equal Less = refl
ties_equal Equal = refl
ties_equal Greater = refl

module _ {X : Type 0} where
  same_find : (p q : X → Bool) → ((x : X) → p x ≡ q x) → (l : List X) → find p l ≡ find q l
  same_find p q same [] = refl
  same_find p q same (x ∷ xs) = rw (same x, same_find p q same xs) refl

  -- the first that passes, of a list and of all that pass
  find_passing : (p : X → Bool) (l : List X) → find p (filter p l) ≡ find p l
  find_passing p [] = refl
  find_passing p (x ∷ xs) = elim (p x) as (λ b. p x ≡ b → find p (cond b (x ∷ filter p xs) (filter p xs)) ≡ cond b (Some x) (find p xs)) [
    | true ↦ λ e. rw e refl
    | false ↦ λ e. find_passing p xs
  ] refl

module _ {T : Type 0} (cmp : T → T → Ordering) (o : IsTotalOrder cmp) where
  itself : (x : T) → cmp x x ≡ Equal
  itself x = equal_is cmp o _ (elim (cmp x x) as (λ a. a ≡ ordering_reverse a → is_eq a ≡ true) [
    | Less ↦ λ e. absurd (cc)
    | Equal ↦ λ e. refl
    | Greater ↦ λ e. absurd (cc)
  ] (o.antisymm x x))

  found_first : (x : T) (l : List T) → equal_element cmp (x ∷ l) x ≡ Some x
  found_first x l = rw (itself x) refl

  none_under : (x v : T) (l : List T) → cmp x v ≡ Equal → IsUnder cmp x l → equal_element cmp l v ≡ None
  none_under x v [] e h = refl
  none_under x v (y ∷ ys) e h =
      let over : cmp y v ≡ Greater = o.antisymm y v ∙ ap ordering_reverse (sym (o.congr x v y e) ∙ h.0) in
      rw over (none_under x v ys e h.1)

  -- no item of the list is below the first
  none_below : (x y : T) (l : List T) → cmp x y ≡ Less → IsUnder cmp y l → equal_element cmp (y ∷ l) x ≡ None
  none_below x y l e h = none_under x x (y ∷ l) (itself x) (e, under_map cmp x y (λ z less. o.trans x y z e less) l h)

  tails : (x : T) (xs ys : List T) → IsUnder cmp x xs → IsUnder cmp x ys
      → ((v : T) → equal_element cmp (x ∷ xs) v ≡ equal_element cmp (x ∷ ys) v) → (v : T)
      → equal_element cmp xs v ≡ equal_element cmp ys v
  tails x xs ys h k same v =
      elim (is_eq (cmp x v))
      as (λ b. is_eq (cmp x v) ≡ b → cond b (Some x) (equal_element cmp xs v) ≡ cond b (Some x) (equal_element cmp ys v)
      → equal_element cmp xs v ≡ equal_element cmp ys v) [
        | true ↦ λ e _. none_under x v xs (equal_is cmp o _ e) h ∙ sym (none_under x v ys (equal_is cmp o _ e) k)
        | false ↦ λ _ s. s
      ] refl (same v)

  -- ascending lists that have the same elements are one
  same_elements : (l m : List T) → Up cmp l → Up cmp m → ((v : T) → equal_element cmp l v ≡ equal_element cmp m v) → l ≡ m
  same_elements [] [] h k same = refl
  same_elements [] (y ∷ ys) h k same = some_other y (same y ∙ found_first y ys)
  same_elements (x ∷ xs) [] h k same = some_other x (sym (same x) ∙ found_first x xs)
  same_elements (x ∷ xs) (y ∷ ys) h k same = elim (cmp x y) as (λ a. cmp x y ≡ a → x ∷ xs ≡ y ∷ ys) [
    | Less ↦ λ e. some_other x (sym (none_below x y ys e k.0) ∙ (sym (same x) ∙ found_first x xs))
    | Equal ↦ λ e.
        let first : x ≡ y = the_same x y (sym (found_first x xs) ∙ (same x ∙ rw (o.antisymm y x ∙ ap ordering_reverse e) refl)) in
        let rest : xs ≡ ys = same_elements xs ys h.1 k.1 (tails x xs ys h.0 (subst (λ z. IsUnder cmp z ys) (sym first) k.0) (λ v. same v ∙ ap (λ z. equal_element cmp (z ∷ ys) v) (sym first))) in
        λ i. first i ∷ rest i
    | Greater ↦ λ e. some_other y (sym (none_below y x xs (o.antisymm y x ∙ ap ordering_reverse e) h.0) ∙ (same y ∙ found_first y ys))
  ] refl

  -- the element equal to v after the insertion of x
  module _ (l : List T) (up : IsAscending cmp l) (x v : T) where
    between : (a c whole : Option T) (b : Bool) → whole ≡ option_or a c → (b ≡ true → whole ≡ None) → option_or a (cond b (Some x) c) ≡ option_or whole (cond b (Some x) None)
    between None c whole true parts none = rw (none refl) refl
    between (Some y) c whole true parts none = some_other y (sym (none refl) ∙ parts)
    between a c whole false parts none = sym parts ∙ sym (or_none whole)

    none_alike : has_equal cmp l x ≡ false → is_eq (cmp x v) ≡ true → equal_element cmp l v ≡ None
    none_alike none e = not_there _ (is_some-find (λ y. is_eq (cmp y v)) l ∙ (sym (has_alike cmp o x v (equal_is cmp o _ e) l) ∙ none))

    found_put : has_equal cmp l x ≡ false → equal_element cmp (put cmp l x) v ≡ option_or (equal_element cmp l v) (cond (is_eq (cmp x v)) (Some x) None)
    found_put none =
        let p : T → Bool = λ y. is_eq (cmp y v) in
        let i = rank cmp l x in
        let parts : equal_element cmp l v ≡ option_or (find p (take i l)) (find p (drop i l)) = ap (find p) (sym (take-append-drop i l)) ∙ find-append p (take i l) (drop i l) in
        ap (find p) (put_absent cmp o l up x none) ∙ (find-append p (take i l) (x ∷ drop i l) ∙ between (find p (take i l)) (find p (drop i l)) _ (is_eq (cmp x v)) parts (none_alike none))

    found_there : has_equal cmp l x ≡ true → (b : Bool) → is_eq (cmp x v) ≡ b → equal_element cmp l v ≡ option_or (equal_element cmp l v) (cond b (Some x) None)
    found_there has true e = sym (there_or (equal_element cmp l v) (Some x) (is_some-find (λ y. is_eq (cmp y v)) l ∙ (sym (has_alike cmp o x v (equal_is cmp o _ e) l) ∙ has)))
    found_there has false e = sym (or_none (equal_element cmp l v))

    found_kept : equal_element cmp (keep cmp l x) v ≡ option_or (equal_element cmp l v) (cond (is_eq (cmp x v)) (Some x) None)
    unfolding keep
    found_kept =
        elim (has_equal cmp l x)
        as (λ b. has_equal cmp l x ≡ b
        → equal_element cmp (if b then l else put cmp l x) v
        ≡ option_or (equal_element cmp l v) (cond (is_eq (cmp x v)) (Some x) None)) [
          | true ↦ λ has. found_there has (is_eq (cmp x v)) refl
          | false ↦ λ none. found_put none
        ] refl

  cond_or : {X : Type 0} (b : Bool) (x : X) (r : Option X) → option_or (cond b (Some x) None) r ≡ cond b (Some x) r
  cond_or true x r = refl
  cond_or false x r = refl

  -- the element equal to v after the insertion of all of xs
  found_all_kept : (l xs : List T) → IsAscending cmp l → (v : T) → equal_element cmp (fold (keep cmp) l xs) v ≡ option_or (equal_element cmp l v) (equal_element cmp xs v)
  found_all_kept l [] up v = sym (or_none (equal_element cmp l v))
  found_all_kept l (x ∷ xs) up v =
      let b = is_eq (cmp x v) in
      found_all_kept (keep cmp l x) xs (keep_ascending cmp o l up x) v
      ∙ (ap (λ a. option_or a (equal_element cmp xs v)) (found_kept l up x v)
      ∙ (or_assoc (equal_element cmp l v) (cond b (Some x) None) (equal_element cmp xs v)
      ∙ ap (option_or (equal_element cmp l v)) (cond_or b x (equal_element cmp xs v))))

  all_kept_ascending : (l xs : List T) → IsAscending cmp l → IsAscending cmp (fold (keep cmp) l xs)
  all_kept_ascending l [] up = up
  all_kept_ascending l (x ∷ xs) up = all_kept_ascending (keep cmp l x) xs (keep_ascending cmp o l up x)

  abbrev pub same : T → T → Bool
  same x y = is_eq (cmp x y)

  none_ascend : IsAscending cmp []
  none_ascend i j d lt inside = absurd (omega arith)

  past : (k x : T) (xs : List T) (v : T) (a : Bool) → a ≡ is_eq (cmp x v) → cond a (Some k) (equal_element cmp xs v) ≡ cond a (Some k) (cond (is_eq (cmp x v)) (Some x) (equal_element cmp xs v))
  past k x xs v true e = refl
  past k x xs v false e = rw (sym e) refl

  -- one that is equal to the last kept is not the first of its kind
  found_from : (k : T) (xs : List T) (v : T) → equal_element cmp (dedup_from same k xs) v ≡ equal_element cmp (k ∷ xs) v
  found_from k [] v = refl
  found_from k (x ∷ xs) v = elim (same x k) as (λ b. same x k ≡ b → equal_element cmp (cond b (dedup_from same k xs) (k ∷ dedup_from same x xs)) v ≡ equal_element cmp (k ∷ x ∷ xs) v) [
    | true ↦ λ e. found_from k xs v ∙ past k x xs v (is_eq (cmp k v)) (sym (ap is_eq (o.congr x k v (equal_is cmp o _ e))))
    | false ↦ λ e. ap (cond (is_eq (cmp k v)) (Some k)) (found_from x xs v)
  ] refl

  found_dedup : (xs : List T) (v : T) → equal_element cmp (dedup same xs) v ≡ equal_element cmp xs v
  found_dedup [] v = refl
  found_dedup (x ∷ xs) v = found_from x xs v

  found_stable : (xs ys : List T) → IsStable cmp xs ys → (v : T) → equal_element cmp ys v ≡ equal_element cmp xs v
  found_stable xs ys stable v =
      let q : T → Bool = ties (λ x y. is_lt (cmp x y)) v in
      let one : (x : T) → is_eq (cmp x v) ≡ q x = λ x. sym (ap (λ a. not (is_lt a) && not (is_lt (cmp x v))) (o.antisymm v x) ∙ ties_equal (cmp x v)) in
      same_find (λ x. is_eq (cmp x v)) q one ys ∙ (sym (find_passing q ys) ∙ (ap (find q) (stable v) ∙ (find_passing q xs ∙ sym (same_find (λ x. is_eq (cmp x v)) q one xs))))

  up_of : (l : List T) → IsStrictlySortedBy cmp l → Up cmp l
  unfolding IsStrictlySortedBy
  up_of [] h = tt
  up_of (x ∷ xs) h = (h.0, up_of xs h.1)

  module _ (xs ys : List T) (sorted : IsSorted cmp ys) where
    dedup_up : Up cmp (dedup same ys)
    dedup_up = up_of (dedup same ys) (IsStrictlySortedBy-dedup o (λ x y. refl) ys sorted)

    pub dedup_ascending : IsAscending cmp (dedup same ys)
    dedup_ascending = ascending_from cmp (dedup same ys) dedup_up

    -- a stable sort, and then the first of equal ones
    pub sorted_kept : IsStable cmp xs ys → dedup same ys ≡ fold (keep cmp) [] xs
    sorted_kept stable =
        same_elements (dedup same ys) (fold (keep cmp) [] xs) dedup_up (up_from cmp (fold (keep cmp) [] xs) (all_kept_ascending [] xs none_ascend))
        (λ v. found_dedup ys v ∙ (found_stable xs ys stable v ∙ sym (found_all_kept [] xs none_ascend v)))

-- the nodes of a list are those of the items, if these are the list
pub nodes_of_items : {T E : Type 0} (cmp : T → T → Ordering) (s : NodeList T) (l : List T)
    (r : Result (NodeList T) E)
    → IfOk r (λ made. items made ≡ l) → IfOk r (λ made. made.nodes ≡ nodes_kept_all cmp s l)
    → IfOk r (λ made. made.nodes ≡ nodes_kept_all cmp s (items made))
nodes_of_items cmp s l (Ok made) is nodes = nodes ∙ ap (nodes_kept_all cmp s) (sym is)
nodes_of_items cmp s l (Err e) is nodes = tt
