-- Searches for a key, and written values, in a list of pairs.
use Rattle.std.proofs.Common.{◌≡◌, ℕ, zero, suc, ◌+◌, ◌<◌, ◌≤◌, Bool, true, false, cond, ◌||◌}
use Rattle.std.proofs.Common.{not, List, [], ◌∷◌, length, get_or, Ordering, Some, None, is_some}
use Rattle.std.proofs.Common.{slice_get, nat_lt, refl, ap, sym, ◌∙◌, arith, length-set}
use Rattle.std.specs.declared.cmp.Ordering.TheVariants.{Less, Equal, Greater}
use Rattle.std.specs.Option.{option_map_or}
use Rattle.std.specs.Ordering.{is_eq, is_lt, is_le}
use Rattle.std.specs.Cmp.{IsTotalOrder}
use Rattle.std.specs.List.{AllWithin, HoldsAt, find, list_any, position, position_or_len, slice_set}
use Rattle.std.proofs.lemmas.Bool.{false≢true}
use Rattle.std.proofs.lemmas.Bool.Decides.{nat_tests}
use Rattle.std.proofs.lemmas.List.Folds.{find_at}
use Rattle.std.proofs.lemmas.List.Quantifiers.{position-Some}
use Rattle.std.proofs.lemmas.List.Sorted.{searchable_from_sorted}
use Rattle.std.proofs.lemmas.Option.{slice_get_past}
use Rattle.indexset_core.specs.declared.pair.Pair.{Pair}
use Rattle.indexset_core.specs.Order.{IsAscending, IsFoundAt, IsGapFor, without, unequal}
use Rattle.indexset_core.specs.Parted.{IsParted}
use Rattle.indexset_core.specs.Pairs.{pair, valued, by_key, set_value_at, has_key, pair_of, key_rank, set_value, without_key, set_found}
use Rattle.indexset_core.proofs.AscendingLemmas.{is_some-find}
use Rattle.indexset_core.specs.LookupKey.{OrdersAsItem, acts_on}
use Rattle.indexset_core.proofs.OrderLemmas.{equal_from, gap_at, parted_by_sought}
use Rattle.indexset_core.proofs.PartedLemmas.{front-is_le, passes_below, filter_all}

module _ {K V : Type 0} where
  -- a written value leaves the keys, and so their order, as they were
  key_kept : (l : List (Pair K V)) (i k : ℕ) (p d : Pair K V) (w : V) → slice_get l i ≡ Some p → (get_or (slice_set l i (valued p w)) k d).key ≡ (get_or l k d).key
  key_kept [] i k p d w at = refl
  key_kept (q ∷ l) zero zero p d w at = let same : q ≡ p = cc in ap (λ (t : Pair K V). t.key) (sym same)
  key_kept (q ∷ l) zero (suc k) p d w at = refl
  key_kept (q ∷ l) (suc i) zero p d w at = refl
  key_kept (q ∷ l) (suc i) (suc k) p d w at = key_kept l i k p d w at

  pub value_ascending : (cmp : K → K → Ordering) (l : List (Pair K V)) (i : ℕ) (p : Pair K V) (w : V)
      → slice_get l i ≡ Some p → IsAscending (by_key cmp) l → IsAscending (by_key cmp) (slice_set l i (valued p w))
  value_ascending cmp l i p w at up = λ a b d lt inside. rw (key_kept l i a p d w at, key_kept l i b p d w at) (up a b d lt (omega (arith, length-set l i (valued p w))))

-- a test of the elements, and the first that passes
module _ {X : Type 0} (p : X → Bool) where
  each_cons : (x : X) (xs : List X) → p x ≡ false → AllWithin (λ y. p y ≡ false) xs 0 (length xs) → AllWithin (λ y. p y ≡ false) (x ∷ xs) 0 (suc (length xs))
  each_cons x xs e rest zero d low high = e
  each_cons x xs e rest (suc k) d low high = rest k d (omega arith) (omega arith)

  any_false : (xs : List X) → list_any p xs ≡ false → AllWithin (λ y. p y ≡ false) xs 0 (length xs)
  any_false [] h = λ k d low high. absurd (omega arith)
  any_false (x ∷ xs) h = elim (p x) as (λ b. p x ≡ b → (b || list_any p xs) ≡ false → AllWithin (λ y. p y ≡ false) (x ∷ xs) 0 (suc (length xs))) [
    | true ↦ λ e g. absurd (false≢true (sym g))
    | false ↦ λ e g. each_cons x xs e (any_false xs g)
  ] refl h

  position_past : (xs : List X) → position p xs ≡ None → length xs ≤ position_or_len p xs
  position_past xs h =
      elim (nat_lt (position_or_len p xs) (length xs))
      as (λ b. nat_lt (position_or_len p xs) (length xs) ≡ b → cond b (Some (position_or_len p xs)) None ≡ None
      → length xs ≤ position_or_len p xs) [
        | true ↦ λ e g. absurd (cc)
        | false ↦ λ e g. grind (arith, nat_tests)
      ] refl h

  position_is : (xs : List X) (i : ℕ) → position p xs ≡ Some i → position_or_len p xs ≡ i
  position_is xs i h = elim (nat_lt (position_or_len p xs) (length xs)) as (λ b. cond b (Some (position_or_len p xs)) None ≡ Some i → position_or_len p xs ≡ i) [
    | true ↦ λ g. cc
    | false ↦ λ g. absurd (cc)
  ] h

  pub find_position : (xs : List X) (i : ℕ) → position p xs ≡ Some i → find p xs ≡ slice_get xs i
  find_position xs i h = find_at p xs ∙ ap (λ j. slice_get xs j) (position_is xs i h)

  pub find_absent : (xs : List X) → position p xs ≡ None → find p xs ≡ None
  find_absent xs h = find_at p xs ∙ slice_get_past xs (position_or_len p xs) (position_past xs h)

  any_absent : (xs : List X) → position p xs ≡ None → list_any p xs ≡ false
  any_absent xs h = sym (is_some-find p xs) ∙ ap is_some (find_absent xs h)

  pub any_position : (xs : List X) (i : ℕ) → position p xs ≡ Some i → slice_get xs i ≡ find p xs → i < length xs → list_any p xs ≡ true
  any_position xs i h e lt = sym (is_some-find p xs) ∙ (ap is_some (sym e) ∙ some_within xs i lt) where
    some_within : (xs : List X) (i : ℕ) → i < length xs → is_some (slice_get xs i) ≡ true
    some_within [] i lt = absurd (omega arith)
    some_within (x ∷ xs) zero lt = refl
    some_within (x ∷ xs) (suc i) lt = some_within xs i (omega arith)

not_below : {K : Type 0} {cmp : K → K → Ordering} (o : IsTotalOrder cmp) (x y : K) → cmp x y ≡ Less → is_lt (cmp y x) ≡ false
not_below o x y h = rw (o.antisymm y x) (rw h refl)

module _ {K V : Type 0} (cmp : K → K → Ordering) where
  -- a comparator by a key partitions the pairs
  pub parted_by_key : IsTotalOrder cmp → (l : List (Pair K V)) → IsAscending (by_key cmp) l → (k : K) → IsParted (λ p. cmp p.key k) l
  parted_by_key o l up k = searchable_from_sorted o (λ (p : Pair K V). p.key) l k (λ j d low high. not_below o _ _ (up j (j + 1) d (omega arith) high))

-- the same for a look-up key
pub parted_by_sought_key : {K V Q : Type 0} {cmp : K → K → Ordering} {order : K → Q → Ordering}
    {among : Q → Q → Ordering}
    → OrdersAsItem cmp order among → (l : List (Pair K V)) → IsAscending (by_key cmp) l → (k : Q)
    → IsParted (λ p. order p.key k) l
parted_by_sought_key acts l up k = parted_by_sought (acts_on (λ (p : Pair _ _). p.key) acts) l up k

module _ {K V Q : Type 0} (cmp : K → Q → Ordering) where
  -- the place of a key, by the value at its position
  set_value-cons : (q : Pair K V) (l : List (Pair K V)) (j : ℕ) (w : V) → q ∷ set_value_at l j w ≡ set_value_at (q ∷ l) (suc j) w
  set_value-cons q l j w = elim (slice_get l j) as (λ o. q ∷ option_map_or (λ p. slice_set l j (valued p w)) o l ≡ option_map_or (λ p. slice_set (q ∷ l) (suc j) (valued p w)) o (q ∷ l)) [
    | Some p ↦ refl
    | None ↦ refl
  ]

  pub set_value-at : (l : List (Pair K V)) (k : Q) (w : V) → set_value cmp l k w ≡ set_value_at l (position_or_len (λ p. is_eq (cmp p.key k)) l) w
  unfolding set_found
  set_value-at [] k w = refl
  set_value-at (p ∷ l) k w =
      let on : (b : Bool) → is_eq (cmp p.key k) ≡ b → set_value cmp (p ∷ l) k w ≡ set_value_at (p ∷ l) (position_or_len (λ q. is_eq (cmp q.key k)) (p ∷ l)) w = elim [
        | true ↦ λ e. rw e refl
        | false ↦
            λ e.
            rw e
            (let s : 1 + position_or_len (λ q. is_eq (cmp q.key k)) l
            ≡ suc (position_or_len (λ q. is_eq (cmp q.key k)) l) =
            omega arith in
            rw s
            (ap (λ t. p ∷ t) (set_value-at l k w)
            ∙ set_value-cons p l (position_or_len (λ q. is_eq (cmp q.key k)) l) w))
      ] in on (is_eq (cmp p.key k)) refl

  module _ (l : List (Pair K V)) (k : Q) where
    module _ (i : ℕ) (h : position (λ p. is_eq (cmp p.key k)) l ≡ Some i) where
      pub key_pair : pair_of cmp l k ≡ slice_get l i
      key_pair = find_position (λ p. is_eq (cmp p.key k)) l i h

      pub key_inside : i < length l
      key_inside = inside l h where
        inside : (l : List (Pair K V)) → position (λ p. is_eq (cmp p.key k)) l ≡ Some i → i < length l
        inside [] g = absurd (cc)
        inside (p ∷ xs) g = (position-Some (λ q. is_eq (cmp q.key k)) (p ∷ xs) i p g).0

      pub key_there : has_key cmp l k ≡ true
      key_there = any_position (λ p. is_eq (cmp p.key k)) l i h (sym key_pair) key_inside

      pub key_written : (w : V) → set_value_at l i w ≡ set_value cmp l k w
      key_written w = sym (set_value-at l k w ∙ ap (λ j. set_value_at l j w) (position_is (λ p. is_eq (cmp p.key k)) l i h))

      -- the pair is where the search found it
      pub found_key : IsParted (λ p. cmp p.key k) l → IsFoundAt (λ (p : Pair K V). cmp p.key) l k i
      found_key parted =
          let told = λ (d : Pair K V). position-Some (λ q. is_eq (cmp q.key k)) l i d h in
          let here : HoldsAt (λ p. is_eq (cmp p.key k) ≡ true) l i = λ d. (told d).1 in
          let upto : AllWithin (λ p. is_le (cmp p.key k) ≡ true) l 0 (i + 1) = passes_below is_le front-is_le (λ p. cmp p.key k) l parted i key_inside (λ d. rw (equal_from _ (here d)) refl) in
          record {
            inside = key_inside;
            equal = λ d. equal_from _ (here d);
            below_before = λ j d low high. le_not_eq _ (upto j d low (omega arith)) ((told d).2 j high);
          } where
            le_not_eq : (a : Ordering) → is_le a ≡ true → is_eq a ≡ false → a ≡ Less
            le_not_eq Less h g = refl
            le_not_eq Equal h g = absurd (false≢true (sym g))
            le_not_eq Greater h g = absurd (false≢true h)

    module _ (h : position (λ p. is_eq (cmp p.key k)) l ≡ None) where
      pub key_no_pair : pair_of cmp l k ≡ None
      key_no_pair = find_absent (λ p. is_eq (cmp p.key k)) l h

      pub key_absent : has_key cmp l k ≡ false
      key_absent = any_absent (λ p. is_eq (cmp p.key k)) l h

    pub absent_without : has_key cmp l k ≡ false → without_key cmp l k ≡ l
    unfolding unequal
    absent_without h = filter_all (λ p. not (is_eq (cmp p.key k))) l (λ j d low high. ap not (any_false (λ p. is_eq (cmp p.key k)) l h j d low high))

    -- the insertion point of an absent key is its rank
    pub gap_key : has_key cmp l k ≡ false → IsParted (λ p. cmp p.key k) l → (i : ℕ) → i ≡ key_rank cmp l k → IsGapFor (λ (p : Pair K V). cmp p.key) l k i
    gap_key h parted i place = gap_at (λ (p : Pair K V). cmp p.key) l k i parted place (λ lt d. any_false (λ p. is_eq (cmp p.key k)) l h i d (omega arith) lt)

module _ {K V : Type 0} (cmp : K → K → Ordering) where
  -- the same for the pair of the key and a value
  module _ (l : List (Pair K V)) (k : K) (i : ℕ) where
    pub key_found : position (λ p. is_eq (cmp p.key k)) l ≡ Some i → IsParted (λ p. cmp p.key k) l → (w : V) → IsFoundAt (by_key cmp) l (pair k w) i
    key_found h parted w = let f = found_key cmp l k i h parted in record { inside = f.inside; equal = f.equal; below_before = f.below_before }

  pub absent_gap : (l : List (Pair K V)) (k : K) → has_key cmp l k ≡ false → IsParted (λ p. cmp p.key k) l → (i : ℕ) → i ≡ key_rank cmp l k → (w : V) → IsGapFor (by_key cmp) l (pair k w) i
  absent_gap l k h parted i place w = let gap = gap_key cmp l k h parted i place in record { inside = gap.inside; below_before = gap.below_before; above_after = gap.above_after }

  pub without-pair : (l : List (Pair K V)) (k : K) (w : V) → without (by_key cmp) l (pair k w) ≡ without_key cmp l k
  without-pair l k w = refl
