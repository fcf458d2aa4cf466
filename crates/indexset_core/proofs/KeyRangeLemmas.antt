-- The part of a list of pairs between two bounds on keys.
use Rattle.std.proofs.Common.{◌≡◌, ℕ, ◌+◌, ◌≤◌, true, List, [], ◌∷◌, Ordering, Some, None, sym, arith}
use Rattle.std.specs.Cmp.{IsTotalOrder, on_total}
use Rattle.std.specs.List.{between, count_by, position}
use Rattle.std.specs.Ordering.{is_eq, is_le}
use Rattle.std.specs.declared.ops.Bound.{Bound}
use Rattle.indexset_core.specs.declared.pair.Pair.{Pair}
use Rattle.indexset_core.specs.KeyRange.{are_ordered, is_before, is_up_to_end}
use Rattle.indexset_core.specs.Order.{IsAscending}
use Rattle.indexset_core.specs.Pairs.{pair, by_key, key_rank, pairs_within}
use Rattle.indexset_core.specs.LookupKey.{OrdersAsItem}
use Rattle.indexset_core.proofs.PairLemmas.{absent_gap, key_absent, key_found, key_inside, parted_by_key, parted_by_sought_key}
use Rattle.indexset_core.proofs.RangeLemmas.{found_not_above, gap_not_above, keyed_range_is, keyed_range_order, sought_range_is, sought_range_order}

module _ {K V : Type 0} (cmp : K → K → Ordering) (o : IsTotalOrder cmp) where
  pub pairs_total : IsTotalOrder (by_key {V = V} cmp)
  pairs_total = on_total (λ (p : Pair K V). p.key) o

  -- how many keys are not above a key, present or absent
  pub past_found : (l : List (Pair K V)) → IsAscending (by_key cmp) l → (k : K) (i : ℕ) → position (λ p. is_eq (cmp p.key k)) l ≡ Some i → i + 1 ≡ count_by (λ p. is_le (cmp p.key k)) l
  past_found [] up k i h = let lt = key_inside {V = V} cmp [] k i h in absurd (omega (arith, lt))
  past_found (p ∷ l) up k i h = sym (found_not_above (by_key cmp) (p ∷ l) (pair k p.value) i pairs_total up (key_found cmp (p ∷ l) k i h (parted_by_key cmp o (p ∷ l) up k) p.value))

  pub past_absent : (l : List (Pair K V)) → IsAscending (by_key cmp) l → (k : K) (i : ℕ)
      → position (λ p. is_eq (cmp p.key k)) l ≡ None → i ≡ key_rank cmp l k → i ≡ count_by (λ p. is_le (cmp p.key k)) l
  past_absent [] up k i h place = place
  past_absent (p ∷ l) up k i h place =
      sym (gap_not_above (by_key cmp) (p ∷ l) (pair k p.value) i (absent_gap cmp (p ∷ l) k (key_absent cmp (p ∷ l) k h) (parted_by_key cmp o (p ∷ l) up k) i place p.value))

  module _ (l : List (Pair K V)) (up : IsAscending (by_key cmp) l) (start end : Bound K)
      (ordered : are_ordered cmp start end ≡ true) (i j : ℕ) (from : i ≡ count_by (λ p. is_before cmp start p.key) l)
      (to : j ≡ count_by (λ p. is_up_to_end cmp end p.key) l) where
    -- the pairs between the two counts are those within the bounds
    pub key_range_is : between i j l ≡ pairs_within cmp l start end
    key_range_is = keyed_range_is cmp o (λ p. p.key) l (parted_by_key cmp o l up) start end ordered i j from to

    -- the start is not after the end
    pub key_range_order : i ≤ j
    key_range_order = keyed_range_order cmp o (λ p. p.key) l (parted_by_key cmp o l up) start end ordered i j from to

-- the same for bounds on look-up keys
module _ {K V Q : Type 0} {cmp : K → K → Ordering} {order : K → Q → Ordering} {among : Q → Q → Ordering}
    (acts : OrdersAsItem cmp order among) (l : List (Pair K V)) (up : IsAscending (by_key cmp) l) (start end : Bound Q)
    (ordered : are_ordered among start end ≡ true) (i j : ℕ) (from : i ≡ count_by (λ p. is_before order start p.key) l)
    (to : j ≡ count_by (λ p. is_up_to_end order end p.key) l) where
  pub sought_keys_are : between i j l ≡ pairs_within order l start end
  sought_keys_are = sought_range_is order (λ (p : Pair K V). p.key) l (parted_by_sought_key acts l up) acts start end ordered i j from to

  pub sought_keys_order : i ≤ j
  sought_keys_order = sought_range_order order (λ (p : Pair K V). p.key) l (parted_by_sought_key acts l up) acts start end ordered i j from to
