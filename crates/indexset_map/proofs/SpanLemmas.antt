-- The part of a list that passes a test, as one span, and the keys between two bounds, which are a
-- span.
use Rattle.std.proofs.Common.{◌≡◌, ℕ, zero, suc, ◌+◌, ◌-◌, ◌≤◌, min, Bool, true, false, not, ◌&&◌, if◌then◌else◌, List}
use Rattle.std.proofs.Common.{[], ◌∷◌, ◌++◌, length, take, drop, filter, map, Ordering, refl, ap, subst, ◌∙◌, arith}
use Rattle.std.specs.declared.ops.Bound.{Bound}
use Rattle.std.specs.List.{AllWithin, between, count_by, position_or_len}
use Rattle.indexset_core.specs.declared.pair.Pair.{Pair}
use Rattle.indexset_core.specs.KeyRange.{IfBounded, is_before, is_from_start, is_up_to_end, is_within}
use Rattle.indexset_core.specs.Order.{IsAscending}
use Rattle.indexset_core.specs.Pairs.{by_key}
use Rattle.indexset_core.specs.Parted.{IsParted}
use Rattle.indexset_core.specs.LookupKey.{OrdersAsItem}
use Rattle.indexset_core.proofs.CallerLemmas.{Parts, before_parts, each_bounded, not_before, parted_by_sought_key, up_to_parts}
use Rattle.indexset_set.specs.SetProbes.{FindsInOrder}
use Rattle.indexset_set.proofs.CallerLemmas.{in_order}
use Rattle.indexset_map.specs.Walk.{IsSpan}

and_no : (a : Bool) → (a && false) ≡ false
and_no true = refl
and_no false = refl

module _ {X : Type 0} where
  -- the items that fail the test p and pass the test q
  span_of : (p q : X → Bool) (l : List X) (i j : ℕ) → Parts p l i → Parts q l j → IsSpan (λ x. not (p x) && q x) l (min i j) j
  span_of p q l i j ps qs = record {
    order = omega arith;
    inside = qs.inside;
    before = λ k d low high. rw (ps.before k d low (omega (arith, high))) refl;
    within = λ k d low high. rw (ps.after k d (omega (arith, low, high)) (omega (arith, high, qs.inside)), qs.before k d (omega arith) high) refl;
    after = λ k d low high. rw (qs.after k d low high) (and_no _);
  }

  -- the first item that passes, after those that fail
  first_passing : (p : X → Bool) (l : List X) (i : ℕ) → Parts p l i → position_or_len (λ x. not (p x)) l ≡ i
  first_passing p [] i ps = let h = ps.inside in omega (arith, h)
  first_passing p (x ∷ l) zero ps = rw (ps.after 0 x (omega arith) (omega arith)) refl
  first_passing p (x ∷ l) (suc i) ps =
      let inside = ps.inside in
      let rest : Parts p l i = record {
        inside = omega (arith, inside);
        before = λ k d low high. ps.before (suc k) d (omega arith) (omega arith);
        after = λ k d low high. ps.after (suc k) d (omega arith) (omega arith);
      } in
      let ih = first_passing p l i rest in rw (ps.before 0 x (omega arith) (omega arith)) (omega (arith, ih))

  -- exactly the n items from i pass
  module _ (r : X → Bool) (h : X → X) where
    parted_at : (l : List X) (i n : ℕ) → i + n ≤ length l → AllWithin (λ x. r x ≡ false) l 0 i → AllWithin (λ x. r x ≡ true) l i (i + n) → AllWithin (λ x. r x ≡ false) l (i + n) (length l)
        → (take n (drop i l) ≡ filter r l) × (take i l ++ (map h (take n (drop i l)) ++ drop n (drop i l)) ≡ map (λ x. if r x then h x else x) l)
    parted_at [] zero zero le before within after = (refl, refl)
    parted_at [] zero (suc n) le before within after = (refl, refl)
    parted_at [] (suc i) zero le before within after = (refl, refl)
    parted_at [] (suc i) (suc n) le before within after = (refl, refl)
    parted_at (x ∷ xs) zero zero le before within after =
        let t = parted_at xs 0 0 (omega arith) (λ k d low high. absurd (omega arith)) (λ k d low high. absurd (omega arith)) (λ k d low high. after (suc k) d (omega arith) (omega arith)) in
        rw (after 0 x (omega arith) (omega arith)) (t.0, ap (λ ys. x ∷ ys) t.1)
    parted_at (x ∷ xs) zero (suc n) le before within after =
        let t =
        parted_at xs 0 n (omega arith) (λ k d low high. absurd (omega arith))
        (λ k d low high. within (suc k) d (omega arith) (omega arith))
        (λ k d low high. after (suc k) d (omega arith) (omega arith)) in
        rw (within 0 x (omega arith) (omega arith)) (ap (λ ys. x ∷ ys) t.0, ap (λ ys. h x ∷ ys) t.1)
    parted_at (x ∷ xs) (suc i) n le before within after =
        let t =
        parted_at xs i n (omega arith) (λ k d low high. before (suc k) d (omega arith) (omega arith))
        (λ k d low high. within (suc k) d (omega arith) (omega arith))
        (λ k d low high. after (suc k) d (omega arith) (omega arith)) in
        rw (before 0 x (omega arith) (omega arith)) (t.0, ap (λ ys. x ∷ ys) t.1)

-- keys between two bounds
module _ {K V Q : Type 0} {cmp : K → K → Ordering} {among : Q → Q → Ordering} (order : K → Q → Ordering)
    (acts : OrdersAsItem cmp order among) (l : List (Pair K V)) (up : IsAscending (by_key cmp) l) where
  parted : (k : Q) → IsParted (λ p. order p.key k) l
  parted k = parted_by_sought_key acts l up k

  -- the first key within a bound
  pub first_from : (start : Bound Q) (i from n : ℕ) → from ≡ count_by (λ p. is_before order start p.key) l
      → n ≡ length l → i ≡ min from n → i ≡ position_or_len (λ p. is_from_start order start p.key) l
  first_from start i from n f len clip =
      let inside = (before_parts order (λ (p : Pair K V). p.key) l parted start).inside in
      let there : position_or_len (λ p. not (is_before order start p.key)) l
      ≡ count_by (λ p. is_before order start p.key) l =
      first_passing (λ p. is_before order start p.key) l _
      (before_parts order (λ (p : Pair K V). p.key) l parted start) in
      let here : i ≡ position_or_len (λ p. not (is_before order start p.key)) l = omega (arith, inside, there, f, len, clip) in
      here ∙ ap (λ (r : Pair K V → Bool). position_or_len r l) (λ k p. not_before order start p.key k)

  -- the first key past a bound
  pub first_past : (end : Bound Q) (i to n : ℕ) → to ≡ count_by (λ p. is_up_to_end order end p.key) l → n ≡ length l → i ≡ min to n → i ≡ position_or_len (λ p. not (is_up_to_end order end p.key)) l
  first_past end i to n t len clip =
      let inside = (up_to_parts order (λ (p : Pair K V). p.key) l parted end).inside in
      let there : position_or_len (λ p. not (is_up_to_end order end p.key)) l
      ≡ count_by (λ p. is_up_to_end order end p.key) l =
      first_passing (λ p. is_up_to_end order end p.key) l _
      (up_to_parts order (λ (p : Pair K V). p.key) l parted end) in
      omega (arith, inside, there, t, len, clip)

  -- the probe of a bound finds the keys in order
  pub keys_bounded : (b : Bound (Q × ℕ)) → IfBounded (λ q. FindsInOrder (λ p. order p.key q.0) l) b
  keys_bounded b = each_bounded (λ (q : Q × ℕ). FindsInOrder (λ p. order p.key q.0) l) (λ q. in_order (λ p. order p.key q.0) l (parted q.0)) b

  -- the keys between two bounds are one span
  key_span : (start end : Bound Q)
      → IsSpan (λ p. is_within order start end p.key) l
      (min (count_by (λ p. is_before order start p.key) l) (count_by (λ p. is_up_to_end order end p.key) l))
      (count_by (λ p. is_up_to_end order end p.key) l)
  key_span start end =
      subst (λ (f : Pair K V → Bool).
      IsSpan f l
      (min (count_by (λ p. is_before order start p.key) l) (count_by (λ p. is_up_to_end order end p.key) l))
      (count_by (λ p. is_up_to_end order end p.key) l))
      (λ k p. not_before order start p.key k && is_up_to_end order end p.key)
      (span_of (λ p. is_before order start p.key) (λ p. is_up_to_end order end p.key) l _ _
      (before_parts order (λ (p : Pair K V). p.key) l parted start)
      (up_to_parts order (λ (p : Pair K V). p.key) l parted end))

  -- the same for an iterator that clips both counts to the length
  pub key_walk : (start end : Bound Q) (i j from to : ℕ) → from ≡ count_by (λ p. is_before order start p.key) l
      → to ≡ count_by (λ p. is_up_to_end order end p.key) l → j ≡ min to (length l) → i ≡ min from j
      → IsSpan (λ p. is_within order start end p.key) l i j
  key_walk start end i j from to f t b a =
      let inside = (up_to_parts order (λ (p : Pair K V). p.key) l parted end).inside in
      let last : j ≡ count_by (λ p. is_up_to_end order end p.key) l = omega (arith, inside, t, b) in
      let first : i ≡ min (count_by (λ p. is_before order start p.key) l) (count_by (λ p. is_up_to_end order end p.key) l) = omega (arith, f, a, last) in
      rw (first, last) (key_span start end)

  -- the same for an iterator from the one count to the other
  pub key_places : (start end : Bound Q) (i from to : ℕ) → from ≡ count_by (λ p. is_before order start p.key) l
      → to ≡ count_by (λ p. is_up_to_end order end p.key) l → i ≡ min from to
      → IsSpan (λ p. is_within order start end p.key) l i to
  key_places start end i from to f t a = let inside = (up_to_parts order (λ (p : Pair K V). p.key) l parted end).inside in key_walk start end i to from to f t (omega (arith, inside, t)) a

-- the items of a span are those that pass, so a map over the span is a map over those that pass
module _ {X : Type 0} (r : X → Bool) (l : List X) (i j : ℕ) (s : IsSpan r l i j) where
  end_is : i + (j - i) ≡ j
  end_is = let h = s.order in omega (arith, h)

  at_span : (h : X → X) → (take (j - i) (drop i l) ≡ filter r l) × (take i l ++ (map h (take (j - i) (drop i l)) ++ drop (j - i) (drop i l)) ≡ map (λ x. if r x then h x else x) l)
  at_span h = parted_at r h l i (j - i) (rw end_is s.inside) s.before (rw end_is s.within) (rw end_is s.after)

  pub span_filter : between i j l ≡ filter r l
  span_filter = (at_span (λ x. x)).0

  pub span_mapped : (h : X → X) → take i l ++ (map h (take (j - i) (drop i l)) ++ drop (j - i) (drop i l)) ≡ map (λ x. if r x then h x else x) l
  span_mapped h = (at_span h).1
