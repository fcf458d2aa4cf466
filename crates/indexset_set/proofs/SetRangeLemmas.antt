-- The part of a list between two positions.
use Rattle.std.proofs.Common.{◌≡◌, ℕ, ◌+◌, ◌-◌, ◌<◌, ◌≤◌, min, Bool, true, false, List, [], ◌∷◌, ◌++◌, length, take, drop, filter, map, refl, ap, sym, ◌∙◌, arith}
use Rattle.std.specs.declared.ops.Bound.{Bound}
use Rattle.std.specs.List.{enumerate_from, between}
use Rattle.std.specs.Range.Bound.{start_index, end_index}
use Rattle.std.proofs.Math.ListN.{length-drop}
use Rattle.std.proofs.lemmas.List.{append-nil, length-take-le, map-append}
use Rattle.std.proofs.lemmas.List.Edits.{length-between, split_between}
use Rattle.std.proofs.lemmas.List.Elements.{filter-append}
use Rattle.std.proofs.lemmas.Bool.Decides.{nat_tests}
use Rattle.indexset_core.specs.KeyRange.{is_at_position, in_positions}
use Rattle.indexset_core.proofs.CallerLemmas.{at_position, clipped}

-- the elements that pass by their position, counted from k
module _ {T : Type 0} (r : ℕ → Bool) where
  none_at : (k : ℕ) (l : List T) → ((m : ℕ) → k ≤ m → m < k + length l → r m ≡ false) → map (λ p. p.1) (filter (λ p. r p.0) (enumerate_from k l)) ≡ []
  none_at k [] h = refl
  none_at k (x ∷ xs) h = rw (h k (omega arith) (omega arith)) (none_at (k + 1) xs (λ m low high. h m (omega arith) (omega arith)))

  all_at : (k : ℕ) (l : List T) → ((m : ℕ) → k ≤ m → m < k + length l → r m ≡ true) → map (λ p. p.1) (filter (λ p. r p.0) (enumerate_from k l)) ≡ l
  all_at k [] h = refl
  all_at k (x ∷ xs) h = rw (h k (omega arith) (omega arith)) (ap (λ l. x ∷ l) (all_at (k + 1) xs (λ m low high. h m (omega arith) (omega arith))))

  enumerate_append : (k : ℕ) (a b : List T) → enumerate_from k (a ++ b) ≡ enumerate_from k a ++ enumerate_from (k + length a) b
  enumerate_append k [] b = ap (λ n. enumerate_from n b) {x = k} (omega arith)
  enumerate_append k (x ∷ xs) b =
      ap (λ l. (k, x) ∷ l) (enumerate_append (k + 1) xs b ∙ ap (λ n. enumerate_from (k + 1) xs ++ enumerate_from n b) {x = k + 1 + length xs} (omega arith))

  at_parts : (k : ℕ) (a b : List T)
      → map (λ p. p.1) (filter (λ p. r p.0) (enumerate_from k (a ++ b)))
      ≡ map (λ p. p.1) (filter (λ p. r p.0) (enumerate_from k a))
      ++ map (λ p. p.1) (filter (λ p. r p.0) (enumerate_from (k + length a) b))
  at_parts k a b =
      let both = enumerate_from (k + length a) b in
      ap (λ m. map (λ p. p.1) (filter (λ p. r p.0) m)) (enumerate_append k a b)
      ∙ (ap (map (λ (p : ℕ × T). p.1)) (filter-append (λ p. r p.0) (enumerate_from k a) both) ∙ map-append (λ p. p.1) (filter (λ p. r p.0) (enumerate_from k a)) (filter (λ p. r p.0) both))

module _ {T : Type 0} (l : List T) where
  -- the elements at the positions that satisfy both bounds
  pub positions_filter : (start end : Bound ℕ) → in_positions l start end ≡ map (λ p. p.1) (filter (λ p. is_at_position start end p.0) (enumerate_from 0 l))
  positions_filter start end =
      let n = length l in
      let s = start_index start in
      let e = end_index end n in
      let j = min e n in
      let i = min (min s n) j in
      let test = is_at_position start end in
      let reads = λ (k : ℕ) (m : List T). map (λ p. p.1) (filter (λ p. test p.0) (enumerate_from k m)) in
      let a = take i l in
      let b = between i j l in
      let d = drop j l in
      let long_a : length a ≡ i = omega (arith, length-take-le i l (omega arith)) in
      let long_b : length b ≡ j - i = length-between l i j (omega arith) in
      let long_d : length d ≡ n - j = length-drop j l in
      let none_before : reads 0 a ≡ [] = none_at test 0 a (λ m low high. rw (at_position start end n m (omega arith)) (grind (arith, nat_tests))) in
      let all_between : reads (0 + length a) b ≡ b = all_at test (0 + length a) b (λ m low high. rw (at_position start end n m (omega arith)) (grind (arith, nat_tests))) in
      let none_after : reads (0 + length a + length b) d ≡ [] = none_at test (0 + length a + length b) d (λ m low high. rw (at_position start end n m (omega arith)) (grind (arith, nat_tests))) in
      sym (clipped l s e i j refl refl)
      ∙ sym
      (ap (reads 0) (split_between l i j (omega arith))
      ∙ (at_parts test 0 a (b ++ d)
      ∙ (ap (λ m. m ++ reads (0 + length a) (b ++ d)) none_before
      ∙ (at_parts test (0 + length a) b d
      ∙ (ap (λ m. m ++ reads (0 + length a + length b) d) all_between
      ∙ (ap (λ m. b ++ m) none_after ∙ append-nil b))))))
