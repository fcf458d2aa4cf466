-- A caller's loop over an iterator with mutable references: the map after each iteration, and at
-- the end.
use Rattle.std.proofs.Common.{◌≡◌, ℕ, zero, suc, ◌+◌, ◌-◌, ◌<◌, ◌≤◌, Bool, if◌then◌else◌}
use Rattle.std.proofs.Common.{List, [], ◌∷◌, ◌++◌, length, map, take, drop, Option, Some}
use Rattle.std.proofs.Common.{None, slice_get, refl, sym, ap, subst, ◌∙◌, arith, zero-add}
use Rattle.std.proofs.lemmas.List.{append-nil, drop-drop, drop_all, take-append-drop, take_all}
use Rattle.std.specs.Option.{option_map}
use Rattle.std.specs.declared.cmp.Ord as ord
use Rattle.std.specs.declared.cmp.PartialEq as eq
use Rattle.std.specs.declared.cmp.PartialOrd as partial
use Rattle.indexset_core.specs.declared.pair.Pair.{Pair}
use Rattle.indexset_core.specs.Pairs.{pair, entry_of, set_value_at, valued}
use Rattle.indexset_map.specs.declared.iter_mut.IterMut.{IterMut}
use Rattle.indexset_map.specs.Contents.{Contents, with_pairs, with_written}
use Rattle.indexset_map.specs.Walk.{HasWritten, IsSpan, after_first, written}
use Rattle.indexset_map.proofs.ContentsLemmas.{set_cons}
use Rattle.indexset_map.proofs.SpanLemmas.{span_mapped}

module _ {K V : Type 0} where
  of_entry : (o : Option (Pair K V)) (k : K) (v : V) → option_map entry_of o ≡ Some (k, v) → o ≡ Some (pair k v)
  of_entry None k v e = absurd (cc)
  of_entry (Some p) k v e = let s : (p.key, p.value) ≡ (k, v) = cc in ap (λ (t : K × V). Some (pair t.0 t.1)) s

  of_value : (o : Option (Pair K V)) (v : V) → option_map (λ p. p.value) o ≡ Some v → (k : K) × (o ≡ Some (pair k v))
  of_value None v e = absurd (cc)
  of_value (Some p) v e = let s : p.value ≡ v = cc in (p.key, ap (λ (t : V). Some (pair p.key t)) s)

module _ {K V : Type 0} (h : Pair K V → V) where
  abbrev step : Pair K V → Pair K V
  step p = valued p (h p)

  -- the first n pairs are written; then the n pairs from position i
  abbrev front_part : List (Pair K V) → ℕ → List (Pair K V)
  front_part l n = map step (take n l) ++ drop n l

  abbrev part : List (Pair K V) → ℕ → ℕ → List (Pair K V)
  part l i n = take i l ++ front_part (drop i l) n

  front_more : (l : List (Pair K V)) (n : ℕ) (p : Pair K V) → slice_get l n ≡ Some p → set_value_at (front_part l n) n (h p) ≡ front_part l (suc n)
  front_more [] n p at = absurd (cc)
  front_more (d ∷ l) zero p at = let s : d ≡ p = cc in ap (λ (x : Pair K V). valued d (h x) ∷ l) (sym s)
  front_more (d ∷ l) (suc n) p at = sym (set_cons (step d) (front_part l n) n (h p)) ∙ ap (λ t. step d ∷ t) (front_more l n p at)

  front_read : (l : List (Pair K V)) (n : ℕ) → slice_get (front_part l n) n ≡ slice_get l n
  front_read [] zero = refl
  front_read [] (suc n) = refl
  front_read (d ∷ l) zero = refl
  front_read (d ∷ l) (suc n) = front_read l n

  part_more : (l : List (Pair K V)) (i n : ℕ) (p : Pair K V) → slice_get l (i + n) ≡ Some p → set_value_at (part l i n) (i + n) (h p) ≡ part l i (suc n)
  part_more l zero n p at = rw zero-add (front_more l n p (rw zero-add at at))
  part_more [] (suc i) n p at = absurd (cc)
  part_more (d ∷ l) (suc i) n p at =
      let e : suc i + n ≡ suc (i + n) = omega arith in
      rw e (sym (set_cons d (part l i n) (i + n) (h p)) ∙ ap (λ t. d ∷ t) (part_more l i n p (rw e at at)))

  part_read : (l : List (Pair K V)) (i n : ℕ) → slice_get (part l i n) (i + n) ≡ slice_get l (i + n)
  part_read l zero n = rw zero-add (front_read l n)
  part_read [] (suc i) zero = refl
  part_read [] (suc i) (suc n) = refl
  part_read (d ∷ l) (suc i) n = let e : suc i + n ≡ suc (i + n) = omega arith in rw e (part_read l i n)

  written_part : (l : List (Pair K V)) (i n : ℕ) → written h l i (i + n) ≡ part l i n
  written_part l i n =
      let e : (i + n) - i ≡ n = omega arith in
      ap (λ m. take i l ++ (map step (take m (drop i l)) ++ drop (i + n) l)) e ∙ ap (λ t. take i l ++ (map step (take n (drop i l)) ++ t)) (sym (drop-drop n i l))

  one_more : (l : List (Pair K V)) (i n : ℕ) (p : Pair K V) → slice_get (written h l i (i + n)) (i + n) ≡ Some p → set_value_at (written h l i (i + n)) (i + n) (h p) ≡ written h l i (i + n + 1)
  one_more l i n p at =
      let here : slice_get l (i + n) ≡ Some p = sym (part_read l i n) ∙ (ap (λ t. slice_get t (i + n)) (sym (written_part l i n)) ∙ at) in
      let e : i + suc n ≡ i + n + 1 = omega arith in
      ap (λ t. set_value_at t (i + n) (h p)) (written_part l i n) ∙ (part_more l i n p here ∙ (sym (written_part l i (suc n)) ∙ ap (written h l i) e))

  -- the next pair is written
  written_more : (l : List (Pair K V)) (i j : ℕ) (p : Pair K V) → i ≤ j → slice_get (written h l i j) j ≡ Some p → set_value_at (written h l i j) j (h p) ≡ written h l i (j + 1)
  written_more l i j p le = let e : i + (j - i) ≡ j = omega arith in
      subst
      (λ m. slice_get (written h l i m) m ≡ Some p → set_value_at (written h l i m) m (h p) ≡ written h l i (m + 1)) e
      (one_more l i (j - i) p)

  written_none : (l : List (Pair K V)) (i : ℕ) → written h l i i ≡ l
  written_none l i = let e : i - i ≡ 0 = omega arith in ap (λ m. take i l ++ (map step (take m (drop i l)) ++ drop i l)) e ∙ take-append-drop i l

  -- every pair is written
  written_whole : (l : List (Pair K V)) → written h l 0 (length l) ≡ map step l
  written_whole l =
      let e : length l - 0 ≡ length l = omega arith in
      ap (λ m. map step (take m l) ++ drop (length l) l) e
      ∙ (ap (λ t. map step t ++ drop (length l) l) (take_all (length l) l (omega arith))
      ∙ (ap (λ t. map step l ++ t) (drop_all (length l) l (omega arith)) ∙ append-nil (map step l)))

  -- the pairs of a span are written
  written_span : (r : Pair K V → Bool) (l : List (Pair K V)) (i j : ℕ) → IsSpan r l i j → written h l i j ≡ map (λ p. if r p then step p else p) l
  written_span r l i j s = let e : i + (j - i) ≡ j = let le = s.order in omega (arith, le) in ap (written h l i) (sym e) ∙ (written_part l i (j - i) ∙ span_mapped r l i j s step)

  -- at the start of a loop
  pub nothing_written : {g : ord.Ghosts K} {g' : eq.Ghosts K} {g'' : partial.Ghosts K} (s : IterMut K V g g' g'') → s.front ≤ s.back → HasWritten h s s
  nothing_written s le = record { same_map = refl; same_back = refl; order = omega arith; up_to_back = le; done = ap (with_pairs s.map.now) (sym (written_none s.map.now.pairs s.front)) }

  module _ {g : ord.Ghosts K} {g' : eq.Ghosts K} {g'' : partial.Ghosts K} (s t : IterMut K V g g' g'') where
    module _ (was : HasWritten h s t) where
      turn : (p : Pair K V) (w : V) → t.front < t.back → slice_get t.map.now.pairs t.front ≡ Some p → w ≡ h p → HasWritten h s (after_first t w)
      turn p w lt at made =
          let pairs : t.map.now.pairs ≡ written h s.map.now.pairs s.front t.front = ap (λ (m : Contents K V). m.pairs) was.done in
          let there : slice_get (written h s.map.now.pairs s.front t.front) t.front ≡ Some p = ap (λ l. slice_get l t.front) (sym pairs) ∙ at in
          let order = was.order in
          record {
            same_map = was.same_map;
            same_back = was.same_back;
            order = omega (arith, order);
            up_to_back = omega (arith, lt);
            done = ap (λ (m : Contents K V). with_written m t.front w) was.done
                ∙ ap (with_pairs s.map.now) (ap (set_value_at (written h s.map.now.pairs s.front t.front) t.front) made ∙ written_more s.map.now.pairs s.front t.front p order there);
          }

      -- after an iteration that wrote w to the pair which the iterator returned
      pub pair_written : (k : K) (v w : V) → t.front < t.back → option_map entry_of (slice_get t.map.now.pairs t.front) ≡ Some (k, v) → w ≡ h (pair k v) → HasWritten h s (after_first t w)
      pair_written k v w lt at made = turn (pair k v) w lt (of_entry (slice_get t.map.now.pairs t.front) k v at) made

      pub value_written : (v w : V) → t.front < t.back → option_map (λ p. p.value) (slice_get t.map.now.pairs t.front) ≡ Some v → ((k : K) → w ≡ h (pair k v)) → HasWritten h s (after_first t w)
      value_written v w lt at made = let p = of_value (slice_get t.map.now.pairs t.front) v at in turn (pair p.0 v) w lt p.1 (made p.0)

      -- at the end of a loop over an iterator of the map m
      module _ (over : t.back ≤ t.front) (m : Contents K V) (unchanged : s.map.now ≡ m) where
        up_to_end : t.map.now ≡ with_pairs m (written h m.pairs s.front s.back)
        up_to_end =
            let up = was.up_to_back in let same = was.same_back in
            let e : t.front ≡ s.back = omega (arith, up, over, same) in
            was.done ∙ (ap (λ j. with_pairs s.map.now (written h s.map.now.pairs s.front j)) e ∙ ap (λ (n : Contents K V). with_pairs n (written h n.pairs s.front s.back)) unchanged)

        -- every pair was written
        pub all_written : s.front ≡ 0 → s.back ≡ length m.pairs → t.map.now ≡ with_pairs m (map step m.pairs)
        all_written first last =
            up_to_end ∙ ap (with_pairs m) (ap (λ i. written h m.pairs i s.back) first ∙ (ap (written h m.pairs 0) last ∙ written_whole m.pairs))

        -- the pairs that pass a test were written
        pub range_written : (r : Pair K V → Bool) → IsSpan r m.pairs s.front s.back → t.map.now ≡ with_pairs m (map (λ p. if r p then step p else p) m.pairs)
        range_written r span = up_to_end ∙ ap (with_pairs m) (written_span r m.pairs s.front s.back span)
