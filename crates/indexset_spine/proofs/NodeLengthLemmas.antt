-- The lengths of the nodes are those that the definitions of `Lengths` give.
use Rattle.std.proofs.Common.{◌≡◌, ℕ, zero, suc, ◌+◌, ◌-◌, ◌/◌, ◌<◌, ◌≤◌, ◌==◌, ◌&&◌, true, false, List, []}
use Rattle.std.proofs.Common.{◌∷◌, ◌++◌, length, take, drop, if◌then◌else◌, nat_lt, refl, sym, ap, ◌∙◌}
use Rattle.std.proofs.Common.{arith, add-one, length-append, length-take, length-drop, length-set, inl, inr}
use Rattle.std.specs.List.{splice, insert, remove, slice_set}
use Rattle.std.proofs.lemmas.List.{append-nil, length-map, map-append}
use Rattle.std.proofs.lemmas.List.Edits.{length-insert, length-remove}
use Rattle.std.proofs.lemmas.Bool.{cases_lt}
use Rattle.std.proofs.lemmas.Bool.Decides.{nat_tests}
use Rattle.indexset_spine.specs.declared.spot.Spot.{Spot}
use Rattle.indexset_core.specs.Nodes.{concat, node_lengths, node_at}
use Rattle.indexset_spine.specs.NodeList.{IsItemSpot, IsSpot, parts_with, position_of, set_joined, with_inserted, without_item}
use Rattle.indexset_spine.specs.Lengths.{parts_of, lengths_with, lengths_taken, lengths_without, or_one_zero}

some_stays : (ls : List ℕ) → 1 ≤ length ls → or_one_zero ls ≡ ls
some_stays [] h = absurd (omega arith)
some_stays (n ∷ ls) h = refl

module _ {X : Type 0} where
  node_lengths-parts : (size : ℕ) (n : List X) (o : ℕ) (v : X) → o ≤ length n → node_lengths (parts_with size n o v) ≡ parts_of size (length n) o
  unfolding parts_with parts_of
  node_lengths-parts size n o v h =
      let half : ℕ = length n / 2 in
      elim (nat_lt (length n) size)
      as (λ b.
      node_lengths
      (if b then insert n o v ∷ [] else if nat_lt half o then take half n ∷ insert (drop half n) (o - half) v ∷ []
      else insert (take half n) o v ∷ drop half n ∷ [])
      ≡ (if b then (length n + 1) ∷ [] else if nat_lt half o then half ∷ (length n - half + 1) ∷ []
      else (half + 1) ∷ (length n - half) ∷ [])) [
        | true ↦ ap (λ k. k ∷ []) (length-insert n o v h)
        | false ↦
            elim (nat_lt half o)
            as (λ b. nat_lt half o ≡ b
            → node_lengths
            (if b then take half n ∷ insert (drop half n) (o - half) v ∷ []
            else insert (take half n) o v ∷ drop half n ∷ [])
            ≡ (if b then half ∷ (length n - half + 1) ∷ [] else (half + 1) ∷ (length n - half) ∷ [])) [
              | true ↦ λ e.
                  let above : half < o = grind (arith, nat_tests) in
                  let rest : length (drop half n) ≡ length n - half = length-drop half n in
                  let left : length (take half n) ≡ half = omega (arith, length-take half n) in
                  let right : length (insert (drop half n) (o - half) v) ≡ length n - half + 1 = omega (arith, rest, length-insert (drop half n) (o - half) v (omega arith)) in
                  λ j. left j ∷ right j ∷ []
              | false ↦ λ e.
                  let upto : o ≤ half = grind (arith, nat_tests) in
                  let front : length (take half n) ≡ half = omega (arith, length-take half n) in
                  let left : length (insert (take half n) o v) ≡ half + 1 = omega (arith, front, length-insert (take half n) o v (omega arith)) in
                  let right : length (drop half n) ≡ length n - half = length-drop half n in
                  λ j. left j ∷ right j ∷ []
            ] refl
      ]

  put_at : (size : ℕ) (ns : List (List X)) (k o i : ℕ) (v : X) → k < length ns → o ≤ length (node_at ns k) → (length (node_at ns k) ≤ o → length ns ≤ suc k) → i ≡ length (concat (take k ns)) + o
      → node_lengths (splice ns k (suc k) (parts_with size (node_at ns k) o v)) ≡ lengths_with size (node_lengths ns) i
  unfolding lengths_with
  put_at size [] k o i v lt inside last at = absurd (omega arith)
  put_at size (n ∷ []) zero o i v lt inside last at =
      let e : o ≡ i = omega arith in
      map-append (λ (l : List X). length l) (parts_with size n o v) [] ∙ (append-nil _ ∙ (node_lengths-parts size n o v inside ∙ ap (parts_of size (length n)) e))
  put_at size (n ∷ []) (suc k) o i v lt inside last at = absurd (omega arith)
  put_at size (n ∷ m ∷ ns) zero o i v lt inside last at =
      let e : o ≡ i = omega arith in
      let l : i < length n = elim (cases_lt o (length n)) [ inl a ↦ omega arith | inr a ↦ absurd (omega (arith, last a)) ] in
      let t : nat_lt i (length n) ≡ true = grind (arith, nat_tests) in
      rw t (map-append (λ (l : List X). length l) (parts_with size n o v) (m ∷ ns) ∙ ap (λ ls. ls ++ node_lengths (m ∷ ns)) (node_lengths-parts size n o v inside ∙ ap (parts_of size (length n)) e))
  put_at size (n ∷ m ∷ ns) (suc k) o i v lt inside last at =
      let long = length-append n (concat (take k (m ∷ ns))) in
      let l : length n ≤ i = omega arith in
      let t : nat_lt i (length n) ≡ false = grind (arith, nat_tests) in
      rw t (ap (λ ls. length n ∷ ls) (put_at size (m ∷ ns) k o (i - length n) v (omega arith) inside (λ a. omega (arith, last a)) (omega arith)))

  -- an item inserted at a spot: at the end of a node that is the last
  pub node_lengths-inserted : (size : ℕ) (ns : List (List X)) (s : Spot) (i : ℕ) (v : X) → IsSpot ns s
      → (length (node_at ns s.node) ≤ s.offset → length ns ≤ suc s.node) → position_of ns s ≡ i
      → node_lengths (with_inserted size ns s v) ≡ lengths_with size (node_lengths ns) i
  unfolding with_inserted
  node_lengths-inserted size ns s i v h last at = rw add-one (put_at size ns s.node s.offset i v h.node_in h.offset_in last (sym at))

  taken_goes : (ns : List (List X)) (k o i : ℕ) → k < length ns → o < length (node_at ns k)
      → length (node_at ns k) ≡ 1 → i ≡ length (concat (take k ns)) + o
      → lengths_taken (node_lengths ns) i ≡ node_lengths (remove ns k)
  unfolding lengths_taken
  taken_goes [] k o i lt inside one at = absurd (omega arith)
  taken_goes (n ∷ ns) zero o i lt inside one at =
      let l : i < length n = omega arith in
      let t : nat_lt i (length n) ≡ true = grind (arith, nat_tests) in
      rw (t, one) refl
  taken_goes (n ∷ ns) (suc k) o i lt inside one at =
      let long = length-append n (concat (take k ns)) in
      let l : length n ≤ i = omega arith in
      let t : nat_lt i (length n) ≡ false = grind (arith, nat_tests) in
      rw t (ap (λ ls. length n ∷ ls) (taken_goes ns k o (i - length n) (omega arith) inside one (omega arith)))

  taken_stays : (ns : List (List X)) (k o i : ℕ) (m : List X) → k < length ns → o < length (node_at ns k)
      → length m + 1 ≡ length (node_at ns k) → 0 < length m → i ≡ length (concat (take k ns)) + o
      → lengths_taken (node_lengths ns) i ≡ node_lengths (slice_set ns k m)
  unfolding lengths_taken
  taken_stays [] k o i m lt inside less some at = absurd (omega arith)
  taken_stays (n ∷ ns) zero o i m lt inside less some at =
      let l : i < length n = omega arith in
      let t : nat_lt i (length n) ≡ true = grind (arith, nat_tests) in
      let more : 1 < length n = omega arith in
      let u : (length n == 1) ≡ false = grind (arith, nat_tests) in
      let e : length n - 1 ≡ length m = omega arith in
      rw (t, u) (ap (λ j. j ∷ node_lengths ns) e)
  taken_stays (n ∷ ns) (suc k) o i m lt inside less some at =
      let long = length-append n (concat (take k ns)) in
      let l : length n ≤ i = omega arith in
      let t : nat_lt i (length n) ≡ false = grind (arith, nat_tests) in
      rw t (ap (λ ls. length n ∷ ls) (taken_stays ns k o (i - length n) m (omega arith) inside less some (omega arith)))

  only_one : (ns : List (List X)) (k o i : ℕ) (m : List X) → k < length ns → length ns ≤ 1
      → o < length (node_at ns k) → length (node_at ns k) ≡ 1 → length m ≡ 0 → i ≡ length (concat (take k ns)) + o
      → or_one_zero (lengths_taken (node_lengths ns) i) ≡ node_lengths (slice_set ns k m)
  only_one [] k o i m lt short inside one none at = absurd (omega arith)
  only_one (n ∷ []) zero o i m lt short inside one none at = ap or_one_zero (taken_goes (n ∷ []) zero o i lt inside one at) ∙ ap (λ j. j ∷ []) (sym none)
  only_one (n ∷ []) (suc k) o i m lt short inside one none at = absurd (omega arith)
  only_one (n ∷ p ∷ ns) k o i m lt short inside one none at = absurd (omega arith)

  -- the insertion point at a position
  pub node_lengths-without : (ns : List (List X)) (s : Spot) (i : ℕ) → IsItemSpot ns s → position_of ns s ≡ i → node_lengths (without_item ns s) ≡ lengths_without (node_lengths ns) i
  unfolding without_item lengths_without
  node_lengths-without ns s i h at =
      let n = node_at ns s.node in let m = remove n s.offset in
      let less : length m + 1 ≡ length n = length-remove n s.offset h.offset_in in
      let long = length-map (remove ns s.node) (λ (l : List X). length l) in
      let same = length-map (slice_set ns s.node m) (λ (l : List X). length l) in
      elim ((length n == 1) && nat_lt 1 (length ns))
      as (λ b. (length n == 1) && nat_lt 1 (length ns) ≡ b
      → node_lengths (if b then remove ns s.node else slice_set ns s.node m)
      ≡ or_one_zero (lengths_taken (node_lengths ns) i)) [
        | true ↦ λ e.
            let one : length n ≡ 1 = grind (arith, nat_tests) in
            let more : 1 < length ns = grind (arith, nat_tests) in
            sym
            (ap or_one_zero (taken_goes ns s.node s.offset i h.node_in h.offset_in one (sym at))
            ∙ some_stays (node_lengths (remove ns s.node)) (omega (arith, long, length-remove ns s.node h.node_in)))
        | false ↦ λ e. elim (cases_lt 0 (length m)) [
          | inl some ↦
              sym
              (ap or_one_zero (taken_stays ns s.node s.offset i m h.node_in h.offset_in less some (sym at))
              ∙ some_stays (node_lengths (slice_set ns s.node m))
              (omega (arith, same, length-set ns s.node m, h.node_in)))
          | inr none ↦
              let one : length n ≡ 1 = omega arith in
              let few : length ns ≤ 1 = elim (cases_lt 1 (length ns)) [ inl two ↦ absurd (grind (arith, nat_tests)) | inr le ↦ le ] in
              sym (only_one ns s.node s.offset i m h.node_in few h.offset_in one (omega arith) (sym at))
        ]
      ] refl

  pub node_lengths-set_joined : (ns : List (List X)) (i : ℕ) (w : X) → node_lengths (set_joined ns i w) ≡ node_lengths ns
  unfolding set_joined
  node_lengths-set_joined [] i w = refl
  node_lengths-set_joined (n ∷ ns) i w =
      elim (nat_lt i (length n)) as (λ b. node_lengths (if b then slice_set n i w ∷ ns else n ∷ set_joined ns (i - length n) w) ≡ node_lengths (n ∷ ns)) [
        | true ↦ ap (λ k. k ∷ node_lengths ns) (length-set n i w)
        | false ↦ ap (λ ls. length n ∷ ls) (node_lengths-set_joined ns (i - length n) w)
      ]
