-- Puts and removals keep neighbours that hold more than half the node size together.
use Rattle.std.proofs.Common.{◌≡◌, ℕ, zero, suc, ◌+◌, ◌/◌, ◌<◌, ◌≤◌, ◌⊎◌, true, false, if◌then◌else◌, List}
use Rattle.std.proofs.Common.{[], ◌∷◌, ◌++◌, length, set, remove, take, drop, eqb, Some, None, Ordering}
use Rattle.std.proofs.Common.{refl, sym, inl, inr, subst, arith, length-append, length-take, length-drop}
use Rattle.std.specs.Cmp.{IsTotalOrder}
use Rattle.std.specs.Option.{option_map_or}
use Rattle.std.proofs.lemmas.Bool.{cases_eq, eqb-true}
use Rattle.std.proofs.lemmas.List.{length-set, get_or-set_other}
use Rattle.std.proofs.lemmas.List.Edits.{length-remove}
use Rattle.std.proofs.lemmas.Option.{slice_get-get_or}
use Rattle.std.proofs.Math.Seq.{get_or-append_seam, set-append_seam}
use Rattle.indexset_core.specs.Nodes.{node_at, IsLawful}
use Rattle.indexset_core.specs.Order.{put}
use Rattle.indexset_events.specs.Edits.{with_halved, with_room, with_put, with_removed}
use Rattle.indexset_events.specs.Merging.{are_small, IsDense, merge_place, with_merged}
use Rattle.indexset_events.specs.Nodes.{is_filled}
use Rattle.indexset_events.specs.Table.{target}
use Rattle.indexset_events.proofs.MergeLemmas.{JoinedPair, at_pair, none_small, not_small, pair_from}
use Rattle.indexset_events.proofs.PutLemmas.{put_length_is}
use Rattle.indexset_events.proofs.HalvingLemmas.{roomy}
use Rattle.indexset_events.proofs.DenseLemmas.{Spread, spread, spaced, spread-left, spread-right, cut_spread, out_spread, joined_spread}
use Rattle.indexset_events.proofs.StepLemmas.{joined_seam, remove_at, second_at, set_second, splice_at}
use Rattle.indexset_events.proofs.RemovalLemmas.{at_place}
use Rattle.indexset_events.proofs.ReplayTheorem.{up_node}
use Rattle.indexset_events.proofs.AscendingListLemmas.{Each, each-left, each-right, filled_length, Ruled, lawful_bounded, lawful_ruled}

-- a node replaced by one of at least as many items
longer_at : {T : Type 0} (ns : List (List T)) (k : ℕ) (m : List T) → length (node_at ns k) ≤ length m → (j : ℕ) → length (node_at ns j) ≤ length (node_at (set ns k m) j)
longer_at [] k m le j = omega arith
longer_at (n ∷ ns) zero m le zero = le
longer_at (n ∷ ns) zero m le (suc j) = omega arith
longer_at (n ∷ ns) (suc k) m le zero = omega arith
longer_at (n ∷ ns) (suc k) m le (suc j) = longer_at ns k m le j

longer_spaced : {T : Type 0} (h : ℕ) (ns : List (List T)) (k : ℕ) (m : List T) → length (node_at ns k) ≤ length m → IsDense h ns → IsDense h (set ns k m)
longer_spaced h ns k m le s j lt =
    let before = s j (rw (length-set ns k m) at lt) in
    omega (arith, before, longer_at ns k m le j, longer_at ns k m le (j + 1))

-- a node of at least twice h items halved
halved_spaced : {T : Type 0} (h : ℕ) (ns : List (List T)) (k : ℕ) → k < length ns → 1 ≤ h
    → h + h ≤ length (node_at ns k) → Each (λ c. is_filled c ≡ true) ns → IsDense h ns → IsDense h (with_halved ns k)
halved_spaced h ns k inside some full filled s =
    at_place (λ q j n. h + h ≤ length n → Each (λ c. is_filled c ≡ true) q → IsDense h q → IsDense h (with_halved q j))
    (λ b n a long filled s.
    let half = length n / 2 in
    let left = length-take half n in
    let right = length-drop half n in
    let rest : Each (λ c. is_filled c ≡ true) (n ∷ a) = each-right _ b (n ∷ a) filled in
    rw (get_or-append_seam b n a [], splice_at b n a (take half n ∷ drop half n ∷ []))
    (spaced h (b ++ take half n ∷ drop half n ∷ a)
    (cut_spread h b n (take half n) (drop half n) a (each-left _ b (n ∷ a) filled) rest.1 (omega arith)
    (omega arith) (omega arith) (spread h (b ++ n ∷ a) s))))
    ns k (node_at ns k) (slice_get-get_or ns k [] inside) full filled s

module _ {T : Type 0} (cmp : T → T → Ordering) (o : IsTotalOrder cmp) (size : ℕ) (two : 2 ≤ size) where
  room_spaced : (ns : List (List T)) (v : T) → is_filled ns ≡ true → Ruled cmp ns → IsDense (size / 2) ns → IsDense (size / 2) (with_room cmp size ns v)
  room_spaced ns v some ruled s =
      let k = target cmp ns v in
      elim (eqb (length (node_at ns k)) size) as (λ t. eqb (length (node_at ns k)) size ≡ t → IsDense (size / 2) (if t then with_halved ns k else ns)) [
        | true ↦ λ e. halved_spaced (size / 2) ns k (omega (arith, filled_length ns some)) (omega arith) (omega (arith, eqb-true _ _ e)) ruled.filled s
        | false ↦ λ e. s
      ] refl

  -- after a put
  pub put_spaced : (ns : List (List T)) (v : T) → IsLawful cmp size ns → IsDense (size / 2) ns → IsDense (size / 2) (with_put cmp size ns v)
  unfolding with_put
  put_spaced ns v law s =
      let ruled = lawful_ruled cmp size ns law in
      elim (is_filled ns)
      as (λ t. is_filled ns ≡ t
      → IsDense (size / 2)
      (if t
      then
      set (with_room cmp size ns v) (target cmp (with_room cmp size ns v) v)
      (put cmp (node_at (with_room cmp size ns v) (target cmp (with_room cmp size ns v) v)) v)
      else (v ∷ []) ∷ [])) [
        | true ↦ λ e.
            let ms = with_room cmp size ns v in
            let k = target cmp ms v in
            let r = roomy cmp o v size two ns ruled (lawful_bounded cmp size ns law) e in
            let long = put_length_is cmp o v (node_at ms k) (up_node cmp ms k r.ruled) in
            longer_spaced (size / 2) ms k (put cmp (node_at ms k) v) (omega (arith, long)) (room_spaced ns v e ruled s)
        | false ↦ λ e. spaced (size / 2) ((v ∷ []) ∷ []) tt
      ] refl

module _ {T : Type 0} (h : ℕ) where
  -- an item less, without a merge
  shorter_spaced : (ns : List (List T)) (k : ℕ) (m : List T) → merge_place h (set ns k m) k ≡ None → IsDense h ns → IsDense h (set ns k m)
  shorter_spaced ns k m none s j lt =
      elim (cases_eq j k) [
        | inl same ↦ none_small h (set ns k m) k none j (inl (sym same)) lt
        | inr ne ↦ elim (cases_eq (j + 1) k) [
          | inl same ↦ none_small h (set ns k m) k none j (inr (sym same)) lt
          | inr other ↦ rw (get_or-set_other ns k j m [] ne, get_or-set_other ns k (j + 1) m [] other) (s j (rw (length-set ns k m) at lt))
        ]
      ]

  -- an item less, and the node merged with the next one
  joined_next : (b : List (List T)) (l r : List T) (a : List (List T)) (m : List T) → length l ≡ length m + 1
      → 1 ≤ length r → IsDense h (b ++ l ∷ r ∷ a)
      → IsDense h (with_merged (set (b ++ l ∷ r ∷ a) (length b) m) (length b))
  joined_next b l r a m fewer some s =
      let all = spread h (b ++ l ∷ r ∷ a) s in
      let rest : Spread h (l ∷ r ∷ a) = spread-right h b l (r ∷ a) all in
      let long = length-append m r in
      rw (set-append_seam b l (r ∷ a) m, joined_seam b m r a)
      (spaced h (b ++ (m ++ r) ∷ a) (joined_spread h b l r (m ++ r) a (omega arith) (omega arith) (spread-left h b l (r ∷ a) all) rest.1))

  -- an item less, and the node merged with the one before
  joined_before : (b : List (List T)) (l r : List T) (a : List (List T)) (m : List T) → length r ≡ length m + 1
      → are_small h (set (b ++ l ∷ r ∷ a) (length b + 1) m) (length b + 1) ≡ false → IsDense h (b ++ l ∷ r ∷ a)
      → IsDense h (with_merged (set (b ++ l ∷ r ∷ a) (length b + 1) m) (length b))
  joined_before b l r a m fewer large s =
      let all = spread h (b ++ l ∷ r ∷ a) s in
      let rest : Spread h (l ∷ r ∷ a) = spread-right h b l (r ∷ a) all in
      let long = length-append l m in
      let made = set_second b l r a m in
      rw (made, joined_seam b l m a)
      (spaced h (b ++ (l ++ m) ∷ a) (joined_spread h b l m (l ++ m) a (omega arith) (omega arith) (spread-left h b l (r ∷ a) all) (after a (rw made at large) rest.1)))
    where
      third_at : (b : List (List T)) (c : List T) (a : List (List T)) → node_at (b ++ l ∷ m ∷ c ∷ a) (suc (suc (length b))) ≡ c
      third_at [] c a = refl
      third_at (d ∷ b) c a = third_at b c a

      after : (a : List (List T)) → are_small h (b ++ l ∷ m ∷ a) (length b + 1) ≡ false → Spread h (r ∷ a) → Spread h (m ∷ a)
      after [] large t = tt
      after (c ∷ a) large t =
          let next : (length b + 1) + 1 < length (b ++ l ∷ m ∷ c ∷ a) = omega (arith, length-append b (l ∷ m ∷ c ∷ a)) in
          let here = second_at b l m (c ∷ a) in
          let more : node_at (b ++ l ∷ m ∷ c ∷ a) ((length b + 1) + 1) ≡ c =
          subst (λ k. node_at (b ++ l ∷ m ∷ c ∷ a) k ≡ c) {x = suc (suc (length b))} {y = (length b + 1) + 1}
          (omega arith) (third_at b c a) in
          let big = not_small h (b ++ l ∷ m ∷ c ∷ a) (length b + 1) large next in
          (rw (here, more) at big, t.1)

  -- an item less, and two nodes merged
  joined_spaced : (ns : List (List T)) (k j : ℕ) (m : List T) → length (node_at ns k) ≡ length m + 1
      → Each (λ c. is_filled c ≡ true) ns → JoinedPair h (set ns k m) k j → IsDense h ns
      → IsDense h (with_merged (set ns k m) j)
  joined_spaced ns k j m fewer filled p s =
      at_pair
      (λ q j. (k : ℕ) → length (node_at q k) ≡ length m + 1 → Each (λ c. is_filled c ≡ true) q
      → (k ≡ j) ⊎ ((k ≡ j + 1) × (are_small h (set q k m) k ≡ false)) → IsDense h q
      → IsDense h (with_merged (set q k m) j))
      (λ b l r a k fewer filled which s.
      let rest : Each (λ c. is_filled c ≡ true) (l ∷ r ∷ a) = each-right _ b (l ∷ r ∷ a) filled in
      elim which [
        | inl same ↦ rw same (joined_next b l r a m (rw (same, get_or-append_seam b l (r ∷ a) []) at fewer) (filled_length r rest.1.0) s)
        | inr next ↦ rw next.0 (joined_before b l r a m (rw (next.0, second_at b l r a) at fewer) (rw next.0 at next.1) s)
      ])
      ns j (rw (length-set ns k m) at p.next_in) k fewer filled p.either s

module _ {T : Type 0} (cmp : T → T → Ordering) (size : ℕ) (two : 2 ≤ size) (ns : List (List T)) (k i : ℕ)
    (law : IsLawful cmp size ns) (inside : k < length ns) (here : i < length (node_at ns k))
    (s : IsDense (size / 2) ns) where
  filled : Each (λ c. is_filled c ≡ true) ns
  filled = let ruled = lawful_ruled cmp size ns law in ruled.filled

  -- the removal of a node of one item
  out_spaced : length (node_at ns k) ≡ 1 → IsDense (size / 2) (remove ns k)
  out_spaced one = at_place (λ q j n. length n ≡ 1 → IsDense (size / 2) q → IsDense (size / 2) (remove q j))
      (λ b n a one s. rw (remove_at b n a) (spaced (size / 2) (b ++ a) (out_spread (size / 2) b n a one (omega arith) (spread (size / 2) (b ++ n ∷ a) s))))
      ns k (node_at ns k) (slice_get-get_or ns k [] inside) one s

  -- after a removal
  pub taken_spaced : IsDense (size / 2) (with_removed size ns k i)
  taken_spaced =
      let m = remove (node_at ns k) i in
      elim (eqb (length (node_at ns k)) 1)
      as (λ t. eqb (length (node_at ns k)) 1 ≡ t
      → IsDense (size / 2)
      (option_map_or (with_merged (if t then remove ns k else set ns k m))
      (if t then None else merge_place (size / 2) (if t then remove ns k else set ns k m) k)
      (if t then remove ns k else set ns k m))) [
        | true ↦ λ e. out_spaced (eqb-true _ _ e)
        | false ↦ λ e.
            elim (merge_place (size / 2) (set ns k m) k) as (λ t. merge_place (size / 2) (set ns k m) k ≡ t → IsDense (size / 2) (option_map_or (with_merged (set ns k m)) t (set ns k m))) [
              | None ↦ λ none. shorter_spaced (size / 2) ns k m none s
              | Some j ↦ λ some. joined_spaced (size / 2) ns k j m (omega (arith, length-remove (node_at ns k) i here)) filled (pair_from (size / 2) (set ns k m) k j some) s
            ] refl
      ] refl
