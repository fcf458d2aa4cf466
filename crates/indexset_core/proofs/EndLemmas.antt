-- Nodes by the comparisons of their last items.
use Rattle.std.proofs.Common.{◌≡◌, ℕ, ◌+◌, ◌-◌, ◌<◌, ◌≤◌, false, List, [], ◌∷◌, length, get_or, take, drop, slice_get, Some, None, Ordering, refl, ◌∙◌, arith, inl, inr}
use Rattle.std.specs.List.{All}
use Rattle.std.specs.Option.{option_map_or}
use Rattle.std.specs.Ordering.{ordering_index, is_lt}
use Rattle.std.specs.declared.cmp.Ordering.TheVariants.{Greater}
use Rattle.std.proofs.lemmas.Bool.{cases_lt}
use Rattle.std.proofs.lemmas.List.{get_or-take, get_or_default, length-take-le, take-append-drop}
use Rattle.std.proofs.lemmas.Option.{slice_get_read}
use Rattle.indexset_core.specs.Nodes.{concat, node_lengths, ends_less, node_for}
use Rattle.indexset_core.specs.Parted.{IsParted}
use Rattle.indexset_core.proofs.LocateLemmas.{filled_at, node_found, parted-left}
use Rattle.indexset_core.proofs.NodeLemmas.{get_or_in_node, length-concat-mono, length-concat-more, offset-le}
use Rattle.indexset_core.proofs.PartedLemmas.{Narrowed}

module _ {X : Type 0} (answer : X → Ordering) where
  -- how the last item of a node compares: Greater if the node is empty
  abbrev pub end_answer : List X → Ordering
  end_answer n = option_map_or answer (slice_get n (length n - 1)) Greater

  ends_is : (n : List X) → ends_less answer n ≡ is_lt (end_answer n)
  ends_is n =
      elim (slice_get n (length n - 1)) as (λ s. option_map_or (λ x. is_lt (answer x)) s false ≡ is_lt (option_map_or answer s Greater)) [
        | Some x ↦ refl
        | None ↦ refl
      ]

  pub end_is : (n : List X) (x : X) → 1 ≤ length n → x ≡ get_or n (length n - 1) x → end_answer n ≡ answer x
  end_is n x some is = rw (slice_get_read n (length n) (length n - 1) x refl (omega arith) is) refl

  end_at : (n : List X) (d : X) → 1 ≤ length n → end_answer n ≡ answer (get_or n (length n - 1) d)
  end_at n d some = end_is n (get_or n (length n - 1) d) some (get_or_default n (length n - 1) d _ (omega arith))

  item_of : (n : List X) → 1 ≤ length n → X
  item_of [] some = absurd (omega arith)
  item_of (x ∷ xs) some = x

  -- the last item of a later node compares no less
  later : (ns : List (List X)) → All (λ n. 1 ≤ n) (node_lengths ns) → IsParted answer (concat ns) → (i j : ℕ)
      → i < j → j < length ns → X
      → ordering_index (end_answer (get_or ns i [])) ≤ ordering_index (end_answer (get_or ns j []))
  later ns filled h i j before lt d =
      let a = get_or ns i [] in let b = get_or ns j [] in
      let some_a : 1 ≤ length a = filled_at answer ns filled i (omega arith) in
      let some_b : 1 ≤ length b = filled_at answer ns filled j lt in
      let p = length (concat (take i ns)) + (length a - 1) in
      let q = length (concat (take j ns)) + (length b - 1) in
      let order : p ≤ q = omega (arith, length-concat-more ns i (omega arith), length-concat-mono ns (i + 1) j (omega arith)) in
      let low : q < length (concat ns) = omega (arith, offset-le ns j (length b) lt (omega arith)) in
      let at_a = get_or_in_node ns i (length a - 1) d (omega arith) (omega arith) in
      let at_b = get_or_in_node ns j (length b - 1) d lt (omega arith) in
      rw (end_at a d some_a, end_at b d some_b) (rw (← at_a, ← at_b) (h p q d order low))

  -- the last items are partitioned as well
  ends_parted : (ns : List (List X)) → All (λ n. 1 ≤ n) (node_lengths ns) → IsParted answer (concat ns) → IsParted end_answer ns
  ends_parted ns filled h i j e le lt =
      elim (cases_lt i j) [
        | inl before ↦
            let d = item_of (get_or ns i []) (filled_at answer ns filled i (omega arith)) in
            rw (get_or_default ns i e [] (omega arith), get_or_default ns j e [] lt) (later ns filled h i j before lt d)
        | inr same ↦ let at : i ≡ j = omega arith in rw at (omega arith)
      ]

  pub front_parted : (ns : List (List X)) (k : ℕ) → All (λ n. 1 ≤ n) (node_lengths ns) → IsParted answer (concat ns) → IsParted end_answer (take k ns)
  front_parted ns k filled h = parted-left end_answer (take k ns) (drop k ns) (rw (take-append-drop k ns) (ends_parted ns filled h))

  -- the end of the search
  pub end_found : (ns : List (List X)) (last k : ℕ) → 1 ≤ length ns → last ≡ length ns - 1 → Narrowed (λ n. is_lt (end_answer n)) (take last ns) k k → k ≡ node_for answer ns
  end_found ns last k some at now =
      let long : length (take last ns) ≡ last = length-take-le last ns (omega arith) in
      node_found answer ns k some (omega (arith, now.within, long, at))
      (λ j d low high. ends_is (get_or ns j d) ∙ rw (get_or-take last ns j d (omega (arith, now.within, long))) at (now.before j d low high))
      (λ lt d. ends_is (get_or ns k d) ∙ rw (get_or-take last ns k d (omega (arith, lt, at))) at (now.after k d (omega arith) (omega (arith, lt, long, at))))
