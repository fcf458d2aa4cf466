-- The index of a tree after a node is halved, and after two are merged.
use Rattle.std.proofs.Common.{◌≡◌, ℕ, ◌+◌, ◌-◌, ◌/◌, ◌<◌, ◌≤◌, ◌⊎◌, List, [], ◌∷◌, ◌++◌, length, set, sum, take, drop, get_or, remove, inl, inr, ap, sym, refl, ◌∙◌, arith, length-append, length-drop}
use Rattle.std.proofs.lemmas.List.{drop-set-lt, get_or-set_other, get_or-set_same, length-take-le, set-set, take-set-le}
use Rattle.indexset_core.specs.Nodes.{concat, node_at, node_lengths}
use Rattle.indexset_core.proofs.CallerLemmas.{concat-append, joined_around, length-concat}
use Rattle.indexset_events.specs.Edits.{with_halved}
use Rattle.indexset_events.specs.Merging.{with_merged}
use Rattle.indexset_index.specs.Blocks.{block_sums}
use Rattle.indexset_index.proofs.CallerLemmas.{both, both_inside, lengths_set, lowered, made-of-two, two_long, without-half}

module _ {X : Type 0} where
  -- a node halved
  pub halved : {index : List ℕ} {ms : List (List X)} (ns : List (List X)) (k moved : ℕ) → ms ≡ with_halved ns k
      → index ≡ block_sums (node_lengths ns) → k < length ns → moved + length (node_at ns k) / 2 ≡ length (node_at ns k)
      → set index (k / 32) (get_or index (k / 32) 0 - moved) ≡ block_sums (remove (node_lengths ms) (k + 1))
  halved ns k moved made is inside cut =
      let n = node_at ns k in
      let half = take (length n / 2) n in
      let left = length-take-le (length n / 2) n (omega arith) in
      lowered ns k is inside half moved (omega (arith, cut)) (omega (arith, cut, left))
      ∙ ap block_sums
      (lengths_set ns k half
      ∙ (sym (without-half ns k half (drop (length n / 2) n) inside)
      ∙ ap (λ l. remove (node_lengths l) (k + 1)) (sym made)))

  pub halved_sum : (ns : List (List X)) (k : ℕ) → k < length ns → sum (node_lengths (with_halved ns k)) ≡ sum (node_lengths ns)
  halved_sum ns k inside =
      let n = node_at ns k in
      let half = length n / 2 in
      let ends = drop (k + 1) ns in
      let parts = take half n ∷ drop half n ∷ ends in
      omega (
        arith,
        length-concat ns,
        length-concat (take k ns ++ parts),
        ap (λ (l : List X). length l) (concat-append (take k ns) parts),
        ap (λ (l : List X). length l) (joined_around ns k inside),
        length-append (concat (take k ns)) (concat parts),
        length-append (concat (take k ns)) (n ++ concat ends),
        length-append n (concat ends),
        length-append (take half n) (drop half n ++ concat ends),
        length-append (drop half n) (concat ends),
        length-take-le half n (omega arith),
        length-drop half n,
      )

  -- two neighbours merged after one of them lost an item
  module _ (ns : List (List X)) (j : ℕ) (inside : j + 1 < length ns) (k : ℕ) (m : List X) (which : (k ≡ j) ⊎ (k ≡ j + 1)) (less : length m + 1 ≡ length (node_at ns k)) where
    abbrev pub ls : List (List X)
    ls = set ns k m

    at_most_two : (j ≤ k) × (k < j + 2)
    at_most_two = elim which [
      | inl same ↦ (omega (arith, same), omega (arith, same))
      | inr next ↦ (omega (arith, next), omega (arith, next))
    ]

    shorter : length (node_at ls j ++ node_at ls (j + 1)) + 1 ≡ length (node_at ns j) + length (node_at ns (j + 1))
    shorter =
        let size = length-append (node_at ls j) (node_at ls (j + 1)) in
        elim which [
          | inl same ↦
              let here = ap (λ i. length (node_at ls i)) same ∙ refl in
              let changed : node_at ls k ≡ m = get_or-set_same ns k m [] (omega (arith, inside, same)) in
              let other : node_at ls (j + 1) ≡ node_at ns (j + 1) = get_or-set_other ns k (j + 1) m [] (omega (arith, same)) in
              omega (arith, size, less, here, ap (λ i. length (node_at ns i)) same, ap (λ (l : List X). length l) changed, ap (λ (l : List X). length l) other)
          | inr next ↦
              let here = ap (λ i. length (node_at ls i)) next ∙ refl in
              let changed : node_at ls k ≡ m = get_or-set_same ns k m [] (omega (arith, inside, next)) in
              let other : node_at ls j ≡ node_at ns j = get_or-set_other ns k j m [] (omega (arith, next)) in
              omega (arith, size, less, here, ap (λ i. length (node_at ns i)) next, ap (λ (l : List X). length l) changed, ap (λ (l : List X). length l) other)
        ]

    pub some_items : 1 ≤ length (node_at (both ns j inside) j)
    some_items = omega (arith, shorter, two_long ns j inside)

    -- merged after one of them lost an item
    pub merged : {index : List ℕ} {ms : List (List X)} → ms ≡ with_merged ls j
        → index ≡ block_sums (node_lengths (both ns j inside))
        → set index (j / 32) (get_or index (j / 32) 0 - 1) ≡ block_sums (node_lengths ms)
    merged made is =
        let m2 = node_at ls j ++ node_at ls (j + 1) in
        let front : take j ls ≡ take j ns = take-set-le j ns k m at_most_two.0 in
        let back : drop (j + 2) ls ≡ drop (j + 2) ns = drop-set-lt (j + 2) ns k m at_most_two.1 in
        let one : node_lengths (set (both ns j inside) j m2) ≡ node_lengths (take j ns ++ m2 ∷ drop (j + 2) ns) =
        ap (λ l. node_lengths l) (set-set (remove ns (j + 1)) j _ m2)
        ∙ (lengths_set (remove ns (j + 1)) j m2 ∙ sym (made-of-two ns j m2 inside)) in
        lowered (both ns j inside) j is (both_inside ns j inside) m2 1 some_items
        (omega (arith, shorter, two_long ns j inside))
        ∙ ap block_sums (one ∙ (rw (← front, ← back) refl ∙ ap (λ l. node_lengths l) (sym made)))
