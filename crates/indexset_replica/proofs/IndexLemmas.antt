-- The index of a replica's nodes after an edit.
use Rattle.std.proofs.Common.{◌≡◌, ℕ, ◌+◌, ◌-◌, ◌/◌, ◌<◌, List, [], ◌∷◌, ◌++◌, length, set, sum, take, drop, get_or, insert, remove, ap, sym, ◌∙◌, arith, length-append}
use Rattle.std.specs.List.{splice}
use Rattle.std.proofs.lemmas.List.Sums.{sum_by-insert}
use Rattle.indexset_core.specs.Nodes.{concat, node_at, node_lengths}
use Rattle.indexset_core.proofs.CallerLemmas.{concat-append, joined_around, length-concat}
use Rattle.indexset_events.specs.Merging.{with_merged}
use Rattle.indexset_index.specs.Blocks.{block_sums}
use Rattle.indexset_index.proofs.CallerLemmas.{both, lengths-insert, lengths_set, lowered, made-of-two, sum-blocks, without-half}

module _ {X : Type 0} where
  -- the sum of the lengths with one more node
  pub insert_sum : {index : List ℕ} (ns : List (List X)) (k : ℕ) (n : List X) → index ≡ block_sums (node_lengths ns) → sum (node_lengths (insert ns k n)) ≡ sum index + length n
  insert_sum ns k n is = omega (arith, ap sum (lengths-insert ns k n), sum_by-insert (λ x. x) (node_lengths ns) k (length n), ap sum is, sum-blocks (node_lengths ns))

  -- a node split in two
  module _ {index : List ℕ} {ms : List (List X)} (ns : List (List X)) (k : ℕ) (a b : List X)
      (made : ms ≡ splice ns k (k + 1) (a ∷ b ∷ [])) (is : index ≡ block_sums (node_lengths ns))
      (inside : k < length ns) (cut : length a + length b ≡ length (node_at ns k)) where
    pub cut_in_two : set index (k / 32) (get_or index (k / 32) 0 - length b) ≡ block_sums (remove (node_lengths ms) (k + 1))
    cut_in_two =
        lowered ns k is inside a (length b) (omega (arith, cut)) (omega (arith, cut))
        ∙ ap block_sums
        (lengths_set ns k a
        ∙ (sym (without-half ns k a b inside) ∙ ap (λ l. remove (node_lengths l) (k + 1)) (sym made)))

  pub cut_sum : (ns : List (List X)) (k : ℕ) (a b : List X) → k < length ns
      → length a + length b ≡ length (node_at ns k)
      → sum (node_lengths (splice ns k (k + 1) (a ∷ b ∷ []))) ≡ sum (node_lengths ns)
  cut_sum ns k a b inside cut =
      let ends = drop (k + 1) ns in
      let parts = a ∷ b ∷ ends in
      omega (
        arith,
        cut,
        length-concat ns,
        length-concat (take k ns ++ parts),
        ap (λ (l : List X). length l) (concat-append (take k ns) parts),
        ap (λ (l : List X). length l) (joined_around ns k inside),
        length-append (concat (take k ns)) (concat parts),
        length-append (concat (take k ns)) (node_at ns k ++ concat ends),
        length-append (node_at ns k) (concat ends),
        length-append a (b ++ concat ends),
        length-append b (concat ends),
      )

  -- two nodes merged
  pub merged_lengths : (ns : List (List X)) (j : ℕ) (inside : j + 1 < length ns) → node_lengths (both ns j inside) ≡ node_lengths (with_merged ns j)
  merged_lengths ns j inside =
      let m = node_at ns j ++ node_at ns (j + 1) in
      lengths_set (remove ns (j + 1)) j m ∙ sym (made-of-two ns j m inside)
