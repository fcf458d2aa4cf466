-- Places among nodes, by the lengths of the nodes.
use Rattle.std.proofs.Common.{◌≡◌, ℕ, zero, suc, ◌+◌, ◌<◌, ◌≤◌, List, [], ◌∷◌, length, sum, take, get_or, sym, ap, ◌∙◌, arith, Option, None, Some, MatchOption}
use Rattle.std.proofs.lemmas.List.{length-map, take-map, get_or-map}
use Rattle.indexset_core.specs.Nodes.{concat, node_lengths, node_at}
use Rattle.indexset_core.specs.Places.{IsPlace, items_before}
use Rattle.indexset_core.proofs.CallerLemmas.{length-concat, offset-le}
use Rattle.indexset_index.specs.Fenwick.{prefix_sum}

module _ {X : Type 0} where
  pub count-lengths : (ns : List (List X)) → length (node_lengths ns) ≡ length ns
  count-lengths ns = length-map ns (λ (n : List X). length n)

  pub length-at : (ns : List (List X)) (k : ℕ) → k < length ns → get_or (node_lengths ns) k 0 ≡ length (node_at ns k)
  length-at ns k h = get_or-map (λ (n : List X). length n) ns k [] 0 h

  -- the items of the first k nodes
  pub prefix-concat : (ns : List (List X)) (k : ℕ) → prefix_sum (node_lengths ns) k ≡ length (concat (take k ns))
  prefix-concat ns k = ap sum (take-map (λ (n : List X). length n) k ns) ∙ sym (length-concat (take k ns))

  -- the node of a place exists
  node-in : (ns : List (List X)) (k o : ℕ) → IsPlace ns (k, o) → 1 ≤ length ns → k < length ns
  node-in ns k o h some = omega (arith, h.node_in)

  pub node-le : (ns : List (List X)) (p : ℕ × ℕ) → IsPlace ns p → p.0 ≤ length (node_lengths ns)
  node-le [] p h = omega (arith, h.node_in)
  node-le (n ∷ ns) p h = omega (arith, h.node_in, count-lengths (n ∷ ns))

  -- the items before a place are no more than all
  pub place-fits : (ns : List (List X)) (p : ℕ × ℕ) → IsPlace ns p → items_before ns p ≤ sum (node_lengths ns)
  place-fits [] (zero, o) h = omega (arith, h.offset_in)
  place-fits [] (suc k, o) h = absurd (omega (arith, h.node_in))
  place-fits (n ∷ ns) (k, o) h = omega (arith, offset-le (n ∷ ns) k o (node-in (n ∷ ns) k o h (omega arith)) h.offset_in, length-concat (n ∷ ns))

  -- the place that the lengths give for a position is that of its item
  pub place-found : (ns : List (List X)) (i : ℕ) (r : Option (ℕ × ℕ))
      → MatchOption r (sum (node_lengths ns) ≤ i)
      (λ p. (p.0 < length (node_lengths ns)) × (p.1 < get_or (node_lengths ns) p.0 0)
      × (prefix_sum (node_lengths ns) p.0 + p.1 ≡ i))
      → MatchOption r (length (concat ns) ≤ i)
      (λ p. (p.0 < length ns) × (p.1 < length (node_at ns p.0)) × (items_before ns p ≡ i))
  place-found ns i None h = omega (arith, h, length-concat ns)
  place-found ns i (Some p) h =
      let inside : p.0 < length ns = omega (arith, count-lengths ns, h.0) in
      (inside, omega (arith, length-at ns p.0 inside, h.1), omega (arith, prefix-concat ns p.0, h.2))
