-- The index of a spine: the lengths of its nodes as sums, and what an edit does to them.
use Rattle.std.proofs.Common.{◌≡◌, ℕ, suc, ◌+◌, ◌-◌, ◌/◌, ◌<◌, ◌≤◌, ◌==◌, ◌&&◌, Bool, true, false, not}
use Rattle.std.proofs.Common.{filter, List, [], ◌∷◌, ◌++◌, length, sum, take, drop, get_or, slice_set}
use Rattle.std.proofs.Common.{nat_lt, if◌then◌else◌, refl, sym, ap, ◌∙◌, arith, length-append, length-drop}
use Rattle.std.proofs.lemmas.List.{take-map, take-append-le, take-take, length-take-le, map-set}
use Rattle.std.proofs.lemmas.List.Edits.{length-insert, length-remove}
use Rattle.std.specs.List.{splice, insert, remove}
use Rattle.indexset_core.specs.Nodes.{concat, node_lengths, node_at}
use Rattle.indexset_core.proofs.CallerLemmas.{length-concat, joined_around, concat-splice}
use Rattle.indexset_spine.specs.declared.spot.Spot.{Spot}
use Rattle.indexset_spine.specs.NodeList.{IsSpot, IsItemSpot, position_of}
use Rattle.indexset_spine.specs.Edits.{RetainsEach, RetainsNodes, with_item_in, with_halved, without_emptied, without_all_emptied, or_one_empty, left_nodes, right_nodes}
use Rattle.indexset_index.specs.Fenwick.{prefix_sum}
use Rattle.indexset_index.proofs.CallerLemmas.{count-lengths, length-at, prefix-concat}
use Rattle.indexset_spine.proofs.NodeListSplits.{joined_emptied}

module _ {X : Type 0} where
  -- what the index finds is the spot of an item
  pub spot_found : (ns : List (List X)) (i : ℕ) (s : Spot)
      → (s.node < length (node_lengths ns)) × (s.offset < get_or (node_lengths ns) s.node 0)
      × (prefix_sum (node_lengths ns) s.node + s.offset ≡ i)
      → IsItemSpot ns s × (position_of ns s ≡ i)
  spot_found ns i s h =
      let node_in : s.node < length ns = omega (arith, count-lengths ns, h.0) in
      (record { node_in = node_in; offset_in = omega (arith, length-at ns s.node node_in, h.1) }, omega (arith, prefix-concat ns s.node, h.2))

  -- a node with one item more
  pub lengths-more : (ns : List (List X)) (s : Spot) (v : X) → IsSpot ns s → node_lengths (with_item_in ns s v) ≡ slice_set (node_lengths ns) s.node (get_or (node_lengths ns) s.node 0 + 1)
  unfolding with_item_in
  lengths-more ns s v h =
      map-set (λ (n : List X). length n) ns s.node (insert (node_at ns s.node) s.offset v)
      ∙ ap (slice_set (node_lengths ns) s.node) (omega (arith, length-insert (node_at ns s.node) s.offset v h.offset_in, length-at ns s.node h.node_in))

  -- a node with one item less
  pub lengths-less : (ns : List (List X)) (s : Spot) → IsItemSpot ns s
      → node_lengths (slice_set ns s.node (remove (node_at ns s.node) s.offset))
      ≡ slice_set (node_lengths ns) s.node (get_or (node_lengths ns) s.node 0 - 1)
  lengths-less ns s h =
      map-set (λ (n : List X). length n) ns s.node (remove (node_at ns s.node) s.offset)
      ∙ ap (slice_set (node_lengths ns) s.node) (omega (arith, length-remove (node_at ns s.node) s.offset h.offset_in, length-at ns s.node h.node_in))

  -- ms begins with the first k of the nodes ns, and has at most so many
  pub record KeepsFirst (k most : ℕ) (ns ms : List (List X)) : Type 0 where
    pub front : take k (node_lengths ns) ≡ take k (node_lengths ms)
    pub within : k ≤ length ms
    pub few : length ms ≤ most

  front_is : (k : ℕ) (ns ms : List (List X)) → take k ns ≡ take k ms → take k (node_lengths ns) ≡ take k (node_lengths ms)
  front_is k ns ms e = take-map (λ (n : List X). length n) k ns ∙ (ap (λ (l : List (List X)). node_lengths l) e ∙ sym (take-map (λ (n : List X). length n) k ms))

  -- what comes after the first k makes no difference to them
  front_same : (k : ℕ) (ns rest : List (List X)) → k ≤ length ns → take k ns ≡ take k (take k ns ++ rest)
  front_same k ns rest h = sym (take-append-le k (take k ns) rest (omega (arith, length-take-le k ns h)) ∙ take-take k k ns (omega arith))

  pub halved_keeps : (ns : List (List X)) (k : ℕ) → k < length ns → KeepsFirst k (length ns + 1) ns (with_halved ns k)
  unfolding with_halved
  halved_keeps ns k h =
      let n = node_at ns k in
      let ps = take (length n / 2) n ∷ drop (length n / 2) n ∷ [] in
      let long : length (splice ns k (k + 1) ps) ≡ length ns + 1 =
      omega (arith, length-append (take k ns) (ps ++ drop (k + 1) ns), length-take-le k ns (omega arith), length-drop (k + 1) ns) in
      record {
        front = front_is k ns (splice ns k (k + 1) ps) (front_same k ns (ps ++ drop (k + 1) ns) (omega arith));
        within = omega (arith, long);
        few = omega (arith, long);
      }

  pub halved_sum : (ns : List (List X)) (k : ℕ) → k < length ns → sum (node_lengths (with_halved ns k)) ≡ sum (node_lengths ns)
  unfolding with_halved
  halved_sum ns k h =
      let n = node_at ns k in
      let half = length n / 2 in
      let fs = concat (take k ns) in
      let bs = concat (drop (k + 1) ns) in
      let ps = take half n ∷ drop half n ∷ [] in
      let parts : length (concat ps) ≡ length n =
      omega (arith, length-append (take half n) (drop half n ++ []), length-append (drop half n) [], length-take-le half n (omega arith), length-drop half n) in
      let whole = ap (λ (l : List X). length l) (joined_around ns k h) in
      let cut = ap (λ (l : List X). length l) (concat-splice ns ps k (k + 1)) in
      omega (
        arith,
        parts,
        whole,
        cut,
        length-append fs (n ++ bs),
        length-append n bs,
        length-append fs (concat ps ++ bs),
        length-append (concat ps) bs,
        length-concat ns,
        length-concat (splice ns k (k + 1) ps),
      )

  pub emptied_keeps : (ns : List (List X)) (k : ℕ) → k < length ns → KeepsFirst k (length ns) ns (without_emptied ns k)
  unfolding without_emptied
  emptied_keeps ns k h =
      elim ((length (node_at ns k) == 0) && nat_lt 1 (length ns)) as (λ b. KeepsFirst k (length ns) ns (if b then remove ns k else ns)) [
        | true ↦
            let one = length-remove ns k h in record {
              front = front_is k ns (remove ns k) (front_same k ns (drop (suc k) ns) (omega arith));
              within = omega arith;
              few = omega arith;
            }
        | false ↦ record { front = refl; within = omega arith; few = omega arith }
      ]

  pub emptied_sum : (ns : List (List X)) (k : ℕ) → k < length ns → sum (node_lengths (without_emptied ns k)) ≡ sum (node_lengths ns)
  emptied_sum ns k h = sym (length-concat (without_emptied ns k)) ∙ (ap (λ (l : List X). length l) (joined_emptied ns k h) ∙ length-concat ns)

  pub left_keeps : (ns : List (List X)) (s : Spot) → IsSpot ns s → KeepsFirst s.node (length ns) ns (left_nodes ns s)
  unfolding left_nodes
  left_keeps ns s h =
      let end = take s.offset (node_at ns s.node) ∷ [] in
      let ms = take s.node ns ++ end in
      let long : length ms ≡ s.node + 1 = omega (arith, length-append (take s.node ns) end, length-take-le s.node ns (omega (arith, h.node_in))) in
      let left = emptied_keeps ms s.node (omega (arith, long)) in
      record {
        front = front_is s.node ns ms (front_same s.node ns end (omega (arith, h.node_in))) ∙ left.front;
        within = left.within;
        few = omega (arith, left.few, long, h.node_in);
      }

  pub right_few : (ns : List (List X)) (s : Spot) → IsSpot ns s → length (right_nodes ns s) ≤ length ns - s.node
  unfolding right_nodes
  right_few ns s h =
      let ms = drop s.offset (node_at ns s.node) ∷ drop (s.node + 1) ns in
      omega (arith, (emptied_keeps ms 0 (omega arith)).few, length-drop (s.node + 1) ns, h.node_in)

  -- the nodes that are not empty are not more
  filter_few : (test : List X → Bool) (ns : List (List X)) → length (filter test ns) ≤ length ns
  filter_few test [] = omega arith
  filter_few test (n ∷ ns) =
      elim (test n)
      as (λ b. length (if b then n ∷ filter test ns else filter test ns)
      ≤ suc (length ns)) [ true ↦ omega (arith, filter_few test ns) | false ↦ omega (arith, filter_few test ns) ]

  one_few : (ns : List (List X)) (k : ℕ) → length ns ≤ k → 1 ≤ k → length (or_one_empty ns) ≤ k
  one_few [] k h one = omega arith
  one_few (n ∷ ns) k h one = h

  pub emptied_few : (ns : List (List X)) → 1 ≤ length ns → length (without_all_emptied ns) ≤ length ns
  unfolding without_all_emptied
  emptied_few ns some = one_few (filter (λ n. not (length n == 0)) ns) (length ns) (filter_few (λ n. not (length n == 0)) ns) some

  -- the nodes that are left of some are not more
  module _ {S : Type 0} (R : S → X → Bool → S → X → Type 0) where
    each_as_many : (s : S) (ns ms : List (List X)) → RetainsEach R s ns ms → length ms ≡ length ns
    each_as_many s [] ms h = ap (λ (l : List (List X)). length l) h
    each_as_many s (n ∷ ns) ms (m, t, here, ls, more, is) = ap (λ (l : List (List X)). length l) is ∙ ap suc (each_as_many t ns ls more)

    pub retained_few : (s : S) (ns ms : List (List X)) → RetainsNodes R s ns ms → 1 ≤ length ns → length ms ≤ length ns
    unfolding without_all_emptied
    retained_few s ns ms h some =
        let many = each_as_many s ns h.each h.run in
        rw h.left (one_few (filter (λ n. not (length n == 0)) h.each) (length ns) (omega (arith, filter_few (λ n. not (length n == 0)) h.each)) some)
