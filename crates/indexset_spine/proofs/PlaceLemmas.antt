-- Spots, in terms of nodes and in terms of the nodes' lengths.
use Rattle.std.proofs.Common.{◌≡◌, ℕ, zero, suc, ◌+◌, ◌-◌, ◌<◌, ◌≤◌, true, false, nat_lt, List, [], ◌∷◌, length, slice_index, sum, take, refl, ap, sym, arith}
use Rattle.std.proofs.lemmas.Bool.Decides.{nat_tests}
use Rattle.std.proofs.lemmas.List.Sums.{sum_by-cons}
use Rattle.indexset_core.specs.Nodes.{node_at, node_lengths}
use Rattle.indexset_spine.specs.declared.spot.Spot.{Spot}
use Rattle.indexset_spine.specs.NodeList.{IsItemSpot, IsSpot, position_of, with_inserted, without_item}
use Rattle.indexset_spine.specs.Lengths.{IsItemPlace, IsPlace, lengths_with, lengths_without, node_of, place_of}
use Rattle.indexset_index.proofs.CallerLemmas.{count-lengths, length-at, prefix-concat}
use Rattle.indexset_spine.proofs.NodeLengthLemmas.{node_lengths-inserted, node_lengths-without}

-- the node that a position is in
pub node_of_is : (ls : List ℕ) (k i : ℕ) → k < length ls → sum (take k ls) ≤ i → i < sum (take k ls) + slice_index ls k → node_of ls i ≡ k
node_of_is [] k i lt low high = absurd (omega arith)
node_of_is (n ∷ ls) zero i lt low high =
    let t : nat_lt i n ≡ true = grind (arith, nat_tests) in
    rw t refl
node_of_is (n ∷ ls) (suc k) i lt low high =
    let more : sum (n ∷ take k ls) ≡ n + sum (take k ls) = sum_by-cons (λ (x : ℕ). x) n (take k ls) in
    let l : n ≤ i = omega (arith, more, low) in
    let t : nat_lt i n ≡ false = grind (arith, nat_tests) in
    rw t (ap suc (node_of_is ls k (i - n) (omega arith) (omega (arith, more)) (omega (arith, more))))

module _ {X : Type 0} (ns : List (List X)) (s : Spot) where
  pub place_position : place_of (node_lengths ns) s ≡ position_of ns s
  place_position = ap (λ n. n + s.offset) (prefix-concat ns s.node)

  pub item_place : IsItemSpot ns s → IsItemPlace (node_lengths ns) s
  item_place h = record {
    node_in = omega (arith, h.node_in, count-lengths ns);
    offset_in = omega (arith, h.offset_in, length-at ns s.node h.node_in);
  }

  pub item_spot : IsItemPlace (node_lengths ns) s → IsItemSpot ns s
  item_spot h =
      let inside : s.node < length ns = omega (arith, h.node_in, count-lengths ns) in
      record { node_in = inside; offset_in = omega (arith, h.offset_in, length-at ns s.node inside) }

  pub place_spot : IsPlace (node_lengths ns) s → IsSpot ns s
  place_spot h =
      let inside : s.node < length ns = omega (arith, h.node_in, count-lengths ns) in
      record { node_in = inside; offset_in = omega (arith, h.offset_in, length-at ns s.node inside) }

  pub spot_place : IsSpot ns s → (length (node_at ns s.node) ≤ s.offset → length ns ≤ s.node + 1) → IsPlace (node_lengths ns) s
  spot_place h last =
      let count = count-lengths ns in let long = length-at ns s.node h.node_in in
      record { node_in = omega (arith, h.node_in, count); offset_in = omega (arith, h.offset_in, long); last = λ a. omega (arith, last (omega (arith, a, long)), count) }

  pub item_node : (i : ℕ) → IsItemSpot ns s → position_of ns s ≡ i → s.node ≡ node_of (node_lengths ns) i
  item_node i h at =
      let place = item_place h in let is = place_position in let inside = place.offset_in in
      sym (node_of_is (node_lengths ns) s.node i place.node_in (omega (arith, at, is)) (omega (arith, at, is, inside)))

  -- the lengths after an insertion there, or a removal
  pub lengths_placed : (size : _) (v : X) → IsPlace (node_lengths ns) s → node_lengths (with_inserted size ns s v) ≡ lengths_with size (node_lengths ns) (place_of (node_lengths ns) s)
  lengths_placed size v h =
      let spot = place_spot h in
      node_lengths-inserted size ns s _ v spot (λ a. omega (arith, h.last (omega (arith, a, length-at ns s.node spot.node_in)), count-lengths ns)) (sym place_position)

  pub lengths_taken_out : IsItemSpot ns s → node_lengths (without_item ns s) ≡ lengths_without (node_lengths ns) (place_of (node_lengths ns) s)
  lengths_taken_out h = node_lengths-without ns s _ h (sym place_position)
