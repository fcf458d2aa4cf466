-- The spot of an item after it was inserted at a spot.
use Rattle.std.proofs.Common.{◌≡◌, ◌+◌, ◌-◌, ◌/◌, ◌<◌, ◌≤◌, ℕ, suc, List, [], ◌∷◌, ◌++◌, length, take, drop, slice_set, ap, subst, sym, ◌∙◌, arith, length-append, length-drop, length-set}
use Rattle.std.proofs.lemmas.List.{get_or-set_same, length-take-le, set_split, take_at}
use Rattle.std.proofs.lemmas.List.Edits.{length-insert}
use Rattle.std.specs.List.{insert}
use Rattle.indexset_core.proofs.CallerLemmas.{length-concat-more}
use Rattle.indexset_core.specs.Nodes.{concat, node_at}
use Rattle.indexset_spine.specs.declared.spot.Spot.{Spot}
use Rattle.indexset_spine.specs.NodeList.{IsItemSpot, IsSpot, position_of}
use Rattle.indexset_spine.specs.Edits.{with_halved, with_item_in}
use Rattle.indexset_spine.proofs.EditSteps.{get_left, get_right}

module _ {X : Type 0} where
  -- an item that is inserted into the node of its spot is at that spot
  stands_put : (ns : List (List X)) (s : Spot) (v : X) → IsSpot ns s → IsItemSpot (with_item_in ns s v) s × (position_of (with_item_in ns s v) s ≡ position_of ns s)
  unfolding with_item_in
  stands_put ns s v h =
      let n = insert (node_at ns s.node) s.offset v in
      let there : node_at (slice_set ns s.node n) s.node ≡ n = get_or-set_same ns s.node n [] h.node_in in
      let front : take s.node (slice_set ns s.node n) ≡ take s.node ns =
      ap (take s.node) (set_split ns s.node n h.node_in) ∙ take_at (take s.node ns) (n ∷ drop (suc s.node) ns) s.node (length-take-le s.node ns (omega (arith, h.node_in))) in (
        record {
          node_in = omega (arith, h.node_in, length-set ns s.node n);
          offset_in = omega (arith, ap (λ (l : List X). length l) there, length-insert (node_at ns s.node) s.offset v h.offset_in, h.offset_in);
        },
        ap (λ ms. length (concat ms) + s.offset) front,
      )

  pub stands_at : (ns ms : List (List X)) (s : Spot) (v : X) → IsSpot ns s → ms ≡ with_item_in ns s v → IsItemSpot ms s × (position_of ms s ≡ position_of ns s)
  stands_at ns ms s v h e = subst (λ (l : List (List X)). IsItemSpot l s × (position_of l s ≡ position_of ns s)) (sym e) (stands_put ns s v h)

  -- the nodes before a halved one stay the same
  pub halved_before : (ns : List (List X)) (k : ℕ) → k < length ns → take k (with_halved ns k) ≡ take k ns
  unfolding with_halved
  halved_before ns k h =
      let half : ℕ = length (node_at ns k) / 2 in
      take_at (take k ns) ((take half (node_at ns k) ∷ drop half (node_at ns k) ∷ []) ++ drop (k + 1) ns) k (length-take-le k ns (omega arith))

  halved_left : (ns : List (List X)) (k : ℕ) → k < length ns → node_at (with_halved ns k) k ≡ take (length (node_at ns k) / 2) (node_at ns k)
  unfolding with_halved
  halved_left ns k h = let half : ℕ = length (node_at ns k) / 2 in get_left ns k (take half (node_at ns k)) (drop half (node_at ns k)) h []

  halved_more : (ns : List (List X)) (k : ℕ) → k < length ns → length (with_halved ns k) ≡ length ns + 1
  unfolding with_halved
  halved_more ns k h =
      let n = node_at ns k in
      let half : ℕ = length n / 2 in
      let ps = take half n ∷ drop half n ∷ [] in
      omega (arith, length-append (take k ns) (ps ++ drop (k + 1) ns), length-take-le k ns (omega arith), length-drop (k + 1) ns)

  -- a spot above half of a halved node is in the next one
  pub halved_position : (ns : List (List X)) (k o half : ℕ) → k < length ns → half ≡ length (node_at ns k) / 2
      → half ≤ o → length (concat (take (k + 1) (with_halved ns k))) + (o - half) ≡ length (concat (take k ns)) + o
  halved_position ns k o half h is above =
      omega (
        arith,
        length-concat-more (with_halved ns k) k (omega (arith, halved_more ns k h)),
        ap (λ (ms : List (List X)). length (concat ms)) (halved_before ns k h),
        ap (λ (l : List X). length l) (halved_left ns k h),
        length-take-le (length (node_at ns k) / 2) (node_at ns k) (omega arith),
      )

  halved_right : (ns : List (List X)) (k : ℕ) → k < length ns → node_at (with_halved ns k) (k + 1) ≡ drop (length (node_at ns k) / 2) (node_at ns k)
  unfolding with_halved
  halved_right ns k h = let half : ℕ = length (node_at ns k) / 2 in get_right ns k (take half (node_at ns k)) (drop half (node_at ns k)) h []

  -- the spot after the node is halved
  pub spot_right : (ns : List (List X)) (s : Spot) (half : ℕ) → IsSpot ns s → half ≡ length (node_at ns s.node) / 2
      → half < s.offset
      → IsSpot (with_halved ns s.node) record { node = s.node + 1; offset = s.offset - half; found = s.found }
  spot_right ns s half is e above = record {
    node_in = omega (arith, halved_more ns s.node is.node_in, is.node_in);
    offset_in = omega (arith, ap (λ (l : List X). length l) (halved_right ns s.node is.node_in), length-drop (length (node_at ns s.node) / 2) (node_at ns s.node), is.offset_in, e);
  }

  pub spot_left : (ns : List (List X)) (s : Spot) (half : ℕ) → IsSpot ns s → half ≡ length (node_at ns s.node) / 2 → s.offset ≤ half → IsSpot (with_halved ns s.node) s
  spot_left ns s half is e upto = record {
    node_in = omega (arith, halved_more ns s.node is.node_in, is.node_in);
    offset_in = omega (arith, ap (λ (l : List X). length l) (halved_left ns s.node is.node_in), length-take-le (length (node_at ns s.node) / 2) (node_at ns s.node) (omega arith), e);
  }
