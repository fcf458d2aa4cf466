-- The end of the last node.
use Rattle.std.proofs.Common.{◌≡◌, ℕ, zero, suc, ◌+◌, ◌-◌, ◌<◌, ◌≤◌, List, [], length, take, get_or, refl, subst, arith, sym, ap, ◌∙◌}
use Rattle.std.specs.declared.vec.Vec.{Vec}
use Rattle.indexset_spine.specs.declared.spot.Spot.{Spot}
use Rattle.indexset_core.specs.Nodes.{concat, node_at, node_lengths, vec_items}
use Rattle.indexset_core.proofs.CallerLemmas.{last_before}
use Rattle.indexset_spine.specs.NodeList.{NodeList, node_list, items, AreNodeLengths, IsItemSpot, position_of}
use Rattle.indexset_spine.proofs.NodeListEdits.{node_filled}
use Rattle.indexset_spine.proofs.VecNodes.{length-vec_items, node_read}

module _ {X : Type 0} (ns : List (List X)) where
  -- the last node has the last item
  pub last_filled : (size k : ℕ) → AreNodeLengths (node_lengths ns) size → 0 < length (concat ns) → k + 1 ≡ length ns → 1 ≤ length (node_at ns k)
  last_filled size zero is some last = omega (arith, some, last_before ns 0 (length (node_at ns 0)) last refl)
  last_filled size (suc k) is some last = node_filled ns (suc k) size (omega arith) (omega arith) is

  -- the spot of the last item
  pub last_spot_in : (size : ℕ) (p : Spot) → AreNodeLengths (node_lengths ns) size → 0 < length (concat ns)
      → p.node + 1 ≡ length ns → p.offset ≡ length (node_at ns p.node) - 1
      → IsItemSpot ns p × (position_of ns p ≡ length (concat ns) - 1)
  last_spot_in size p is some last at =
      let filled = last_filled size p.node is some last in
      let whole = last_before ns p.node (length (node_at ns p.node)) last refl in
      (record { node_in = omega arith; offset_in = omega arith }, omega arith)

-- the end of the last node of a spine
pub spine_end : {X Z : Type 0} (vs : List (Vec X Z)) (size : ℕ) (s : NodeList X) → node_list (vec_items vs) size ≡ s
    → (k o : ℕ) (v : Vec X Z) → k + 1 ≡ length vs → v ≡ get_or vs k v → o ≡ length v.items
    → length (concat (take k s.nodes)) + o ≡ length (items s)
spine_end vs size s view k o v last at end =
    let here = node_read vs k v (omega arith) at [] in
    subst (λ (t : NodeList _). length (concat (take k t.nodes)) + o ≡ length (items t)) view (last_before (vec_items vs) k o (omega (arith, length-vec_items vs)) (end ∙ ap (λ l. length l) (sym here)))
