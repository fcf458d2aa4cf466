-- The position of a cursor, and the items before its node.
use Rattle.std.proofs.Common.{◌≡◌, ℕ, ◌-◌, ◌≤◌, List, length, sum, take, arith}
use Rattle.indexset_core.specs.Nodes.{concat, node_lengths}
use Rattle.indexset_core.proofs.CallerLemmas.{offset-le}
use Rattle.indexset_spine.specs.declared.spot.Spot.{Spot}
use Rattle.indexset_spine.specs.NodeList.{IsSpot, position_of}
use Rattle.indexset_spine.proofs.CallerLemmas.{place_position}

module _ {X : Type 0} (ns : List (List X)) (s : Spot) where
  pub before_node : (i : ℕ) → position_of ns s ≡ i → i - s.offset ≡ sum (take s.node (node_lengths ns))
  before_node i at = omega (arith, place_position ns s, at)

  pub position_le : IsSpot ns s → position_of ns s ≤ length (concat ns)
  position_le h = offset-le ns s.node s.offset h.node_in h.offset_in
