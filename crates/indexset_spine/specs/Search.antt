-- The result of a search for an item, or for its insertion point.
use Rattle.std.specs.Prelude.{◌≡◌, List, IsTrue}
use Rattle.std.specs.declared.cmp.Ordering.{Ordering}
use Rattle.indexset_core.specs.Nodes.{concat, equal_at, node_at, node_for}
use Rattle.indexset_core.specs.Parted.{less_count}
use Rattle.indexset_spine.specs.NodeList.{IsItemSpot, IsSpot, position_of}
use Rattle.indexset_spine.specs.declared.spot.Spot.{Spot}

-- the spot of the first item that compares Equal, or its insertion point: in the first node whose
-- last item does not compare Less, else in the last node, after the items that compare Less
pub record IsSearchResult {T : Type 0} (answer : T → Ordering) (ns : List (List T))
    (s : Spot) : Type 0 where
  pub node : s.node ≡ node_for answer ns
  pub offset : s.offset ≡ less_count answer (node_at ns s.node)
  pub found : s.found ≡ equal_at answer (concat ns) (position_of ns s)
  pub position : position_of ns s ≡ less_count answer (concat ns)
  pub spot : IsSpot ns s
  pub item : IsTrue s.found → IsItemSpot ns s
