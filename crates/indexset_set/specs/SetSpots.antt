-- The spot of an element, or its insertion point.
use Rattle.std.specs.Prelude.{◌≡◌, List, IsTrue}
use Rattle.std.specs.Bool.{OnTrue, OnFalse}
use Rattle.std.specs.List.{list_any}
use Rattle.std.specs.Ordering.{is_eq}
use Rattle.std.specs.declared.cmp.Ordering.{Ordering}
use Rattle.indexset_spine.specs.declared.spot.Spot.{Spot}
use Rattle.indexset_core.specs.Nodes.{concat, node_at, node_for}
use Rattle.indexset_core.specs.Order.{IsFoundAt, IsGapFor, rank}
use Rattle.indexset_core.specs.Parted.{less_count}
use Rattle.indexset_spine.specs.NodeList.{IsItemSpot, IsSpot, position_of}

-- the spot of the first element that compares Equal, or its insertion point: in the first node
-- whose last element does not compare Less, else in the last node, after the elements that
-- compare Less
abbrev pub search_spot : {T : Type 0} → (T → Ordering) → List (List T) → Spot
search_spot answer ns =
    let node = node_for answer ns in record {
      node = node;
      offset = less_count answer (node_at ns node);
      found = list_any (λ x. is_eq (answer x)) (concat ns);
    }

-- elements are compared with v, which may be of another type
module _ {T Q : Type 0} (cmp : T → Q → Ordering) where
  -- the spot of the element equal to v, or the insertion point of v
  abbrev pub spot_of : List (List T) → Q → Spot
  spot_of ns v = search_spot (λ x. cmp x v) ns

  -- the spot of the element equal to v, or the insertion point of v, with its position
  pub record IsSpotFor (ns : List (List T)) (v : Q) (s : Spot) : Type 0 where
    pub place : s ≡ spot_of ns v
    pub position : position_of ns s ≡ rank cmp (concat ns) v
    pub found : OnTrue s.found (IsFoundAt cmp (concat ns) v (position_of ns s))
    pub gap : OnFalse s.found (IsGapFor cmp (concat ns) v (position_of ns s))
    pub spot : IsSpot ns s
    pub item : IsTrue s.found → IsItemSpot ns s
