-- A list partitioned into nodes.
use Rattle.std.specs.Prelude.{◌≡◌, ℕ, ◌+◌, ◌-◌, ◌/◌, ◌<◌, ◌≤◌, ◌==◌, ◌&&◌, true}
use Rattle.std.specs.Prelude.{false, List, [], ◌∷◌, length, sum, take, drop, refl}
use Rattle.std.specs.Prelude.{slice_set, insert, remove, if◌then◌else◌, nat_lt}
use Rattle.std.specs.List.{All, fold, splice}
use Rattle.std.specs.Coded.{Coded, code_by, coded×, coded_ℕ, coded_list}
use Rattle.indexset_core.specs.Nodes.{concat, node_at}
use Rattle.indexset_spine.specs.declared.spot.Spot.{Spot}

-- the nodes, in order, and the maximum number of items in a node
pub record NodeList (X : Type 0) : Type 0 where
  pub nodes : List (List X)
  pub size : ℕ

-- the lengths of the nodes of a list: each is within the size, and none is 0 unless it is the only
-- one
pub record AreNodeLengths (lengths : List ℕ) (size : ℕ) : Type 0 where
  pub two : 2 ≤ size
  pub some : 1 ≤ length lengths
  pub bounded : All (λ n. n ≤ size) lengths
  pub filled : 2 ≤ length lengths → All (λ n. 1 ≤ n) lengths

-- `AreNodeLengths`, with the sum of the lengths
pub record IsSpine (lengths : List ℕ) (size total : ℕ) : Type 0 where
  pub is_cut : AreNodeLengths lengths size
  pub total_is : total ≡ sum lengths

-- `IsSpine`, with the lengths that the index holds
pub record IsIndexed (lengths : List ℕ) (size total : ℕ) (index : List ℕ) : Type 0 where
  pub is_spine : IsSpine lengths size total
  pub index_is : index ≡ lengths

-- the spot of the first item
abbrev pub first_spot : Spot
first_spot = record { node = 0; offset = 0; found = true }

module _ {X : Type 0} where
  -- the model of a set in contracts: its nodes and node size
  abbrev pub node_list : List (List X) → ℕ → NodeList X
  node_list ns n = record { nodes = ns; size = n }

  abbrev pub node_list_code : Coded X → Coded (NodeList X)
  node_list_code c =
      code_by (List (List X) × ℕ) (coded× (coded_list (coded_list c)) coded_ℕ)
      (λ s. (s.nodes, s.size)) (λ p. node_list p.0 p.1) (λ _. refl)

  -- the list of a set, or of a spine
  abbrev pub items : NodeList X → List X
  items s = concat s.nodes

  -- a spot at an item or at the end of a node: the node exists, and the offset is at most its
  -- length
  pub record IsSpot (ns : List (List X)) (s : Spot) : Type 0 where
    pub node_in : s.node < length ns
    pub offset_in : s.offset ≤ length (node_at ns s.node)

  -- the spot of an item
  pub record IsItemSpot (ns : List (List X)) (s : Spot) : Type 0 where
    pub node_in : s.node < length ns
    pub offset_in : s.offset < length (node_at ns s.node)

  -- how many items are before the spot
  abbrev pub position_of : List (List X) → Spot → ℕ
  position_of ns s = length (concat (take s.node ns)) + s.offset

  -- the nodes that a node becomes if v is inserted at the offset: a node below the size stays one;
  -- a full one is halved first, and v is inserted into the right half if the offset is above half
  -- the length, else into the left half
  unfoldable pub parts_with : ℕ → List X → ℕ → X → List (List X)
  parts_with size n offset v =
      let half = length n / 2 in
      if nat_lt (length n) size then insert n offset v ∷ []
      else if nat_lt half offset then take half n ∷ insert (drop half n) (offset - half) v ∷ []
      else insert (take half n) offset v ∷ drop half n ∷ []

  -- the nodes with v inserted at the spot
  unfoldable pub with_inserted : ℕ → List (List X) → Spot → X → List (List X)
  with_inserted size ns s v =
      splice ns s.node (s.node + 1) (parts_with size (node_at ns s.node) s.offset v)

  -- the spot after the last item
  abbrev pub end_spot : List (List X) → Spot
  end_spot ns = record {
    node = length ns - 1;
    offset = length (node_at ns (length ns - 1));
    found = false;
  }

  -- the nodes with v inserted after the last item
  abbrev pub with_last : ℕ → List (List X) → X → List (List X)
  with_last size ns v = with_inserted size ns (end_spot ns) v

  -- the nodes with each of xs inserted after the last item, in order
  unfoldable pub with_all_last : ℕ → List (List X) → List X → List (List X)
  with_all_last size ns xs = fold (with_last size) ns xs

  -- the nodes without the item at the spot: an emptied node is removed too, unless it is the only
  -- one
  unfoldable pub without_item : List (List X) → Spot → List (List X)
  without_item ns s =
      if (length (node_at ns s.node) == 1) && nat_lt 1 (length ns) then remove ns s.node
      else slice_set ns s.node (remove (node_at ns s.node) s.offset)

  -- the nodes with the item at the spot replaced by v
  unfoldable pub with_replaced : List (List X) → Spot → X → List (List X)
  with_replaced ns s v = slice_set ns s.node (slice_set (node_at ns s.node) s.offset v)

  -- the nodes with the item at position i replaced by w
  unfoldable pub set_joined : List (List X) → ℕ → X → List (List X)
  set_joined [] i w = []
  set_joined (n ∷ ns) i w =
      if nat_lt i (length n) then slice_set n i w ∷ ns else n ∷ set_joined ns (i - length n) w

  abbrev pub with_item_at : NodeList X → ℕ → X → NodeList X
  with_item_at s i w = node_list (set_joined s.nodes i w) s.size
