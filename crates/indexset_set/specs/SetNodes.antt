-- The nodes of a set after insertions and removals.
use Rattle.std.specs.Prelude.{◌≡◌, ℕ, ◌==◌, ◌&&◌, List, [], ◌∷◌, ◌++◌, length, take, drop}
use Rattle.std.specs.Prelude.{remove, slice_set, if◌then◌else◌, nat_lt}
use Rattle.std.specs.List.{fold, list_any}
use Rattle.std.specs.Ordering.{is_eq}
use Rattle.std.specs.declared.cmp.Ordering.{Ordering}
use Rattle.indexset_spine.specs.declared.spot.Spot.{Spot}
use Rattle.indexset_core.specs.Nodes.{ends_less}
use Rattle.indexset_spine.specs.NodeList.{NodeList, node_list, IsItemSpot, items}
use Rattle.indexset_spine.specs.NodeList.{parts_with, position_of, without_item}
use Rattle.indexset_core.specs.Order.{below, has_equal}
use Rattle.indexset_core.specs.Parted.{less_count}

-- ms are the nodes ns without the element at the position
abbrev pub IsWithoutAt : {T : Type 0} → List (List T) → ℕ → List (List T) → Type 0
IsWithoutAt ns i ms =
    (s : Spot) × IsItemSpot ns s × (position_of ns s ≡ i) × (ms ≡ without_item ns s)

module _ {T : Type 0} where
  -- the nodes with f n in place of one node n: the first whose last element does not compare Less,
  -- or else the last node
  unfoldable pub with_node_edited : (T → Ordering) → (List T → List (List T)) → List (List T)
      → List (List T)
  with_node_edited answer f [] = f []
  with_node_edited answer f (n ∷ []) = f n
  with_node_edited answer f (n ∷ m ∷ ns) =
      if ends_less answer n then n ∷ with_node_edited answer f (m ∷ ns) else f n ++ m ∷ ns

  -- the nodes without the first element that compares Equal: an emptied node is removed too, unless
  -- it is the only one
  unfoldable pub nodes_unequal : (T → Ordering) → NodeList T → List (List T)
  nodes_unequal answer s =
      if list_any (λ x. is_eq (answer x)) (items s)
      then with_node_edited answer
      (λ n. if (length n == 1) && nat_lt 1 (length s.nodes) then []
      else remove n (less_count answer n) ∷ []) s.nodes
      else s.nodes

-- elements are compared with v, which may be of another type
module _ {T Q : Type 0} (cmp : T → Q → Ordering) where
  -- the nodes without the element equal to v
  abbrev pub nodes_without : NodeList T → Q → List (List T)
  nodes_without s v = nodes_unequal (λ x. cmp x v) s

module _ {T : Type 0} (cmp : T → T → Ordering) where
  -- the nodes with v inserted after the elements below it, unless an equal element is present
  unfoldable pub nodes_kept : NodeList T → T → List (List T)
  nodes_kept s v =
      if has_equal cmp (items s) v then s.nodes
      else with_node_edited (λ x. cmp x v) (λ n. parts_with s.size n (length (below cmp n v)) v)
      s.nodes

  -- the nodes with v inserted, replacing any equal element
  unfoldable pub nodes_put : NodeList T → T → List (List T)
  nodes_put s v =
      if has_equal cmp (items s) v
      then with_node_edited (λ x. cmp x v) (λ n. slice_set n (length (below cmp n v)) v ∷ [])
      s.nodes
      else nodes_kept s v

  -- the nodes with each of xs inserted in order, unless an equal element is present
  unfoldable pub nodes_kept_all : NodeList T → List T → List (List T)
  nodes_kept_all s xs = fold (λ ns x. nodes_kept (node_list ns s.size) x) s.nodes xs

  -- the nodes with each of xs inserted in order, replacing any equal element
  unfoldable pub nodes_put_all : NodeList T → List T → List (List T)
  nodes_put_all s xs = fold (λ ns x. nodes_put (node_list ns s.size) x) s.nodes xs

  -- ns are the nodes with a prefix of xs inserted in order, and rest is the rest of xs
  abbrev pub PutsPrefix : NodeList T → List T → List (List T) → List T → Type 0
  PutsPrefix s xs ns rest = (k : ℕ) × (ns ≡ nodes_put_all s (take k xs)) × (rest ≡ drop k xs)
