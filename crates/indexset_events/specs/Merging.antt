-- Merging of small neighbours.
use Rattle.std.specs.Prelude.{ℕ, ◌+◌, ◌-◌, ◌/◌, ◌<◌, Bool, ◌&&◌, if◌then◌else◌, nat_lt, nat_le}
use Rattle.std.specs.Prelude.{◌==◌, List, [], ◌∷◌, ◌++◌, length, set, remove, Option, Some, None}
use Rattle.std.specs.List.{splice}
use Rattle.indexset_core.specs.Nodes.{node_at}

module _ {T : Type 0} where
  -- the node at index j and the next one hold at most h items together
  abbrev pub are_small : ℕ → List (List T) → ℕ → Bool
  are_small h ns j =
      nat_lt (j + 1) (length ns) && nat_le (length (node_at ns j) + length (node_at ns (j + 1))) h

  -- the first of the two nodes to merge after the node at index k lost an item: that node and the
  -- next one, else the node before and that node, if they are small
  abbrev pub merge_place : ℕ → List (List T) → ℕ → Option ℕ
  merge_place h ns k =
      if are_small h ns k then Some k else if nat_lt 0 k && are_small h ns (k - 1) then Some (k - 1)
      else None

  -- the nodes after the node at index j was merged with the next one
  abbrev pub with_merged : List (List T) → ℕ → List (List T)
  with_merged ns j = splice ns j (j + 2) ((node_at ns j ++ node_at ns (j + 1)) ∷ [])

  -- the nodes without the item at offset i of the node at index k, and without that node if it is
  -- then empty
  abbrev pub item_removed : List (List T) → ℕ → ℕ → List (List T)
  item_removed ns k i =
      if length (node_at ns k) == 1 then remove ns k else set ns k (remove (node_at ns k) i)

  -- the first of the two nodes to merge after that removal, if any; no nodes are merged if the node
  -- was removed
  abbrev pub merge_after : ℕ → List (List T) → ℕ → ℕ → Option ℕ
  merge_after size ns k i =
      if length (node_at ns k) == 1 then None else merge_place (size / 2) (item_removed ns k i) k

  -- any two neighbours hold more than h items together
  abbrev pub IsDense : ℕ → List (List T) → Type 0
  IsDense h ns =
      (j : ℕ) → j + 1 < length ns → h < length (node_at ns j) + length (node_at ns (j + 1))
