-- Places in a list of nodes, and the result of a search.
use Rattle.std.specs.Prelude.{ℕ, ◌+◌, ◌<◌, ◌≤◌, max, length, List}
use Rattle.std.specs.Prelude.{take, Result, Ok, Err, if◌then◌else◌}
use Rattle.std.specs.declared.cmp.Ordering.{Ordering}
use Rattle.indexset_core.specs.Nodes.{concat, node_at, node_for, equal_at}
use Rattle.indexset_core.specs.Parted.{less_count}

module _ {T : Type 0} where
  -- the node exists, and the offset is at most its length; (0, 0) if there are no nodes
  pub record IsPlace (ns : List (List T)) (p : ℕ × ℕ) : Type 0 where
    pub node_in : p.0 < max 1 (length ns)
    pub offset_in : p.1 ≤ length (node_at ns p.0)

  -- how many items are before the place
  abbrev pub items_before : List (List T) → ℕ × ℕ → ℕ
  items_before ns p = length (concat (take p.0 ns)) + p.1

  -- the node and the offset of the first item that does not compare Less, and whether it compares
  -- Equal; the place after all items is in the last node
  abbrev pub located : (T → Ordering) → List (List T) → Result (ℕ × ℕ) (ℕ × ℕ)
  located answer ns =
      let node = node_for answer ns in
      let offset = less_count answer (node_at ns node) in
      if equal_at answer (node_at ns node) offset then Ok (node, offset) else Err (node, offset)
