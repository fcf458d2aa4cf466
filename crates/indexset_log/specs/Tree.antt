-- The model of a logged tree.
use Rattle.std.specs.Prelude.{◌≡◌, ℕ, ◌+◌, ◌≤◌, length, List, [], if◌then◌else◌, nat_lt}
use Rattle.std.below.core.specs.declared.int.u64.TheConstants.{MAX}
use Rattle.indexset_core.specs.declared.refusal.Refusal.{Refusal}
use Rattle.indexset_core.specs.declared.refusal.Refusal.TheVariants.{Memory, Numbers}
use Rattle.std.specs.declared.cmp.Ordering.{Ordering}
use Rattle.indexset_core.specs.Nodes.{concat, node_lengths, IsLawful}
use Rattle.indexset_index.specs.Blocks.{block_sums}

-- the nodes, the node size, and the number of the next event
pub record Tree (T : Type 0) : Type 0 where
  pub nodes : List (List T)
  pub size : ℕ
  pub next : ℕ

-- an empty tree, with events numbered from 0
abbrev pub fresh : {T : Type 0} → ℕ → Tree T
fresh size = record { nodes = []; size = size; next = 0 }

-- the invariant of a tree, where `most` is the limit of the node type and `len` the number of items
pub record IsTree {T : Type 0} (cmp : T → T → Ordering) (most : ℕ) (nodes : List (List T))
    (size len : ℕ) : Type 0 where
  pub lawful : IsLawful cmp size nodes
  pub two : 2 ≤ size
  pub within : size ≤ most
  pub counted : len ≡ length (concat nodes)

-- the same, with the sums of the index
pub record IsIndexedTree {T : Type 0} (cmp : T → T → Ordering) (most : ℕ)
    (nodes : List (List T)) (size len : ℕ) (index : List ℕ) : Type 0 where
  pub tree : IsTree cmp most nodes size len
  pub index_is : index ≡ block_sums (node_lengths nodes)

-- the error of a failed call with `count` events: `Numbers` if they do not fit the counter, else
-- `Memory`
abbrev pub refusal_for : ℕ → ℕ → Refusal
refusal_for next count = if nat_lt MAX (next + count) then Numbers else Memory
