-- The place where a search for an item ends.
use Rattle.std.specs.declared.cmp.Ordering.{Ordering}
use Rattle.indexset_core.specs.Order.{equal_element, IsFoundAt}
use Rattle.indexset_events.specs.Table.{target}
use Rattle.std.specs.Prelude.{◌≡◌, ℕ, ◌<◌, length, List, slice_get}
use Rattle.indexset_core.specs.Nodes.{concat, node_at}

-- the item equal to v is at offset i of the node at index k
pub record IsFoundIn {T Q : Type 0} (cmp : T → Q → Ordering) (ns : List (List T)) (v : Q)
    (k i : ℕ) : Type 0 where
  pub node_in : k < length ns
  pub node_is : k ≡ target cmp ns v
  pub here : IsFoundAt cmp (node_at ns k) v i
  pub item : slice_get (node_at ns k) i ≡ equal_element cmp (concat ns) v
