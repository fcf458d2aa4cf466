-- The nodes of a spine as the code stores them.
use Rattle.std.proofs.Common.{◌≡◌, ℕ, ◌+◌, ◌<◌, List, length, take, get_or, slice_set, slice_get, Some}
use Rattle.std.specs.List.{splice}
use Rattle.std.specs.declared.vec.Vec.{Vec}
use Rattle.indexset_core.specs.Nodes.{concat, vec_items}
use Rattle.indexset_core.proofs.CallerLemmas as nodes

module _ {X Z : Type 0} where
  pub length-vec_items : (vs : List (Vec X Z)) → length (vec_items vs) ≡ length vs
  length-vec_items = nodes.length-held (λ v. v.items)

  pub vec_items-set : (vs : List (Vec X Z)) (k : ℕ) (v : Vec X Z) → vec_items (slice_set vs k v) ≡ slice_set (vec_items vs) k v.items
  vec_items-set = nodes.held-set (λ v. v.items)

  pub vec_items-splice : (vs ws : List (Vec X Z)) (i j : ℕ) → vec_items (splice vs i j ws) ≡ splice (vec_items vs) i j (vec_items ws)
  vec_items-splice = nodes.held-splice (λ v. v.items)

  pub node_read : (vs : List (Vec X Z)) (k : ℕ) (v : Vec X Z) → k < length vs → v ≡ get_or vs k v → (d : List X) → get_or (vec_items vs) k d ≡ v.items
  node_read = nodes.node_read (λ v. v.items)

  pub more_read : (vs : List (Vec X Z)) (k : ℕ) (v : Vec X Z) → k < length vs → v ≡ get_or vs k v
      → length (concat (take (k + 1) (vec_items vs))) ≡ length (concat (take k (vec_items vs))) + length v.items
  more_read = nodes.more_read (λ v. v.items)

  pub item_read : (vs : List (Vec X Z)) (k o : ℕ) (v : Vec X Z) (x : X) → k < length vs → o < length v.items
      → v ≡ get_or vs k v → x ≡ get_or v.items o x
      → slice_get (concat (vec_items vs)) (length (concat (take k (vec_items vs))) + o) ≡ Some x
  item_read = nodes.item_read (λ v. v.items)
