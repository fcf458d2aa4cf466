-- The words of a map's calls, by key.
use Rattle.std.specs.Prelude.{◌≡◌, List, false}
use Rattle.std.specs.Ordering.{is_eq}
use Rattle.std.specs.declared.cmp.Ordering.{Ordering}
use Rattle.indexset_core.specs.declared.pair.Pair.{Pair}
use Rattle.indexset_core.specs.Nodes.{concat}
use Rattle.indexset_core.specs.Pairs.{value_of}
use Rattle.indexset_log.specs.Edits.{after_removal}
use Rattle.indexset_log.specs.Tree.{Tree}

module _ {K V : Type 0} where
  -- the tree after the removal of the pair of the key, if any
  abbrev pub after_key_removal : {Q : Type 0} → (K → Q → Ordering) → Tree (Pair K V) → Q
      → Tree (Pair K V)
  after_key_removal cmp t k = after_removal (λ p q. cmp p.key q) t k

  -- each key that `order` does not find Equal to k has the same value in the nodes `after` as in
  -- the nodes `before`
  abbrev pub KeepsOthers : {Q : Type 0} → (K → K → Ordering) → (K → Q → Ordering)
      → List (List (Pair K V)) → List (List (Pair K V)) → Q → Type 0
  KeepsOthers cmp order before after k =
      (other : K) → is_eq (order other k) ≡ false
      → value_of cmp (concat after) other ≡ value_of cmp (concat before) other
