-- A value written into a set of pairs.
use Rattle.std.proofs.Common.{◌≡◌, ℕ, Some, None, Ordering, slice_get, refl, sym, subst}
use Rattle.std.specs.Option.{option_map_or}
use Rattle.std.specs.List.{slice_set}
use Rattle.indexset_core.specs.declared.pair.Pair.{Pair}
use Rattle.indexset_core.specs.Order.{IsAscending}
use Rattle.indexset_core.specs.Pairs.{by_key, valued, set_value_at}
use Rattle.indexset_core.proofs.CallerLemmas.{value_ascending}
use Rattle.indexset_spine.specs.NodeList.{NodeList, items, with_item_at}
use Rattle.indexset_spine.proofs.CallerLemmas.{concat-set}
use Rattle.indexset_set.specs.SetPairs.{with_value_at}

module _ {K V : Type 0} where
  -- the nodes are written as the list is
  pub items-with_value_at : (s : NodeList (Pair K V)) (i : ℕ) (w : V) → items (with_value_at s i w) ≡ set_value_at (items s) i w
  items-with_value_at s i w =
      elim (slice_get (items s) i)
      as (λ o. items (option_map_or (λ p. with_item_at s i (valued p w)) o s)
      ≡ option_map_or (λ p. slice_set (items s) i (valued p w)) o (items s)) [
        | Some p ↦ concat-set s.nodes i (valued p w)
        | None ↦ refl
      ]

  pub size-with_value_at : (s : NodeList (Pair K V)) (i : ℕ) (w : V) → (with_value_at s i w).size ≡ s.size
  size-with_value_at s i w = elim (slice_get (items s) i) as (λ o. (option_map_or (λ p. with_item_at s i (valued p w)) o s).size ≡ s.size) [
    | Some p ↦ refl
    | None ↦ refl
  ]

  pub nodes_ascending : (cmp : K → K → Ordering) (s : NodeList (Pair K V)) (i : ℕ) (p : Pair K V) (w : V)
      → slice_get (items s) i ≡ Some p → IsAscending (by_key cmp) (items s)
      → IsAscending (by_key cmp) (items (with_item_at s i (valued p w)))
  nodes_ascending cmp s i p w at up = subst (λ l. IsAscending (by_key cmp) l) (sym (concat-set s.nodes i (valued p w))) (value_ascending cmp (items s) i p w at up)
