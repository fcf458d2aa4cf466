-- Copies of a set, which hold clones of its elements.
use Rattle.indexset_core.specs.Clones.{AreIdentical}
use Rattle.std.specs.Prelude.{◌≡◌, ℕ, List, [], ◌∷◌}
use Rattle.std.specs.List.{AllZip, fold}
use Rattle.std.specs.declared.cmp.Ordering.{Ordering}
use Rattle.std.specs.declared.cmp.Ordering.TheVariants.{Equal}
use Rattle.indexset_core.specs.Nodes.{concat}
use Rattle.indexset_core.specs.Order.{IsAscending, keep}
use Rattle.indexset_spine.specs.NodeList.{NodeList, node_list, items}
use Rattle.indexset_set.specs.SetNodes.{nodes_kept_all}

-- clones that ascend are in nodes of the lengths of their sources' nodes; others are inserted one
-- by one, unless an equal one is present
pub record IsSetCopy {T : Type 0} (cmp : T → T → Ordering) (C : T → T → Type 0)
    (s copy : NodeList T) : Type 0 where
  pub clones : List (List T)
  pub cloned : AllZip (AllZip C) s.nodes clones
  pub in_place : IsAscending cmp (concat clones) → copy.nodes ≡ clones
  pub in_turn : (IsAscending cmp (concat clones) → ⊥)
      → copy.nodes ≡ nodes_kept_all cmp (node_list ([] ∷ []) s.size) (concat clones)
  pub elements : items copy ≡ fold (keep cmp) [] (concat clones)
  pub size : copy.size ≡ s.size

-- a copy with a clone of each element in its place if clones are equal to their sources, and the
-- identical set if they are identical to them
pub record IsSetClone {T : Type 0} (cmp : T → T → Ordering) (C : T → T → Type 0)
    (s copy : NodeList T) : Type 0 where
  pub copied : IsSetCopy cmp C s copy
  pub cloned : ((x y : T) → C x y → cmp x y ≡ Equal) → AllZip (AllZip C) s.nodes copy.nodes
  pub ok : AreIdentical C → copy ≡ s

-- a set of clones of xs, inserted in order unless an equal one is present; its elements are xs if
-- clones are identical to their sources
pub record IsSetOf {T : Type 0} (cmp : T → T → Ordering) (C : T → T → Type 0) (xs : List T)
    (node_size : ℕ) (s : NodeList T) : Type 0 where
  pub clones : List T
  pub cloned : AllZip C xs clones
  pub elements : items s ≡ fold (keep cmp) [] clones
  pub nodes : s.nodes ≡ nodes_kept_all cmp (node_list ([] ∷ []) node_size) clones
  pub same : AreIdentical C → items s ≡ xs
  pub size : s.size ≡ node_size
