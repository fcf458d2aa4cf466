-- A copy of a map: clones of its pairs, in the order of the cloned keys.
use Rattle.indexset_core.specs.Clones.{AreIdentical}
use Rattle.std.specs.Prelude.{◌≡◌, List, [], ◌∷◌}
use Rattle.std.specs.List.{AllZip, fold}
use Rattle.std.specs.declared.cmp.Ordering.{Ordering}
use Rattle.std.specs.declared.cmp.Ordering.TheVariants.{Equal}
use Rattle.indexset_core.specs.declared.pair.Pair.{Pair}
use Rattle.indexset_core.specs.Order.{IsAscending, keep}
use Rattle.indexset_core.specs.Pairs.{by_key}
use Rattle.indexset_spine.specs.NodeList.{node_list}
use Rattle.indexset_set.specs.SetNodes.{nodes_kept_all}
use Rattle.indexset_map.specs.Contents.{Contents, contents, with_pairs}

module _ {K V : Type 0} (C : K → K → Type 0) (D : V → V → Type 0) where
  -- a clone of the key with a clone of the value
  abbrev pub IsPairClone : Pair K V → Pair K V → Type 0
  IsPairClone p q = C p.key q.key × D p.value q.value

  -- if the clones of the keys ascend, the copy has the clones in nodes of the same lengths;
  -- otherwise they are inserted one by one, unless an equal key is present
  pub record IsMapCopy (cmp : K → K → Ordering) (m copy : Contents K V) : Type 0 where
    pub clones : List (Pair K V)
    pub cloned : AllZip IsPairClone m.pairs clones
    pub in_place : IsAscending (by_key cmp) clones → copy ≡ with_pairs m clones
    pub in_turn : (IsAscending (by_key cmp) clones → ⊥)
        → copy
        ≡ contents
        (node_list (nodes_kept_all (by_key cmp) (node_list ([] ∷ []) m.size) clones) m.size)
    pub pairs : copy.pairs ≡ fold (keep (by_key cmp)) [] clones
    pub size : copy.size ≡ m.size

  -- a copy that has a clone of each pair at its position if clones of keys are equal to their
  -- sources, and is identical to the map if clones are identical to their sources
  pub record IsMapClone (cmp : K → K → Ordering) (m copy : Contents K V) : Type 0 where
    pub copied : IsMapCopy cmp m copy
    pub cloned : ((x y : K) → C x y → cmp x y ≡ Equal) → AllZip IsPairClone m.pairs copy.pairs
    pub lengths : ((x y : K) → C x y → cmp x y ≡ Equal) → copy.lengths ≡ m.lengths
    pub ok : AreIdentical C → AreIdentical D → copy ≡ m
