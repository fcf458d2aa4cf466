-- A copy of the set of its pairs is a copy of the map.
use Rattle.std.proofs.Common.{◌≡◌, Ordering, refl}
use Rattle.indexset_core.specs.declared.pair.Pair.{Pair}
use Rattle.indexset_core.specs.Nodes.{concat, node_lengths}
use Rattle.indexset_core.specs.Pairs.{by_key}
use Rattle.indexset_spine.specs.NodeList.{NodeList}
use Rattle.indexset_spine.proofs.CallerLemmas.{copies_joined, copies_lengths}
use Rattle.indexset_set.specs.SetCopy.{IsSetCopy}
use Rattle.indexset_map.specs.Contents.{contents}
use Rattle.indexset_map.specs.Copy.{IsMapCopy, IsPairClone}

module _ {K V : Type 0} (C : K → K → Type 0) (D : V → V → Type 0) (cmp : K → K → Ordering) where
  pub map_copied : (s copy : NodeList (Pair K V)) → IsSetCopy (by_key cmp) (IsPairClone C D) s copy → IsMapCopy C D cmp (contents s) (contents copy)
  map_copied s copy is =
      let lengths : node_lengths is.clones ≡ node_lengths s.nodes = copies_lengths (IsPairClone C D) s.nodes is.clones is.cloned in
      record {
        clones = concat is.clones;
        cloned = copies_joined (IsPairClone C D) s.nodes is.clones is.cloned;
        in_place = λ up. rw (is.in_place up, lengths, is.size) refl;
        in_turn = λ other. rw (is.in_turn other, is.size) refl;
        pairs = is.elements;
        size = is.size;
      }
