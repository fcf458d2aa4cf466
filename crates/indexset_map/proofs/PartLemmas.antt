-- The set of a map's pairs, from the pairs and the lengths of the nodes.
use Rattle.std.proofs.Common.{◌≡◌, List, [], ◌∷◌, length, take, Ordering, refl, ap, sym, ◌∙◌}
use Rattle.std.proofs.lemmas.List.{drop_at, take_at}
use Rattle.indexset_core.specs.declared.pair.Pair.{Pair}
use Rattle.indexset_core.specs.Nodes.{concat, node_lengths}
use Rattle.indexset_core.specs.Pairs.{by_key}
use Rattle.indexset_spine.specs.NodeList.{NodeList, node_list}
use Rattle.indexset_set.specs.SetNodes.{nodes_put_all, PutsPrefix}
use Rattle.indexset_map.specs.Contents.{Contents, contents, parts, set_of, with_pairs_put, PutsPairPrefix}

parted_back : {X : Type 0} (ns : List (List X)) → parts (node_lengths ns) (concat ns) ≡ ns
unfolding parts
parted_back [] = refl
parted_back (n ∷ ns) = rw (take_at n (concat ns) (length n) refl, drop_at n (concat ns) (length n) refl) (ap (λ t. n ∷ t) (parted_back ns))

-- the set is recovered from its pairs and lengths
pub set_seen : {K V : Type 0} (s : NodeList (Pair K V)) → set_of (contents s) ≡ s
set_seen s = ap (λ ns. node_list ns s.size) (parted_back s.nodes)

-- pairs inserted into the set s of a map m are inserted into the map
module _ {K V : Type 0} (cmp : K → K → Ordering) (s t : NodeList (Pair K V)) (m : Contents K V) (e : contents s ≡ m) (sizes : t.size ≡ s.size) where
  pub all_put : (ps : List (Pair K V)) → t.nodes ≡ nodes_put_all (by_key cmp) s ps → contents t ≡ with_pairs_put cmp m ps
  all_put ps nodes =
      ap (λ ns. contents (node_list ns t.size)) nodes
      ∙ (ap (λ n. contents (node_list (nodes_put_all (by_key cmp) s ps) n)) sizes
      ∙ (ap (λ (q : NodeList (Pair K V)). contents (node_list (nodes_put_all (by_key cmp) q ps) q.size)) (sym (set_seen s))
      ∙ ap (λ (n : Contents K V). with_pairs_put cmp n ps) e))

  pub some_put : (ps rest : List (Pair K V)) → PutsPrefix (by_key cmp) s ps t.nodes rest → PutsPairPrefix cmp m ps (contents t) rest
  some_put ps rest puts = (puts.0, all_put (take puts.0 ps) puts.1, puts.2)
