-- The model of a map: its pairs in order, the lengths of its nodes, and the node size.
use Rattle.std.specs.Prelude.{◌≡◌, ℕ, List, [], ◌∷◌, map, refl, if◌then◌else◌}
use Rattle.std.specs.Prelude.{length, remove, slice_get, slice_set, take, drop}
use Rattle.std.specs.Coded.{Coded, code_by, coded×, coded_ℕ, coded_list}
use Rattle.std.specs.List.{fold}
use Rattle.std.specs.Option.{option_map_or}
use Rattle.std.proofs.Common.{ap, Some, None, length-set}
use Rattle.std.specs.declared.cmp.Ordering.{Ordering}
use Rattle.indexset_core.specs.declared.pair.Pair.{Pair}
use Rattle.indexset_core.specs.Nodes.{node_lengths}
use Rattle.indexset_spine.specs.NodeList.{NodeList, node_list, items}
use Rattle.indexset_core.specs.Pairs.{by_key, pair, entry_of, valued, has_key, key_rank}
use Rattle.indexset_core.specs.Pairs.{set_value_at, set_value, put_value, without_key}
use Rattle.indexset_spine.specs.Lengths.{lengths_with, lengths_without}
use Rattle.indexset_set.specs.SetNodes.{nodes_put_all}

pub record Contents (K V : Type 0) : Type 0 where
  pub pairs : List (Pair K V)
  pub lengths : List ℕ
  pub size : ℕ

-- the list, partitioned into parts of these lengths
unfoldable pub parts : {X : Type 0} → List ℕ → List X → List (List X)
parts [] l = []
parts (n ∷ ns) l = take n l ∷ parts ns (drop n l)

module _ {K V : Type 0} where
  -- the map of a set of pairs
  abbrev pub contents : NodeList (Pair K V) → Contents K V
  contents s = record { pairs = items s; lengths = node_lengths s.nodes; size = s.size }

  -- the set that holds the pairs of a map
  abbrev pub set_of : Contents K V → NodeList (Pair K V)
  set_of m = node_list (parts m.lengths m.pairs) m.size

  -- no pairs, in one empty node
  abbrev pub no_pairs : ℕ → Contents K V
  no_pairs size = record { pairs = []; lengths = 0 ∷ []; size = size }

  -- the map with other pairs in nodes of the same lengths
  abbrev pub with_pairs : Contents K V → List (Pair K V) → Contents K V
  with_pairs m l = record { pairs = l; lengths = m.lengths; size = m.size }

  -- the map with w as the value at the position
  abbrev pub with_written : Contents K V → ℕ → V → Contents K V
  with_written m i w = with_pairs m (set_value_at m.pairs i w)

  -- the map without the pair at the position
  abbrev pub without_at : Contents K V → ℕ → Contents K V
  without_at m i = record {
    pairs = remove m.pairs i;
    lengths = lengths_without m.lengths i;
    size = m.size;
  }

  module _ {Q : Type 0} (cmp : K → Q → Ordering) where
    -- the map with w as the value of the key, if the key is present
    abbrev pub with_value : Contents K V → Q → V → Contents K V
    with_value m k w = with_pairs m (set_value cmp m.pairs k w)

    -- the map without the pair of the key
    abbrev pub without_entry : Contents K V → Q → Contents K V
    without_entry m k = record {
      pairs = without_key cmp m.pairs k;
      lengths =
          if has_key cmp m.pairs k then lengths_without m.lengths (key_rank cmp m.pairs k)
          else m.lengths;
      size = m.size;
    }

  module _ (cmp : K → K → Ordering) where
    -- the map with w as the value of the key, which is inserted if absent
    abbrev pub with_entry : Contents K V → K → V → Contents K V
    with_entry m k w = record {
      pairs = put_value cmp m.pairs k w;
      lengths =
          if has_key cmp m.pairs k then m.lengths
          else lengths_with m.size m.lengths (key_rank cmp m.pairs k);
      size = m.size;
    }

    -- the map after the insertion of the entries in order
    abbrev pub with_all : Contents K V → List (K × V) → Contents K V
    with_all m entries = fold (λ n e. with_entry n e.0 e.1) m entries

    -- the map after the insertion of the pairs ps in order, replacing pairs of equal keys
    abbrev pub with_pairs_put : Contents K V → List (Pair K V) → Contents K V
    with_pairs_put m ps = contents (node_list (nodes_put_all (by_key cmp) (set_of m) ps) m.size)

    -- n is the map m after the insertion of a prefix of ps in order, and rest has the other pairs
    abbrev pub PutsPairPrefix : Contents K V → List (Pair K V) → Contents K V → List (Pair K V)
        → Type 0
    PutsPairPrefix m ps n rest = (k : ℕ) × (n ≡ with_pairs_put m (take k ps)) × (rest ≡ drop k ps)

  pub pairs_back : (l : List (Pair K V)) → map (λ e. pair e.0 e.1) (map entry_of l) ≡ l
  pairs_back [] = refl
  pairs_back (p ∷ l) = ap (λ t. p ∷ t) (pairs_back l)

  abbrev pub pairs_code : Coded K → Coded V → Coded (List (Pair K V))
  pairs_code k v =
      code_by (List (K × V)) (coded_list (coded× k v)) (λ l. map entry_of l)
      (λ e. map (λ t. pair t.0 t.1) e) pairs_back

  abbrev pub contents_code : Coded K → Coded V → Coded (Contents K V)
  contents_code k v =
      code_by (List (K × V) × (List ℕ × ℕ))
      (coded× (coded_list (coded× k v)) (coded× (coded_list coded_ℕ) coded_ℕ))
      (λ m. (map entry_of m.pairs, (m.lengths, m.size)))
      (λ e. record { pairs = map (λ t. pair t.0 t.1) e.0; lengths = e.1.0; size = e.1.1 })
      (λ m. ap (λ l. with_pairs m l) (pairs_back m.pairs))

  pub length-with_written : (l : List (Pair K V)) (i : ℕ) (w : V)
      → length (set_value_at l i w) ≡ length l
  length-with_written l i w =
      elim (slice_get l i)
      as (λ o. length (option_map_or (λ p. slice_set l i (valued p w)) o l) ≡ length l) [
        | Some p ↦ length-set l i (valued p w)
        | None ↦ refl
      ]
