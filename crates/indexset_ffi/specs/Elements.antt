-- The contents of a handle, and the slice of a caller after a call.
use Rattle.std.specs.Prelude.{ℕ, List, [], ◌∷◌, ◌++◌, Option, take}
use Rattle.std.specs.Prelude.{drop, slice_get, slice_index_or, count_by}
use Rattle.std.specs.Option.{option_map, option_map_or, unwrap_or}
use Rattle.std.specs.Ordering.{is_le, nat_cmp}
use Rattle.std.specs.declared.cmp.Ordering.{Ordering}
use Rattle.indexset_core.specs.declared.constants.TheConstants.{DEFAULT_INNER_SIZE}
use Rattle.indexset_core.specs.declared.multipair.MultiPair.{MultiPair}
use Rattle.indexset_core.specs.declared.pair.Pair.{Pair}
use Rattle.indexset_core.specs.Nodes.{concat, node_lengths}
use Rattle.indexset_core.specs.Pairs.{entry_of, pair_values, put_value, value_of}
use Rattle.indexset_spine.specs.NodeList.{NodeList, items}
use Rattle.indexset_map.specs.Contents.{Contents}
use Rattle.indexset_log.specs.Tree.{Tree}
use Rattle.indexset_multi.specs.Keys.{entries, pairs_of}
use Rattle.indexset_multi.specs.Tree.{MultiTree}

-- the elements in order; an empty handle has none
abbrev pub elements : Option (NodeList ℕ) → List ℕ
elements set = option_map_or items set []

-- the number of elements of each node
abbrev pub set_lengths : Option (NodeList ℕ) → List ℕ
set_lengths set = option_map_or (λ s. node_lengths s.nodes) set []

-- the slice after its first n elements are replaced by the first n answers
abbrev pub written : {X : Type 0} → ℕ → List X → List X → List X
written n answers before = take n answers ++ drop n before

-- the element at a position, or 0 if there is none
abbrev pub element_at : List ℕ → ℕ → ℕ
element_at es i = slice_index_or es i 0

-- the number of elements, or of keys, that are at most v
abbrev pub count_up_to : {T : Type 0} → (T → T → Ordering) → List T → T → ℕ
count_up_to cmp l v = count_by (λ x. is_le (cmp x v)) l

abbrev pub key_count_up_to : {K V : Type 0} → (K → K → Ordering) → List (Pair K V) → K → ℕ
key_count_up_to cmp l k = count_by (λ p. is_le (cmp p.key k)) l

-- the pairs in order; an empty handle has none
abbrev pub pairs : Option (Contents ℕ ℕ) → List (Pair ℕ ℕ)
pairs map = option_map_or (λ m. m.pairs) map []

-- the number of pairs of each node
abbrev pub map_lengths : Option (Contents ℕ ℕ) → List ℕ
map_lengths map = option_map_or (λ m. m.lengths) map []

-- the key and the value at a position, if any
abbrev pub entry_at : List (Pair ℕ ℕ) → ℕ → Option (ℕ × ℕ)
entry_at ps i = option_map entry_of (slice_get ps i)

-- the pairs after each key and value is put, in order
unfoldable pub put_in_turn : List (Pair ℕ ℕ) → List ℕ → List ℕ → List (Pair ℕ ℕ)
put_in_turn ps [] ws = ps
put_in_turn ps (k ∷ ks) [] = ps
put_in_turn ps (k ∷ ks) (w ∷ ws) = put_in_turn (put_value nat_cmp ps k w) ks ws

-- the value of a key, or w if the key is absent
abbrev pub value_or : List (Pair ℕ ℕ) → ℕ → ℕ → ℕ
value_or ps w k = unwrap_or (value_of nat_cmp ps k) w

-- the numbered pairs in order; an empty handle has none
abbrev pub numbered_pairs : Option (MultiTree ℕ ℕ) → List (MultiPair ℕ ℕ)
numbered_pairs multi = option_map_or (λ m. concat m.nodes) multi []

-- the number of pairs of each node
abbrev pub multi_lengths : Option (MultiTree ℕ ℕ) → List ℕ
multi_lengths multi = option_map_or (λ m. node_lengths m.nodes) multi []

-- a new multimap
abbrev pub fresh_multi : MultiTree ℕ ℕ
fresh_multi = record { nodes = []; size = DEFAULT_INNER_SIZE; next = 0; pair_next = 0 }

-- the values of a key, in insertion order
abbrev pub key_values : List (MultiPair ℕ ℕ) → ℕ → List ℕ
key_values l k = pair_values (entries (pairs_of nat_cmp l k))

-- the nodes of a logged map, and its pairs in order; an empty handle has none
abbrev pub logged_nodes : Option (Tree (Pair ℕ ℕ)) → List (List (Pair ℕ ℕ))
logged_nodes log = option_map_or (λ m. m.nodes) log []

abbrev pub logged_pairs : Option (Tree (Pair ℕ ℕ)) → List (Pair ℕ ℕ)
logged_pairs log = concat (logged_nodes log)
