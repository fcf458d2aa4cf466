-- Cursors: their positions, for any numbers, and the items after them.
use Rattle.std.specs.Prelude.{ℕ, ◌+◌, List, Option, drop, get_or, min, sum, take}
use Rattle.indexset_core.specs.declared.multipair.MultiPair.{MultiPair}
use Rattle.indexset_core.specs.declared.pair.Pair.{Pair}
use Rattle.indexset_core.specs.Nodes.{node_lengths}
use Rattle.indexset_spine.specs.NodeList.{NodeList}
use Rattle.indexset_map.specs.Contents.{Contents}
use Rattle.indexset_log.specs.Tree.{Tree}
use Rattle.indexset_multi.specs.Tree.{MultiTree}
use Rattle.indexset_replica.specs.Replica.{ReplicaState}
use Rattle.indexset_ffi.specs.declared.cursor.Cursor.{Cursor}
use Rattle.indexset_ffi.specs.Elements.{elements, logged_nodes, logged_pairs, map_lengths}
use Rattle.indexset_ffi.specs.Elements.{multi_lengths, numbered_pairs, pairs, set_lengths}
use Rattle.indexset_ffi.specs.Replicas.{copied_nodes, copied_pairs}
use Rattle.indexset_ffi.specs.Text.{text_lengths, text_pairs}
use Rattle.indexset_ffi.specs.TextLogs.{TextPair, ToldTree, logged_lengths, logged_texts}

-- the number of items before a cursor, in nodes of these lengths: an offset past the end of its
-- node is that end, and an index past the last node is the end of all
abbrev pub cursor_position : List ℕ → Cursor → ℕ
cursor_position lengths c = sum (take c.node lengths) + min c.offset (get_or lengths c.node 0)

-- the items from a cursor on, in nodes of these lengths
abbrev pub items_from : {X : Type 0} → List ℕ → Cursor → List X → List X
items_from lengths c items = drop (cursor_position lengths c) items

-- the items from a cursor on, in the collection of a handle
abbrev pub set_from : Option (NodeList ℕ) → Cursor → List ℕ
set_from set c = items_from (set_lengths set) c (elements set)

abbrev pub map_from : Option (Contents ℕ ℕ) → Cursor → List (Pair ℕ ℕ)
map_from map c = items_from (map_lengths map) c (pairs map)

abbrev pub multi_from : Option (MultiTree ℕ ℕ) → Cursor → List (MultiPair ℕ ℕ)
multi_from multi c = items_from (multi_lengths multi) c (numbered_pairs multi)

abbrev pub log_from : Option (Tree (Pair ℕ ℕ)) → Cursor → List (Pair ℕ ℕ)
log_from log c = items_from (node_lengths (logged_nodes log)) c (logged_pairs log)

abbrev pub replica_from : Option (ReplicaState (Pair ℕ ℕ)) → Cursor → List (Pair ℕ ℕ)
replica_from replica c = items_from (node_lengths (copied_nodes replica)) c (copied_pairs replica)

abbrev pub text_from : Option (Contents (List ℕ) ℕ) → Cursor → List TextPair
text_from map c = items_from (text_lengths map) c (text_pairs map)

abbrev pub text_log_from : Option ToldTree → Cursor → List TextPair
text_log_from log c = items_from (logged_lengths log) c (logged_texts log)
