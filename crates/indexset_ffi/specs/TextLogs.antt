-- Logged maps from byte strings, their events, and the records of events.
use Rattle.std.specs.Prelude.{ℕ, List, [], length, Option, Some, None}
use Rattle.std.specs.Option.{option_map, option_map_or}
use Rattle.indexset_core.specs.declared.pair.Pair.{Pair}
use Rattle.indexset_core.specs.Nodes.{concat, node_lengths}
use Rattle.indexset_events.specs.declared.change.ChangeEvent.{ChangeEvent}
use Rattle.indexset_events.specs.declared.change.ChangeEvent.TheVariants.{
  InsertAt,
  RemoveAt,
  CreateNode,
  RemoveNode,
  SplitNode,
  MergeNodes,
}
use Rattle.indexset_events.specs.Replay.{event_number, numbered_from}
use Rattle.indexset_log.specs.Changed.{Change}
use Rattle.indexset_log.specs.Tree.{Tree}
use Rattle.indexset_ffi.specs.declared.event.TheConstants.{INSERT, REMOVE, CREATE}
use Rattle.indexset_ffi.specs.declared.event.TheConstants.{DROP, SPLIT, MERGE}
use Rattle.indexset_ffi.specs.declared.text_event.TextEvent.{TextEvent}

-- a pair of a byte string and a number
abbrev pub TextPair : Type 0
TextPair = Pair (List ℕ) ℕ

-- the map, and the events of the last call that had any
pub record ToldTree : Type 0 where
  pub tree : Tree TextPair
  pub told : List (ChangeEvent TextPair)

-- an empty map, without events
abbrev pub untold : ℕ → ℕ → ToldTree
untold size next = record { tree = record { nodes = []; size = size; next = next }; told = [] }

-- the map after a change, with the events of the change
abbrev pub after : Tree TextPair → Change TextPair → ToldTree
after before made = record { tree = made.tree; told = numbered_from before.next made.events }

-- the pairs in order, the number of pairs of each node, and the events that are kept; an empty
-- handle has none
abbrev pub logged_texts : Option ToldTree → List TextPair
logged_texts log = option_map_or (λ t. concat t.tree.nodes) log []

abbrev pub logged_lengths : Option ToldTree → List ℕ
logged_lengths log = option_map_or (λ t. node_lengths t.tree.nodes) log []

abbrev pub told_changes : Option ToldTree → List (ChangeEvent TextPair)
told_changes log = option_map_or (λ t. t.told) log []

-- the kind of an event
abbrev pub kind_of : ChangeEvent TextPair → ℕ
kind_of (InsertAt id m v i) = INSERT
kind_of (RemoveAt id m v i) = REMOVE
kind_of (CreateNode id m) = CREATE
kind_of (RemoveNode id m) = DROP
kind_of (SplitNode id m k) = SPLIT
kind_of (MergeNodes id m w) = MERGE

-- the pair that identifies the node
abbrev pub event_node : ChangeEvent TextPair → TextPair
event_node (InsertAt id m v i) = m
event_node (RemoveAt id m v i) = m
event_node (CreateNode id m) = m
event_node (RemoveNode id m) = m
event_node (SplitNode id m k) = m
event_node (MergeNodes id m w) = m

-- the key of that pair
abbrev pub node_key : ChangeEvent TextPair → List ℕ
node_key e = (event_node e).key

-- the pair that is inserted or removed, or that identifies the second node
abbrev pub event_pair : ChangeEvent TextPair → Option TextPair
event_pair (InsertAt id m v i) = Some v
event_pair (RemoveAt id m v i) = Some v
event_pair (CreateNode id m) = None
event_pair (RemoveNode id m) = None
event_pair (SplitNode id m k) = None
event_pair (MergeNodes id m w) = Some w

-- the index in the node
abbrev pub event_index : ChangeEvent TextPair → ℕ
event_index (InsertAt id m v i) = i
event_index (RemoveAt id m v i) = i
event_index (CreateNode id m) = 0
event_index (RemoveNode id m) = 0
event_index (SplitNode id m k) = k
event_index (MergeNodes id m w) = 0

-- the key of that pair, or no bytes if there is none
abbrev pub pair_key : ChangeEvent TextPair → List ℕ
pair_key e = option_map_or (λ p. p.key) (event_pair e) []

-- the record of an event
abbrev pub text_record : ChangeEvent TextPair → TextEvent
text_record e = record {
  number = event_number e;
  node_len = length (node_key e);
  node_value = (event_node e).value;
  key_len = length (pair_key e);
  value = option_map_or (λ p. p.value) (event_pair e) 0;
  index = event_index e;
  kind = kind_of e;
}
