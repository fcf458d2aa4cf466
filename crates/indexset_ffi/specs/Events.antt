-- Events of a logged map, and their records.
use Rattle.std.specs.Prelude.{◌≡◌, ℕ, ◌==◌, if◌then◌else◌, length, List, map, Option, Some, None}
use Rattle.std.specs.Option.{option_map}
use Rattle.indexset_core.specs.declared.pair.Pair.{Pair}
use Rattle.indexset_core.specs.Pairs.{pair}
use Rattle.indexset_events.specs.declared.change.ChangeEvent.{ChangeEvent}
use Rattle.indexset_events.specs.declared.change.ChangeEvent.TheVariants.{
  InsertAt,
  RemoveAt,
  CreateNode,
  RemoveNode,
  SplitNode,
  MergeNodes,
}
use Rattle.indexset_events.specs.declared.change.ChangeEventUnassigned.{ChangeEventUnassigned}
use Rattle.indexset_events.specs.declared.change.ChangeEventUnassigned.TheVariants as plain
use Rattle.indexset_events.specs.Replay.{assigned, numbered_from}
use Rattle.indexset_log.specs.Tree.{Tree}
use Rattle.indexset_ffi.specs.declared.event.Event.{Event}
use Rattle.indexset_ffi.specs.Elements.{written}
use Rattle.indexset_ffi.specs.declared.event.TheConstants.{INSERT, REMOVE, CREATE}
use Rattle.indexset_ffi.specs.declared.event.TheConstants.{DROP, SPLIT, MERGE}

-- the record of this kind
abbrev pub record_with : ℕ → ℕ → Pair ℕ ℕ → Pair ℕ ℕ → ℕ → Event
record_with number kind node p index = record {
  number = number;
  node_key = node.key;
  node_value = node.value;
  key = p.key;
  value = p.value;
  index = index;
  kind = kind;
}

-- the record of an event
abbrev pub record_of : ChangeEvent (Pair ℕ ℕ) → Event
record_of (InsertAt id m v i) = record_with id.0 INSERT m v i
record_of (RemoveAt id m v i) = record_with id.0 REMOVE m v i
record_of (CreateNode id m) = record_with id.0 CREATE m (pair 0 0) 0
record_of (RemoveNode id m) = record_with id.0 DROP m (pair 0 0) 0
record_of (SplitNode id m k) = record_with id.0 SPLIT m (pair 0 0) k
record_of (MergeNodes id m w) = record_with id.0 MERGE m w 0

-- the event of a record, without its number; none if the kind is unknown
unfoldable pub unnumbered : Event → Option (ChangeEventUnassigned (Pair ℕ ℕ))
unnumbered r =
    let m = pair r.node_key r.node_value in let p = pair r.key r.value in
    if r.kind == INSERT then Some (plain.InsertAt m p r.index)
    else if r.kind == REMOVE then Some (plain.RemoveAt m p r.index)
    else if r.kind == CREATE then Some (plain.CreateNode m)
    else if r.kind == DROP then Some (plain.RemoveNode m)
    else if r.kind == SPLIT then Some (plain.SplitNode m r.index)
    else if r.kind == MERGE then Some (plain.MergeNodes m p)
    else None

-- the event of a record
abbrev pub event_of : Event → Option (ChangeEvent (Pair ℕ ℕ))
event_of r = option_map (assigned r.number) (unnumbered r)

-- the events of a change of the map m were written to the first elements of a slice, and their
-- number is right
pub record IsWritten (m : Tree (Pair ℕ ℕ)) (made : List (ChangeEventUnassigned (Pair ℕ ℕ)))
    (count : ℕ) (before after : List Event) : Type 0 where
  pub told : count ≡ length made
  pub events : after ≡ written count (map record_of (numbered_from m.next made)) before
