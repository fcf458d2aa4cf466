-- A logged tree after commands, by replaying their events.
use Rattle.std.specs.Prelude.{ℕ, ◌+◌, List, [], ◌∷◌, ◌++◌, length, unwrap_or}
use Rattle.std.specs.declared.cmp.Ordering.{Ordering}
use Rattle.indexset_events.specs.Replay.{replay, numbered_from}
use Rattle.indexset_log.specs.Tree.{Tree}
use Rattle.indexset_events.specs.declared.change.ChangeEventUnassigned.{ChangeEventUnassigned}

-- the nodes after the events, numbered from s on
abbrev pub nodes_after : {T : Type 0} → (T → T → Ordering) → List (List T) → ℕ
    → List (ChangeEventUnassigned T) → List (List T)
nodes_after cmp ns s es = unwrap_or (replay cmp ns (numbered_from s es)) ns

-- the tree after a change that emits these events
abbrev pub tree_after : {T : Type 0} → (T → T → Ordering) → Tree T
    → List (ChangeEventUnassigned T) → Tree T
tree_after cmp t es = record {
  nodes = nodes_after cmp t.nodes t.next es;
  size = t.size;
  next = t.next + length es;
}

-- the events of the commands in order, where `left` is the tree after a command
abbrev pub events_in_turn : {S C E : Type 0} → (S → C → S) → (S → C → List E) → S → List C → List E
events_in_turn left events t [] = []
events_in_turn left events t (c ∷ cs) = events t c ++ events_in_turn left events (left t c) cs
