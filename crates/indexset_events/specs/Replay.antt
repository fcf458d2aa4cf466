-- The effect of an event on a list of nodes.
use Rattle.std.specs.Prelude.{◌≡◌, ℕ, ◌+◌, ◌<◌, length, Bool, not, List, [], ◌∷◌, ◌&&◌}
use Rattle.std.specs.Prelude.{if◌then◌else◌, ltb, leb, ◌==◌, get_or, take, drop, insert, remove}
use Rattle.std.specs.Prelude.{position, Option, Some, None, option_map, option_and_then}
use Rattle.std.specs.declared.cmp.Ordering.{Ordering}
use Rattle.std.specs.Ordering.{is_eq}
use Rattle.std.specs.List.{position_or_len, HoldsAt, splice}
use Rattle.indexset_events.specs.declared.change.Id.{Id}
use Rattle.indexset_events.specs.declared.change.ChangeEvent.{ChangeEvent}
use Rattle.indexset_events.specs.declared.change.ChangeEvent.TheVariants as numbered
use Rattle.indexset_events.specs.declared.change.ChangeEventUnassigned.{ChangeEventUnassigned}
use Rattle.indexset_events.specs.declared.change.ChangeEventUnassigned.TheVariants as plain
use Rattle.indexset_core.specs.Nodes.{ends_less, node_at}
use Rattle.indexset_events.specs.Merging.{with_merged}
use Rattle.indexset_events.specs.Nodes.{is_filled, last_of, are_nodes}

-- the node's last item equals m
abbrev pub has_name : {T : Type 0} → (T → T → Ordering) → T → List T → Bool
has_name cmp m n = is_filled n && is_eq (cmp (last_of n m) m)

-- the index of the node whose last item equals m, if any
abbrev pub node_named : {T : Type 0} → (T → T → Ordering) → List (List T) → T → Option ℕ
node_named cmp ns m = position (has_name cmp m) ns

-- the nodes with the node named m replaced by the parts that f gives, if any
abbrev pub at_named : {T : Type 0} → (T → T → Ordering) → List (List T) → T
    → (List T → Option (List (List T))) → Option (List (List T))
at_named cmp ns m f =
    option_and_then (λ p. option_map (splice ns p (p + 1)) (f (node_at ns p))) (node_named cmp ns m)

-- the last item of the node is not below v
abbrev pub reaches : {T : Type 0} → (T → T → Ordering) → T → List T → Bool
reaches cmp v n = not (ends_less (λ x. cmp x v) n)

-- the nodes after the edit of an event, which need not be a node list, if the edit is possible
abbrev pub edit : {T : Type 0} → (T → T → Ordering) → List (List T) → ChangeEventUnassigned T
    → Option (List (List T))
edit cmp ns (plain.InsertAt m v i) =
    at_named cmp ns m (λ n. if leb i (length n) then Some (insert n i v ∷ []) else None)
edit cmp ns (plain.RemoveAt m v i) =
    at_named cmp ns m
    (λ n. if (leb 2 (length n) && ltb i (length n)) && is_eq (cmp (get_or n i v) v)
    then Some (remove n i ∷ []) else None)
edit cmp ns (plain.CreateNode m) = Some (insert ns (position_or_len (reaches cmp m) ns) (m ∷ []))
edit cmp ns (plain.RemoveNode m) = at_named cmp ns m (λ n. Some [])
edit cmp ns (plain.SplitNode m k) =
    at_named cmp ns m
    (λ n. if ltb 0 k && ltb k (length n) then Some (take k n ∷ drop k n ∷ []) else None)
edit cmp ns (plain.MergeNodes m w) =
    option_and_then (λ p.
    option_and_then (λ q. if q == p + 1 then Some (with_merged ns p) else None)
    (node_named cmp ns w))
    (node_named cmp ns m)

-- the nodes after an event without a number, if it applies: the edit must give a node list
unfoldable pub step_plain : {T : Type 0} → (T → T → Ordering) → List (List T)
    → ChangeEventUnassigned T → Option (List (List T))
step_plain cmp ns e =
    option_and_then (λ r. if are_nodes cmp r then Some r else None) (edit cmp ns e)

abbrev pub replay_plain : {T : Type 0} → (T → T → Ordering) → List (List T)
    → List (ChangeEventUnassigned T) → Option (List (List T))
replay_plain cmp ns [] = Some ns
replay_plain cmp ns (e ∷ es) = option_and_then (λ r. replay_plain cmp r es) (step_plain cmp ns e)

-- an event without its number
abbrev pub unassigned : {T : Type 0} → ChangeEvent T → ChangeEventUnassigned T
unassigned (numbered.InsertAt id m v i) = plain.InsertAt m v i
unassigned (numbered.RemoveAt id m v i) = plain.RemoveAt m v i
unassigned (numbered.CreateNode id m) = plain.CreateNode m
unassigned (numbered.RemoveNode id m) = plain.RemoveNode m
unassigned (numbered.SplitNode id m k) = plain.SplitNode m k
unassigned (numbered.MergeNodes id m w) = plain.MergeNodes m w

-- the number of an event, as an `Id`
abbrev pub event_id : {T : Type 0} → ChangeEvent T → Id
event_id (numbered.InsertAt id m v i) = id
event_id (numbered.RemoveAt id m v i) = id
event_id (numbered.CreateNode id m) = id
event_id (numbered.RemoveNode id m) = id
event_id (numbered.SplitNode id m k) = id
event_id (numbered.MergeNodes id m w) = id

-- the event with a number
abbrev pub with_id : {T : Type 0} → Id → ChangeEventUnassigned T → ChangeEvent T
with_id s (plain.InsertAt m v i) = numbered.InsertAt s m v i
with_id s (plain.RemoveAt m v i) = numbered.RemoveAt s m v i
with_id s (plain.CreateNode m) = numbered.CreateNode s m
with_id s (plain.RemoveNode m) = numbered.RemoveNode s m
with_id s (plain.SplitNode m k) = numbered.SplitNode s m k
with_id s (plain.MergeNodes m w) = numbered.MergeNodes s m w

-- the number of an event
abbrev pub event_number : {T : Type 0} → ChangeEvent T → ℕ
event_number e = (event_id e).0

-- an event with the number s
abbrev pub assigned : {T : Type 0} → ℕ → ChangeEventUnassigned T → ChangeEvent T
assigned s e = with_id (record { 0 = s }) e

-- the nodes after an event, if it applies
abbrev pub step : {T : Type 0} → (T → T → Ordering) → List (List T) → ChangeEvent T
    → Option (List (List T))
step cmp ns e = step_plain cmp ns (unassigned e)

-- the nodes after the events in order, if each applies
abbrev pub replay : {T : Type 0} → (T → T → Ordering) → List (List T) → List (ChangeEvent T)
    → Option (List (List T))
replay cmp ns [] = Some ns
replay cmp ns (e ∷ es) = option_and_then (λ r. replay cmp r es) (step cmp ns e)

-- the events with the numbers from s on
abbrev pub numbered_from : {T : Type 0} → ℕ → List (ChangeEventUnassigned T) → List (ChangeEvent T)
numbered_from s [] = []
numbered_from s (e ∷ es) = assigned s e ∷ numbered_from (s + 1) es

-- the event at index i has the number s + i
abbrev pub IsNumberedFrom : {T : Type 0} → ℕ → List (ChangeEvent T) → Type 0
IsNumberedFrom s es = (i : ℕ) → i < length es → HoldsAt (λ e. event_number e ≡ s + i) es i
