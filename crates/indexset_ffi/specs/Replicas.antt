-- The pairs of a replica, and the effect of records on it.
use Rattle.std.specs.Prelude.{ℕ, List, [], ◌∷◌, Option, Some, None, if◌then◌else◌, nat_lt}
use Rattle.std.specs.Option.{option_and_then, option_map, option_map_or}
use Rattle.std.specs.Ordering.{nat_cmp}
use Rattle.indexset_core.specs.declared.pair.Pair.{Pair}
use Rattle.indexset_core.specs.declared.refusal.Refusal.{Refusal}
use Rattle.indexset_core.specs.declared.refusal.Refusal.TheVariants as refusals
use Rattle.indexset_core.specs.Nodes.{concat}
use Rattle.indexset_core.specs.Pairs.{by_key}
use Rattle.indexset_core.specs.Refusal.{number_of}
use Rattle.indexset_events.specs.Replay.{event_number}
use Rattle.indexset_log.specs.Tree.{Tree}
use Rattle.indexset_replica.specs.Delivery.{delivered}
use Rattle.indexset_replica.specs.Replica.{ReplicaState, apply_refusal}
use Rattle.indexset_ffi.specs.declared.event.Event.{Event}
use Rattle.indexset_ffi.specs.declared.status.TheConstants.{NO, MEMORY, NUMBERS, UNFIT}
use Rattle.indexset_ffi.specs.Events.{event_of}

-- the nodes of a replica, and its pairs in order; an empty handle has none
abbrev pub copied_nodes : Option (ReplicaState (Pair ℕ ℕ)) → List (List (Pair ℕ ℕ))
copied_nodes replica = option_map_or (λ r. r.nodes) replica []

abbrev pub copied_pairs : Option (ReplicaState (Pair ℕ ℕ)) → List (Pair ℕ ℕ)
copied_pairs replica = concat (copied_nodes replica)

-- a replica that has the nodes of a logged map and awaits its next event
abbrev pub replica_of : Tree (Pair ℕ ℕ) → ReplicaState (Pair ℕ ℕ)
replica_of log = record { nodes = log.nodes; next = log.next }

-- the status of a refusal: `MEMORY`, `NUMBERS`, `UNFIT`, or a number of its own
abbrev pub status_of : Refusal → ℕ
status_of refusals.Memory = MEMORY
status_of refusals.Numbers = NUMBERS
status_of refusals.Empty = UNFIT
status_of refusals.TooLarge = UNFIT
status_of refusals.Unsorted = UNFIT
status_of refusals.Overlaps = UNFIT
status_of refusals.PairNumber = UNFIT
status_of refusals.Gap = number_of refusals.Gap
status_of refusals.NoSuchNode = number_of refusals.NoSuchNode
status_of refusals.IndexOutside = number_of refusals.IndexOutside
status_of refusals.ValueDiffers = number_of refusals.ValueDiffers
status_of refusals.WouldBeEmpty = number_of refusals.WouldBeEmpty
status_of refusals.OutOfOrder = number_of refusals.OutOfOrder
status_of refusals.BadSplit = number_of refusals.BadSplit
status_of refusals.NotNeighbours = number_of refusals.NotNeighbours

-- the status of a record that a replica does not apply; none if it applies it, unless memory runs
-- out
unfoldable pub refused : ReplicaState (Pair ℕ ℕ) → Event → Option ℕ
refused r e =
    option_map_or
    (λ c. if nat_lt (event_number c) r.next then Some NO
    else option_map status_of (apply_refusal (by_key nat_cmp) r.nodes r.next c))
    (event_of e) (Some UNFIT)

-- the replica after a record: unchanged if the event came before, and none if it is refused
unfoldable pub applied : ReplicaState (Pair ℕ ℕ) → Event → Option (ReplicaState (Pair ℕ ℕ))
applied r e =
    option_and_then
    (λ c. if nat_lt r.next (event_number c) then None else delivered (by_key nat_cmp) r c)
    (event_of e)

-- the replica after the records, in order
abbrev pub applied_all : ReplicaState (Pair ℕ ℕ) → List Event → Option (ReplicaState (Pair ℕ ℕ))
applied_all r [] = Some r
applied_all r (e ∷ es) = option_and_then (λ s. applied_all s es) (applied r e)
