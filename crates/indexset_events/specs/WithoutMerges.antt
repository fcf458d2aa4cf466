-- Replay by the events other than `MergeNodes`.
use Rattle.std.specs.Prelude.{Bool, true, false, if◌then◌else◌, List, [], ◌∷◌, Option, Some, None}
use Rattle.std.specs.Option.{option_and_then}
use Rattle.std.specs.declared.cmp.Ordering.{Ordering}
use Rattle.indexset_events.specs.declared.change.ChangeEvent.{ChangeEvent}
use Rattle.indexset_events.specs.declared.change.ChangeEvent.TheVariants.{
  InsertAt,
  RemoveAt,
  CreateNode,
  RemoveNode,
  SplitNode,
  MergeNodes,
}
use Rattle.indexset_events.specs.Replay.{step}

-- the event is a merge
abbrev pub is_merge : {T : Type 0} → ChangeEvent T → Bool
is_merge (InsertAt id m v i) = false
is_merge (RemoveAt id m v i) = false
is_merge (CreateNode id m) = false
is_merge (RemoveNode id m) = false
is_merge (SplitNode id m k) = false
is_merge (MergeNodes id m w) = true

-- the replay that does not apply merges
abbrev pub replay_without_merges : {T : Type 0} → (T → T → Ordering) → List (List T)
    → List (ChangeEvent T) → Option (List (List T))
replay_without_merges cmp ns [] = Some ns
replay_without_merges cmp ns (e ∷ es) =
    option_and_then (λ r. replay_without_merges cmp r es)
    (if is_merge e then None else step cmp ns e)
