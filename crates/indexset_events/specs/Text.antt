-- The text that `{}` writes of an event.
use Rattle.std.specs.Prelude.{ℕ, List, Option, Some, codes}
use Rattle.std.specs.Fmt.{◌++?◌, decimal}
use Rattle.indexset_events.specs.declared.change.ChangeEvent.{ChangeEvent}
use Rattle.indexset_events.specs.declared.change.ChangeEvent.TheVariants.{
  InsertAt,
  RemoveAt,
  CreateNode,
  RemoveNode,
  SplitNode,
  MergeNodes,
}

-- one line, where `shown` gives the text of an item, if it is known
abbrev pub event_shown : {T : Type 0} → (T → Option (List ℕ)) → ChangeEvent T → Option (List ℕ)
event_shown shown (InsertAt id m v i) =
    Some (decimal id.0) ++? Some (codes " insert ") ++? shown m ++? Some (codes " ") ++? shown v
    ++? Some (codes " ") ++? Some (decimal i)
event_shown shown (RemoveAt id m v i) =
    Some (decimal id.0) ++? Some (codes " remove ") ++? shown m ++? Some (codes " ") ++? shown v
    ++? Some (codes " ") ++? Some (decimal i)
event_shown shown (CreateNode id m) =
    Some (decimal id.0) ++? Some (codes " create ") ++? shown m
event_shown shown (RemoveNode id m) = Some (decimal id.0) ++? Some (codes " drop ") ++? shown m
event_shown shown (SplitNode id m k) =
    Some (decimal id.0) ++? Some (codes " split ") ++? shown m ++? Some (codes " ")
    ++? Some (decimal k)
event_shown shown (MergeNodes id m w) =
    Some (decimal id.0) ++? Some (codes " merge ") ++? shown m ++? Some (codes " ") ++? shown w
