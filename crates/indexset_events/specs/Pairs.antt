-- Events of numbered pairs as events of pairs.
use Rattle.indexset_core.specs.declared.multipair.MultiPair.{MultiPair}
use Rattle.indexset_core.specs.declared.pair.Pair.{Pair}
use Rattle.indexset_core.specs.MultiPairs.{unnumbered}
use Rattle.indexset_events.specs.declared.change.ChangeEvent.{ChangeEvent}
use Rattle.indexset_events.specs.declared.change.ChangeEvent.TheVariants.{
  InsertAt,
  RemoveAt,
  CreateNode,
  RemoveNode,
  SplitNode,
  MergeNodes,
}

-- the event without the numbers of its pairs
abbrev pub without_pair_numbers : {K V : Type 0} → ChangeEvent (MultiPair K V)
    → ChangeEvent (Pair K V)
without_pair_numbers (InsertAt id m v i) = InsertAt id (unnumbered m) (unnumbered v) i
without_pair_numbers (RemoveAt id m v i) = RemoveAt id (unnumbered m) (unnumbered v) i
without_pair_numbers (CreateNode id m) = CreateNode id (unnumbered m)
without_pair_numbers (RemoveNode id m) = RemoveNode id (unnumbered m)
without_pair_numbers (SplitNode id m k) = SplitNode id (unnumbered m) k
without_pair_numbers (MergeNodes id m w) = MergeNodes id (unnumbered m) (unnumbered w)
