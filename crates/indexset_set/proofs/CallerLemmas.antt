-- Lemmas for the crates above.
pub use Rattle.indexset_set.proofs.SetAppendLemmas.{all_nodes, front_ascending, still_up}
pub use Rattle.indexset_set.proofs.SetBulkLemmas.{below_all, drop_not_below, not_below_all, take_below}
pub use Rattle.indexset_set.proofs.SetCloneLemmas.{gap_behind}
pub use Rattle.indexset_set.proofs.SetCopyLemmas.{adjacent_tells}
pub use Rattle.indexset_set.proofs.SetDrainLemmas.{drained}
pub use Rattle.indexset_set.proofs.SetNodeLemmas.{kept_present}
pub use Rattle.indexset_set.proofs.SetProbeLemmas.{in_order}
pub use Rattle.indexset_set.proofs.SetValueLemmas.{items-with_value_at, size-with_value_at}
