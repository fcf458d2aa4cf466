-- The lemmas that other crates may cite.
pub use Rattle.indexset_replica.proofs.CopyLemmas.{copies_itself, replay_copies}
pub use Rattle.indexset_replica.proofs.StepLemmas.{misfit_refused, step_fits}
pub use Rattle.indexset_replica.proofs.DeliveryLemmas.{applied_fits, passed_over, taken_in, turn_taken}
