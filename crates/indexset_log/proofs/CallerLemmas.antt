-- The lemmas that other crates may cite.
pub use Rattle.indexset_log.proofs.ChangeLemmas.{Altered, altered_nowhere, if_ok_map, on_ok_both, removal_altered, same_spaced, told_where}
