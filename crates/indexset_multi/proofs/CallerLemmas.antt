-- The lemmas that other crates may cite.
pub use Rattle.indexset_multi.proofs.SearchLemmas.{lawful_keys}
