-- The lemmas that other crates may cite.
pub use Rattle.indexset_map.proofs.WrittenLemmas.{all_written, nothing_written, pair_written, range_written, value_written}
