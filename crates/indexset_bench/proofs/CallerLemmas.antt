-- Lemmas for the crates above this one.
pub use Rattle.indexset_bench.proofs.KeyTexts.{IsApart, colon_lacks, end_apart, end_lacks, pair_lacks, pair_read, pair_told, space_apart, space_lacks, two_keys_sound, two_keys_told}
pub use Rattle.indexset_bench.proofs.Meanings.{sound}
pub use Rattle.indexset_bench.proofs.PairMeanings.{pair_sound}
pub use Rattle.indexset_bench.proofs.Written.{lead_after, on_ok_given, one_read}
