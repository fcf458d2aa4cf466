-- Lemmas for callers that depend on this crate only: what an iterator with mutable references has
-- written, and what a write, an insertion and a removal do to sums, lengths, `All` and look-ups.
pub use Rattle.indexset_map.proofs.CallerLemmas.{all_written, nothing_written, pair_written, range_written, value_written}
pub use Rattle.indexset.proofs.Entries.{all_set_value, keys_entries, keys_set_value, length_set_value}
pub use Rattle.indexset.proofs.Entries.{lookup_entries, put_value_there, set_value_absent, set_value_entries}
pub use Rattle.indexset.proofs.Entries.{sum_by_set_value, value_set_value, value_set_value_other, values_entries}
pub use Rattle.indexset.proofs.ListSums.{all_put, all_without, length_put, length_put_equal, length_without, sum_by_put, sum_by_without}
pub use Rattle.indexset.proofs.PairSums.{sum_by_put_value, sum_by_without_key}
