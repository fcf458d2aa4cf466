-- Lemmas for the crates above.
pub use Rattle.indexset_core.proofs.AscendingLemmas.{equal_inside, equal_sought, lower_sought, found_ascending}
pub use Rattle.indexset_core.proofs.AscendingLemmas.{found_equal, gap_equal, is_some-find, located_found}
pub use Rattle.indexset_core.proofs.AscendingLemmas.{located_gap, position_absent, position_found, position_is}
pub use Rattle.indexset_core.proofs.AscendingLemmas.{position_none, rank-slice_get, remove_ascending, slice_get-rank}
pub use Rattle.indexset_core.proofs.AscendingLemmas.{slice_get-rank_equal, told_found, told_gap, told_has_equal}
pub use Rattle.indexset_core.proofs.BoundLemmas.{at_position}
pub use Rattle.indexset_core.proofs.DigitsLemmas.{digits-half, digits-least, digits-left, digits-mono, digits-most, digits-right, digits-zero}
pub use Rattle.indexset_core.proofs.KeyRangeLemmas.{key_range_is, key_range_order, pairs_total, sought_keys_are, sought_keys_order}
pub use Rattle.indexset_core.proofs.LocateLemmas.{ends_for, ends_last, ends_until, equal_none, equal_read, node_found, parted_node, place_for}
pub use Rattle.indexset_core.proofs.LocatedLemmas.{IsEnd, end_at, end_found, end_gap, end_node, end_offset, end_position, end_read, equal_joined, gap_found, gap_position, located_end}
pub use Rattle.indexset_core.proofs.MemberLemmas.{gap_no_equal, has_none, has_put, key_gone, no_value, value_put}
pub use Rattle.indexset_core.proofs.NodeLemmas.{around, get_in_node, held-set, held-splice, item_read, concat-append}
pub use Rattle.indexset_core.proofs.NodeLemmas.{concat-splice, joined_around, length-held, length-concat}
pub use Rattle.indexset_core.proofs.NodeLemmas.{length-concat-mono, length-concat-more, length-concat-take}
pub use Rattle.indexset_core.proofs.NodeLemmas.{more_read, node_lengths-set, node_lengths-splice, node_read}
pub use Rattle.indexset_core.proofs.NodeLemmas.{offset-le, slice_get-left, slice_get-right}
pub use Rattle.indexset_core.proofs.OrderLemmas.{equal_from, found_has_equal, found_keep, found_put, found_rank}
pub use Rattle.indexset_core.proofs.OrderLemmas.{found_without, gap_ascending, gap_at, gap_has_equal, gap_keep}
pub use Rattle.indexset_core.proofs.OrderLemmas.{gap_put, gap_rank, gap_without, has_equal_found, less_from}
pub use Rattle.indexset_core.proofs.OrderLemmas.{parted_by_item, parted_by_sought, read_item, sought_without}
pub use Rattle.indexset_core.proofs.PairLemmas.{absent_gap, absent_without, find_absent, find_position}
pub use Rattle.indexset_core.proofs.PairLemmas.{key_absent, key_found, key_inside, key_no_pair, key_pair}
pub use Rattle.indexset_core.proofs.PairLemmas.{key_there, found_key, gap_key, key_written, parted_by_key}
pub use Rattle.indexset_core.proofs.PairLemmas.{parted_by_sought_key, value_ascending, without-pair}
pub use Rattle.indexset_core.proofs.PartLemmas.{between_up, clipped, front_up, tail_up}
pub use Rattle.indexset_core.proofs.PartedLemmas.{Parts, count_parted, count_parts, filter_back, filter_front, front-is_le, front-is_lt}
pub use Rattle.indexset_core.proofs.PlaceLemmas.{last_before, places_order}
pub use Rattle.indexset_core.proofs.ProbeLemmas.{each_bounded, probed_before, probed_up_to}
pub use Rattle.indexset_core.proofs.RangeLemmas.{found_not_above, keyed_range_is, keyed_range_order, before_parts, not_before, range_is, range_order, sought_range_is, sought_range_order, up_to_parts}
pub use Rattle.indexset_core.proofs.RankLemmas.{IsRank, index_is, rank_is}
pub use Rattle.indexset_core.proofs.ResultLemmas.{on_err, some_held}
pub use Rattle.indexset_core.proofs.ItemIterLemmas.{back_turn, between_le, place_le}
