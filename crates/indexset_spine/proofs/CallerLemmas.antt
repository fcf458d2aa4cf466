-- Lemmas for the crates above.
pub use Rattle.indexset_spine.proofs.AppendLemmas.{cut_all_last, cut_last, joined_all_last, joined_last}
pub use Rattle.indexset_spine.proofs.BlockLemmas.{empty_cut}
pub use Rattle.indexset_spine.proofs.CopyLemmas.{copies_joined, copies_lengths}
pub use Rattle.indexset_spine.proofs.NodeListEdits.{joined_set, node_filled, position_inside}
pub use Rattle.indexset_spine.proofs.NodeListLemmas.{concat-set}
pub use Rattle.indexset_spine.proofs.EditSteps.{put_short}
pub use Rattle.indexset_spine.proofs.EndLemmas.{end_node, end_offset}
pub use Rattle.indexset_spine.proofs.ExtractSteps.{extract_goes, extracts_fewer, extracts_keep, extracts_stay, extracts_through}
pub use Rattle.indexset_index.proofs.CallerLemmas.{count-lengths, length-at}
pub use Rattle.indexset_spine.proofs.NodeLengthLemmas.{node_lengths-set_joined, node_lengths-without}
pub use Rattle.indexset_spine.proofs.PlaceLemmas.{item_place, item_spot, lengths_placed, place_position, place_spot, spot_place}
pub use Rattle.indexset_spine.proofs.PutLemmas.{fold_grown, item_in_node, last_is, last_parts, node_up, put_before}
pub use Rattle.indexset_spine.proofs.FoldPrefixLemmas.{takes_all, takes_first, takes_more, takes_rest}
