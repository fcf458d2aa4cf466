-- The lemmas that other crates may cite.
pub use Rattle.indexset_events.proofs.AttachLemmas.{Attaches, added, ascending_answer, attach_index_le}
pub use Rattle.indexset_events.proofs.AttachLemmas.{attach_told, attaches_node, filled_first, map_insert}
pub use Rattle.indexset_events.proofs.AttachLemmas.{min_place_here, min_place_past, not_refused, refused_empty}
pub use Rattle.indexset_events.proofs.AttachLemmas.{refused_large, refused_overlap, refused_unsorted}
pub use Rattle.indexset_events.proofs.ChangeLemmas.{Leads, key_removal_leads, nothing_leads, put_leads, removal_leads, sought_leads}
pub use Rattle.indexset_events.proofs.CloneLemmas.{both_cloned, clones_numbered, event_same, one_cloned, pair_same, zip_on}
pub use Rattle.indexset_events.proofs.NodeOrderLemmas.{follow_lawful, lawful_taken, only_large}
pub use Rattle.indexset_events.proofs.MergeLemmas.{after_from, at_pair, few_before, first_list, left_joined, next_inside, next_list, right_joined, two_held, two_seen}
pub use Rattle.indexset_events.proofs.PlaceRemovalLemmas.{found_there, place_events}
pub use Rattle.indexset_events.proofs.SearchLemmas.{found_at, found_is, nodes_at_most, sought_at, sought_told}
pub use Rattle.indexset_events.proofs.PutLemmas.{equal_in_target, gap_written, half_and, half_up, halved_view}
pub use Rattle.indexset_events.proofs.PutLemmas.{inner_replaced, last_of_take, last_replaced, node_count}
pub use Rattle.indexset_events.proofs.PutLemmas.{only_replaced, put_contents, put_counted, put_lawful, put_replayed}
pub use Rattle.indexset_events.proofs.ReplayLemmas.{ne_from, not_reaching, over_rest, reaching}
pub use Rattle.indexset_events.proofs.HalvingLemmas.{Roomy, roomy}
pub use Rattle.indexset_events.proofs.DenseLemmas.{few_nodes}
pub use Rattle.indexset_events.proofs.DenseKeptLemmas.{put_spaced, taken_spaced}
pub use Rattle.indexset_events.proofs.StepLemmas.{At, at_ruled, edit_step, joined_seam, merge_step, place_none}
pub use Rattle.indexset_events.proofs.StepLemmas.{position_at, reached, remove_at, remove_node_step}
pub use Rattle.indexset_events.proofs.StepLemmas.{remove_step, ruled_at, splice_at, split_step, unnamed}
pub use Rattle.indexset_events.proofs.RemovalLemmas.{absent_contents, absent_events, absent_here, at_place}
pub use Rattle.indexset_events.proofs.RemovalLemmas.{found_contents, found_events, join_up, last_end, last_stays}
pub use Rattle.indexset_events.proofs.RemovalLemmas.{map_remove, removal_few, some_joined, some_read, some_taken}
pub use Rattle.indexset_events.proofs.RemovalLemmas.{sought_contents, sought_events, taken_contents, taken_counted}
pub use Rattle.indexset_events.proofs.RemovalLemmas.{taken_lawful, taken_replay, taking_length, two_at_most}
pub use Rattle.indexset_events.proofs.ReplayTheorem.{last_some, length-numbered, none_lawful, numbered-append, numbered_is, on_ok_map, put_events_none, replay-append, set_view, three_at_most, up_node}
pub use Rattle.indexset_events.proofs.AscendingListLemmas.{Each, Ruled, Up, all_each, around, ascends, each-append}
pub use Rattle.indexset_events.proofs.AscendingListLemmas.{each-left, each-map, each-right, each_all, each_last}
pub use Rattle.indexset_events.proofs.AscendingListLemmas.{filled-append, filled_length, greater, last_answer}
pub use Rattle.indexset_events.proofs.AscendingListLemmas.{last_any, lawful_bounded, lawful_from, lawful_ruled}
pub use Rattle.indexset_events.proofs.AscendingListLemmas.{length_filled, nodes_each, nodes_ruled, parts-put}
pub use Rattle.indexset_events.proofs.AscendingListLemmas.{parts-without, rises, ruled_nodes, tested_ruled, true_up}
pub use Rattle.indexset_events.proofs.AscendingListLemmas.{up-between, up-left, up-right, up_put, up_true, upto_last}
pub use Rattle.indexset_events.proofs.NodeViewLemmas.{ends_at, filled_here, lawful_ascends, lawful_filled, lawful_parted, lawful_small, length_view, never_none, node_is, node_some, view_at}
