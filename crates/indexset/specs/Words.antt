-- The words of contracts on sets, maps and logged trees, for callers that depend on this crate
-- only.
--
-- Terms:
--
-- | Term | Meaning |
-- |---|---|
-- | item, element, pair | what a node holds: an element of a set, or a key with its value |
-- | node | an ascending list of items, at most the node size of them. Its type implements
--   `NodeLike`: `Vec<T>`, which allocates, or `ArrayNode<T, N>`, which stores up to N items inline
--   and never allocates |
-- | node list | the nodes in order; their concatenation is the collection's list. No node is empty,
--   except the only node of an empty plain collection |
-- | index | the Fenwick tree that finds positions: of the node lengths in plain collections, of
--   their sums over 32 nodes in logged trees and replicas |
-- | plain family, logged family | set and map; set, map and multimap that return their changes as
--   events |
-- | position, offset, place | an index in the whole list, counted from 0; an index in a node; a
--   node with an offset in it |
-- | equal, identical | the order returns Equal, as it may for two different items; the same value |
-- | lawful | of an order: total and consistent with `==`; of nodes: a node list within the node
--   size |
-- | split, halve, merge | a collection is split in two; a full node is halved, at half its length;
--   two neighbouring nodes are merged into one |
-- | tie rule | an item that belongs between the halves of a halved node is inserted at the end of
--   the left half in the plain family, and at the start of the right half in the logged family: at
--   size 4, the full node [0,2,4,6] with 3 inserted becomes [0,2,3] [4,6] in the one and [0,2]
--   [3,4,6] in the other |
-- | small neighbours | two neighbouring nodes of at most half the node size together: a removal in
--   a logged tree merges them |
-- | event | a numbered change of a node list: an item inserted or removed, a node created, removed,
--   split or merged with the next. It names a node by its last item before the change |
-- | event table | the definition of each call's events: `put_events`, `checked_put_events`,
--   `removal_events` |
-- | replay | the steps of events in order; undefined from the first event that does not apply |
-- | replica | a copy that holds a node list and the number of the event that it expects |
-- | text of a value | of a type that is an `Item`: the bytes from which the identical value is
--   read, and no other. The text of a `Token` may be a part of a pair's text |
-- | clone premise | the assumption that a clone is identical to its source |
-- | `clones`, `cloned` | clauses: events, or the nodes of a replica, with clones in the place of
--   items; `cloned` of `Logged`: an item is a clone of another |
--
-- Names in the code, by the standard term: `Probe` is a comparator, which compares items with a
-- look-up key, returns Less, Equal or Greater, and counts its comparisons; `Spine` is a node list
-- with its length and index; `Spot` is a position in a node; `Refusal` is an error, and `Refused`
-- an error with the value that the call was given; `digits` is the bit length; `_cdc` marks a call
-- that returns its events (change data capture).
--
-- The model of a value in contracts: of a set `node_list nodes size`, whose list is `items s`; of a
-- map `Contents`: `pairs`, node lengths, node size; of a logged tree `Tree`: nodes, node size,
-- number of the next event, whose list is `concat t.nodes`; of a multimap `MultiTree`, with the
-- number of the next new pair; of a replica `ReplicaState`: nodes and the number of the event that
-- it expects.

pub use Rattle.indexset_spine.specs.NodeList.{items}
pub use Rattle.indexset_spine.specs.Extract.{Extracts, ExtractState, extract_state}
pub use Rattle.indexset_core.specs.Order.{IsAscending, below, above, rank, has_equal, index_of}
pub use Rattle.indexset_core.specs.Order.{equal_element, lower_element, put, keep, without}
pub use Rattle.indexset_core.specs.KeyRange.{are_ordered, is_within, in_range, in_positions}
pub use Rattle.indexset_core.specs.Digits.{digits}
pub use Rattle.indexset_core.specs.Pairs.{by_key, entry_of, has_key, key_rank, pair}
pub use Rattle.indexset_core.specs.Pairs.{pair_keys, pair_of, pair_values, pairs_within}
pub use Rattle.indexset_core.specs.Pairs.{put_value, set_value, value_of, without_key}
pub use Rattle.indexset_core.specs.MultiPairs.{by_number}
pub use Rattle.indexset_core.specs.declared.multipair.MultiPair.{MultiPair}
pub use Rattle.indexset_set.specs.SetAlgebra.{difference, intersection}
pub use Rattle.indexset_set.specs.SetAlgebra.{symmetric_difference, union, put_all}
pub use Rattle.indexset_set.specs.SetExtract.{CalledOn, ExtractsOne, extract_items}
pub use Rattle.indexset_set.specs.SetExtract.{extract_pred, extract_set}
pub use Rattle.indexset_set.specs.SetRanges.{not_below, upper_element}
pub use Rattle.indexset_map.specs.Contents.{with_entry, with_pairs, without_at, without_entry}
pub use Rattle.indexset_map.specs.Extract.{ExtractsPair, extract_map}
pub use Rattle.indexset_map.specs.Extract.{extract_map_pred, extract_pairs}
pub use Rattle.indexset_map.specs.Walk.{HasWritten, walk_back, walk_front, written}
pub use Rattle.indexset_core.specs.Nodes.{concat, vec_items, IsNodeList}
pub use Rattle.indexset_events.specs.Clones.{IsEventClone}
pub use Rattle.indexset_events.specs.declared.change.ChangeEvent.{ChangeEvent}
pub use Rattle.indexset_events.specs.Attach.{nodes_refusal}
pub use Rattle.indexset_events.specs.Keys.{key_removal_events}
pub use Rattle.indexset_events.specs.Table.{put_events, checked_put_events, removal_events}
pub use Rattle.indexset_events.specs.Replay.{IsNumberedFrom, event_number, numbered_from}
pub use Rattle.indexset_events.specs.Replay.{replay, step, unassigned}
pub use Rattle.indexset_wire.specs.Event.{EventInRange, event_of, event_text}
unfoldable pub use Rattle.indexset_wire.specs.Parts.{is_item, is_token}
pub use Rattle.indexset_wire.specs.Texts.{AreItems, AreTokens, Texts}
pub use Rattle.indexset_log.specs.Tree.{Tree, refusal_for}
pub use Rattle.indexset_multi.specs.Changed.{IsAdded, IsInserted}
pub use Rattle.indexset_multi.specs.Keys.{entries, equal_pair, has_pair_of, pairs_of, without_first}
pub use Rattle.indexset_multi.specs.Tree.{MultiTree, inserted_pair}
pub use Rattle.indexset_multi.specs.Tree.{insertion_refusal, pair_removal_events}
pub use Rattle.indexset_replica.specs.Copies.{AreClonesEqual, AreCopies, IsCopy, LeadsToCopies}
pub use Rattle.indexset_replica.specs.Delivery.{CopiesAll, CopiesPrefix, FailsWith, HasStopped}
pub use Rattle.indexset_replica.specs.Delivery.{IsAlike, IsAt, IsCaughtUp, IsDelivered}
pub use Rattle.indexset_replica.specs.Delivery.{IsDeliveredUpTo, IsDelivery, IsEventLog}
pub use Rattle.indexset_replica.specs.Delivery.{IsOffered, IsPrefix, IsSubsequence}
unfoldable pub use Rattle.indexset_replica.specs.Delivery.{delivered}
pub use Rattle.indexset_replica.specs.Delivery.{delivery_of, events_at, numbers_from, offered}
pub use Rattle.indexset_replica.specs.Keyed.{count_equal}
pub use Rattle.indexset_replica.specs.Replica.{ReplicaState, apply_refusal}
pub use Rattle.indexset_replica.specs.Replica.{AddsClone, IsClonedStep, IsEqualClone}
