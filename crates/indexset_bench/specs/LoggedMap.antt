-- Commands to a logged map, defined on its pairs in key order and on its nodes.
use Rattle.std.specs.Prelude.{not, List}
use Rattle.std.specs.Option.{option_map}
use Rattle.std.specs.declared.cmp.Ordering.{Ordering}
use Rattle.indexset_core.specs.Order.{put, keep}
use Rattle.indexset_core.specs.Pairs.{by_key, entry_of, has_key, pair}
use Rattle.indexset_core.specs.Pairs.{pair_of, value_of, without_key}
use Rattle.indexset_core.specs.declared.pair.Pair.{Pair}
use Rattle.indexset_events.specs.Keys.{key_removal_events}
use Rattle.indexset_events.specs.Table.{put_events, checked_put_events}
use Rattle.indexset_log.specs.Tree.{Tree}
use Rattle.indexset_events.specs.declared.change.ChangeEventUnassigned.{ChangeEventUnassigned}
use Rattle.indexset_bench.specs.declared.logged.map.LoggedMapCommand.{LoggedMapCommand}
use Rattle.indexset_bench.specs.declared.logged.map.LoggedMapCommand.TheVariants.{
  Insert,
  CheckedInsert,
  Remove,
}
use Rattle.indexset_bench.specs.declared.logged.map.LoggedMapReply.{LoggedMapReply}
use Rattle.indexset_bench.specs.declared.logged.map.LoggedMapReply.TheVariants.{
  OldValue,
  Added,
  Out,
}
use Rattle.indexset_bench.specs.Told.{tree_after}

module _ {K V : Type 0} (cmp : K → K → Ordering) where
  -- the reply to a command
  abbrev pub logged_map_reply : List (Pair K V) → LoggedMapCommand K V → LoggedMapReply K V
  logged_map_reply l (Insert k v) = OldValue (value_of cmp l k)
  logged_map_reply l (CheckedInsert k v) = Added (not (has_key cmp l k))
  logged_map_reply l (Remove k) = Out (option_map entry_of (pair_of cmp l k))

  -- the pairs of the map after a command
  abbrev pub logged_map_after : List (Pair K V) → LoggedMapCommand K V → List (Pair K V)
  logged_map_after l (Insert k v) = put (by_key cmp) l (pair k v)
  logged_map_after l (CheckedInsert k v) = keep (by_key cmp) l (pair k v)
  logged_map_after l (Remove k) = without_key cmp l k

  -- the events of a command
  abbrev pub logged_map_events : Tree (Pair K V) → LoggedMapCommand K V
      → List (ChangeEventUnassigned (Pair K V))
  logged_map_events t (Insert k v) = put_events (by_key cmp) t.size t.nodes (pair k v)
  logged_map_events t (CheckedInsert k v) =
      checked_put_events (by_key cmp) t.size t.nodes (pair k v)
  logged_map_events t (Remove k) = key_removal_events cmp t.size t.nodes k

  -- the tree after a command
  abbrev pub logged_map_left : Tree (Pair K V) → LoggedMapCommand K V → Tree (Pair K V)
  logged_map_left t c = tree_after (by_key cmp) t (logged_map_events t c)
