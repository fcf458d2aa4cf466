-- Commands to the map: their events, and the output for each.
use Rattle.std.specs.Prelude.{ℕ, if◌then◌else◌, List, [], ◌++◌, Option, None, Some, codes}
use Rattle.std.specs.Fmt.{decimal}
use Rattle.std.specs.Option.{option_map_or}
use Rattle.std.specs.declared.cmp.Ordering.{Ordering}
use Rattle.indexset_core.specs.Nodes.{concat}
use Rattle.indexset_core.specs.Pairs.{by_key, pair, value_of}
use Rattle.indexset_core.specs.declared.pair.Pair.{Pair}
use Rattle.indexset_events.specs.Keys.{key_removal_events}
use Rattle.indexset_events.specs.Nodes.{is_filled}
use Rattle.indexset_events.specs.Replay.{numbered_from}
use Rattle.indexset_events.specs.Table.{put_events}
use Rattle.indexset_log.specs.Tree.{Tree}
use Rattle.indexset_events.specs.declared.change.ChangeEvent.{ChangeEvent}
use Rattle.indexset_events.specs.declared.change.ChangeEventUnassigned.{ChangeEventUnassigned}
use Rattle.indexset_bench.specs.declared.pair_command.PairCommand.{PairCommand}
use Rattle.indexset_bench.specs.declared.pair_command.PairCommand.TheVariants.{Put, Cut, Nodes}
use Rattle.indexset_bench.specs.declared.reply.Reply.{Reply}
use Rattle.indexset_bench.specs.declared.reply.Reply.TheVariants.{New, OldValue, GoneValue}
use Rattle.indexset_bench.specs.declared.reply.Reply.TheVariants.{Nothing, Empty}
use Rattle.indexset_bench.specs.PairText.{ended, event_text, lines_for, node_text}
use Rattle.indexset_bench.specs.Reply.{reply_text}
use Rattle.indexset_wire.specs.Texts.{Texts}
use Rattle.indexset_bench.specs.Told.{tree_after}

-- the nodes of a map, the maximum node size, and the number of the next event
abbrev pub PairTree : Type 0 → Type 0
PairTree T = Tree (Pair T T)

module _ {T : Type 0} (cmp : T → T → Ordering) where
  -- the events of a command, without numbers
  abbrev pub pair_events : PairTree T → PairCommand T → List (ChangeEventUnassigned (Pair T T))
  pair_events t (Put k v) = put_events (by_key cmp) t.size t.nodes (pair k v)
  pair_events t (Cut k) = key_removal_events cmp t.size t.nodes k
  pair_events t Nodes = []

  -- the events of a command, with their numbers
  abbrev pub told_events : PairTree T → PairCommand T → List (ChangeEvent (Pair T T))
  told_events t c = numbered_from t.next (pair_events t c)

  -- the map after a command: its events are replayed, and their numbers consumed
  abbrev pub pairs_after : PairTree T → PairCommand T → PairTree T
  pairs_after t c = tree_after (by_key cmp) t (pair_events t c)

  -- the reply to a command that changes the map: the old value, if there was one
  abbrev pub change_reply : PairTree T → PairCommand T → Reply T
  change_reply t (Put k v) = option_map_or OldValue (value_of cmp (concat t.nodes) k) New
  change_reply t (Cut k) = option_map_or GoneValue (value_of cmp (concat t.nodes) k) Nothing
  change_reply t Nodes = Empty

-- a reply as a line
abbrev pub reply_ended : {T : Type 0} → Texts T → Reply T → List ℕ
reply_ended texts reply = ended (reply_text texts reply)

-- the prefix of the reply to a command that has a number
abbrev pub echo_text : Option ℕ → List ℕ
echo_text None = []
echo_text (Some n) = codes "#" ++ decimal n ++ codes " "

module _ {T : Type 0} (cmp : T → T → Ordering) (texts : Texts T) where
  -- the output for a command: the reply and the events as lines, or one line for each node
  abbrev pub pair_reply : PairTree T → PairCommand T → List ℕ
  pair_reply t (Put k v) =
      reply_ended texts (change_reply cmp t (Put k v))
      ++ lines_for (event_text texts) (told_events cmp t (Put k v))
  pair_reply t (Cut k) =
      reply_ended texts (change_reply cmp t (Cut k))
      ++ lines_for (event_text texts) (told_events cmp t (Cut k))
  pair_reply t Nodes =
      if is_filled t.nodes then lines_for (node_text texts) t.nodes else reply_ended texts Empty
