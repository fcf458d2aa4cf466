-- The effect of a line on a leader, and the answer to it.
use Rattle.std.specs.Prelude.{ℕ, ◌<◌, List, [], ◌∷◌, ◌++◌, Option, None, Some}
use Rattle.std.below.core.specs.declared.int.u64.TheConstants.{MAX}
use Rattle.std.specs.Option.{option_map_or}
use Rattle.indexset_bench.specs.Pairs.{PairTree, echo_text, pair_reply, pairs_after, told_events}
use Rattle.indexset_bench.specs.PairText.{ended}
use Rattle.indexset_lines.specs.Run.{left_by}
use Rattle.indexset_follow.specs.Echo.{command_of, done_by}
use Rattle.indexset_follow.specs.EventLine.{Event}
use Rattle.indexset_follow.specs.Mark.{mark_line}
use Rattle.indexset_follow.specs.Query.{query_of}
use Rattle.indexset_follow.specs.Reads.{query_text}
use Rattle.indexset_follow.specs.Reply.{others_text, reply_ended}
use Rattle.indexset_follow.specs.declared.echo.Command.{Command}
use Rattle.indexset_follow.specs.declared.leader.Leader.{Leader}
use Rattle.indexset_follow.specs.declared.mark.Mark.TheVariants.{Done}
use Rattle.indexset_follow.specs.declared.others.Others.{Others}
use Rattle.indexset_follow.specs.declared.reply.Reply.TheVariants as reply
use Rattle.std.specs.declared.cmp.Ordering.{Ordering}
use Rattle.indexset_wire.specs.Texts.{Texts}

module _ {T : Type 0} where
  -- a leader of a tree with a greatest command number
  abbrev pub leader_of : PairTree T → ℕ → Leader T
  leader_of t d = record { pairs = t; done = d }

module _ {T : Type 0} (cmp : T → T → Ordering) (texts : Texts T) where
  -- the tree after a line that is not a read: that after its command
  abbrev pub after_command : PairTree T → List ℕ → PairTree T
  after_command t line = option_map_or (λ c. pairs_after cmp t c.change) (command_of texts line) t

  -- a read changes nothing
  abbrev pub after_leading : PairTree T → List ℕ → PairTree T
  after_leading t line = option_map_or (λ q. t) (query_of texts line) (after_command t line)

module _ {T : Type 0} (texts : Texts T) where
  -- the greatest command number after a line; a read has none
  abbrev pub done_after : ℕ → List ℕ → ℕ
  done_after d line =
      option_map_or (λ q. d) (query_of texts line)
      (option_map_or (done_by d) (command_of texts line) d)

module _ {T : Type 0} (cmp : T → T → Ordering) (texts : Texts T) where
  -- the leader after a line
  abbrev pub leader_after : Leader T → List ℕ → Leader T
  leader_after l line =
      leader_of (after_leading cmp texts l.pairs line) (done_after texts l.done line)

-- the `done` line, if the command has a number
abbrev pub done_text : Option ℕ → ℕ → ℕ → List ℕ
done_text None d next = []
done_text (Some n) d next = ended (mark_line (Done d next))

module _ {T : Type 0} (cmp : T → T → Ordering) (texts : Texts T) where
  -- the answer to a command: the command number and the reply, the events, the `done` line, and the
  -- next number
  abbrev pub command_text : Leader T → Command T → List ℕ
  command_text l c =
      let next = (pairs_after cmp l.pairs c.change).next in
      (echo_text c.echo ++ pair_reply cmp texts l.pairs c.change)
      ++ (done_text c.echo (done_by l.done c) next ++ reply_ended (reply.Next next))

  -- the answer to a line that is not a read: that to its command
  abbrev pub command_reply : Others → Leader T → List ℕ → List ℕ
  command_reply o l line = option_map_or (command_text l) (command_of texts line) (others_text o)

  abbrev pub leading_reply : Others → Leader T → List ℕ → List ℕ
  leading_reply o l line =
      option_map_or (query_text cmp texts l.pairs.nodes l.pairs.next l.done) (query_of texts line)
      (command_reply o l line)

module _ {T : Type 0} where
  -- the number of events is above the greatest event number
  abbrev pub lacks : PairTree T → Type 0
  lacks t = MAX < t.next

module _ {T : Type 0} (cmp : T → T → Ordering) (texts : Texts T) where
  -- ---- lines

  -- the tree after the lines
  abbrev pub tree_of : PairTree T → List (List ℕ) → PairTree T
  tree_of = left_by (after_leading cmp texts)

module _ {T : Type 0} (texts : Texts T) where
  -- the greatest command number after the lines
  abbrev pub done_of : ℕ → List (List ℕ) → ℕ
  done_of = left_by (done_after texts)

module _ {T : Type 0} (cmp : T → T → Ordering) (texts : Texts T) where
  -- the events in the answer to a line
  abbrev pub leading_events : PairTree T → List ℕ → List (Event T)
  leading_events t line =
      option_map_or (λ q. []) (query_of texts line)
      (option_map_or (λ c. told_events cmp t c.change) (command_of texts line) [])

  -- the events in the answers to the lines, in order
  unfoldable pub events_led : PairTree T → List (List ℕ) → List (Event T)
  events_led t [] = []
  events_led t (line ∷ lines) =
      leading_events t line ++ events_led (after_leading cmp texts t line) lines
