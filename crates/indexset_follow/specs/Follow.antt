-- The effect of a line on a follower, and the reply to it.
use Rattle.std.specs.Prelude.{ℕ, Bool, true, ◌+◌, ◌≤◌, ◌==◌, is_none, not, if◌then◌else◌}
use Rattle.std.specs.Prelude.{nat_le, nat_lt, List, [], ◌∷◌, length, max, Option, Some, None}
use Rattle.std.specs.Option.{option_map, option_map_or}
use Rattle.indexset_lines.specs.Run.{left_by}
use Rattle.indexset_core.specs.Pairs.{by_key, pair}
use Rattle.indexset_core.specs.declared.pair.Pair.{Pair}
use Rattle.indexset_events.specs.Attach.{attach_refusal, attached}
use Rattle.indexset_events.specs.Replay.{event_number}
use Rattle.indexset_follow.specs.Copy.{Copy, copy, sum_of}
use Rattle.indexset_follow.specs.Early.{AscendFrom, Taken, caught_up}
use Rattle.indexset_follow.specs.Early.{first_number, taken, with_early}
use Rattle.indexset_follow.specs.EventLine.{Event, event_of}
use Rattle.indexset_follow.specs.Mark.{mark_of}
use Rattle.indexset_follow.specs.NodeLine.{node_of}
use Rattle.indexset_follow.specs.Reads.{head_reply, read_reply}
use Rattle.indexset_follow.specs.Reply.{follower_others, voiced}
use Rattle.indexset_core.specs.declared.refusal.Refusal.{Refusal}
use Rattle.indexset_follow.specs.declared.follower.Follower.{Follower}
use Rattle.indexset_follow.specs.declared.mark.Mark.{Mark}
use Rattle.indexset_follow.specs.declared.mark.Mark.TheVariants.{Start, End, Done}
use Rattle.indexset_follow.specs.declared.others.Voice.{Voice}
use Rattle.indexset_follow.specs.declared.reason.Reason.{Reason}
use Rattle.indexset_follow.specs.declared.reason.Reason.TheVariants.{Refused, NotBegun, Count, Sum}
use Rattle.indexset_follow.specs.declared.reply.Reply.{Reply}
use Rattle.indexset_follow.specs.declared.reply.Reply.TheVariants as reply
use Rattle.std.specs.declared.cmp.Ordering.{Ordering}
use Rattle.indexset_wire.specs.Texts.{Texts}

-- the state of a follower, with the snapshot that has begun and not ended
abbrev pub State : Type 0 → Type 0
State T = Follower T

module _ {T : Type 0} where
  -- a follower with this state, greatest command number and window, without early events or a
  -- snapshot that has begun
  abbrev pub holding : ℕ → Copy T → ℕ → State T
  holding window c d = record {
    held = c;
    done = d;
    coming = None;
    coming_done = 0;
    window = window;
    early = [];
  }

  -- the follower with another snapshot that has begun, or none
  abbrev pub with_coming : State T → Option (Copy T) → ℕ → State T
  with_coming s c d = record {
    held = s.held;
    done = s.done;
    coming = c;
    coming_done = d;
    window = s.window;
    early = s.early;
  }

  -- the follower with a command number, if it is the greatest
  abbrev pub with_done : State T → ℕ → State T
  with_done s d = record {
    held = s.held;
    done = max s.done d;
    coming = s.coming;
    coming_done = s.coming_done;
    window = s.window;
    early = s.early;
  }

  -- ---- an event

  -- an event that is ahead of the awaited one by at most the window becomes an early event
  abbrev pub ahead_taken : State T → Event T → Taken T
  ahead_taken s e =
      if nat_le (event_number e) (s.held.next + s.window)
      then taken s.held (with_early s.early e)
      (reply.Missing s.held.next (first_number (with_early s.early e) (event_number e)))
      else taken s.held s.early (reply.Gap s.held.next)

module _ {T : Type 0} (cmp : T → T → Ordering) where
  -- the awaited event is applied, and then the early events after it
  abbrev pub event_taken : State T → Event T → Taken T
  event_taken s e =
      if event_number e == s.held.next then caught_up cmp s.held (pair (event_number e) e ∷ s.early)
      else if nat_lt (event_number e) s.held.next then taken s.held s.early (reply.Had s.held.next)
      else ahead_taken s e

module _ {T : Type 0} where
  -- the follower with the result of an event
  abbrev pub with_taken : State T → Taken T → State T
  with_taken s t = record {
    held = t.held;
    done = s.done;
    coming = s.coming;
    coming_done = s.coming_done;
    window = s.window;
    early = t.early;
  }

module _ {T : Type 0} (cmp : T → T → Ordering) where
  abbrev pub after_event : State T → Event T → State T
  after_event s e = with_taken s (event_taken cmp s e)

  abbrev pub event_reply : State T → Event T → Reply
  event_reply s e = (event_taken cmp s e).reply

  -- ---- a whole node

  -- the reason why the node does not fit the nodes of the snapshot, if any
  abbrev pub node_refusal : Copy T → List (Pair T T) → Option Refusal
  node_refusal c n = attach_refusal (by_key cmp) (length n) c.nodes n

  -- the node is inserted if it fits
  abbrev pub with_node : List (Pair T T) → Copy T → Copy T
  with_node n c =
      if is_none (node_refusal c n) then copy (attached (by_key cmp) c.nodes n) c.next else c

  abbrev pub after_node : State T → List (Pair T T) → State T
  after_node s n = with_coming s (option_map (with_node n) s.coming) s.coming_done

  abbrev pub node_reply : State T → List (Pair T T) → Reply
  node_reply s n =
      option_map_or (λ c.
      option_map_or (λ cause. reply.Unfit s.held.next (Refused cause)) (node_refusal c n)
      reply.Held)
      s.coming (reply.Unfit s.held.next NotBegun)

module _ {T : Type 0} (texts : Texts T) where
  -- ---- the start and the end of a snapshot, and `done` lines

  -- the sum, if there is one, is that of the snapshot's nodes
  abbrev pub has_sum : Option ℕ → Copy T → ℕ → Bool
  has_sum sum c d = option_map_or (λ told. sum_of texts c d == told) sum true

  -- the reason why the last line does not fit the snapshot, if any
  abbrev pub end_reason : ℕ → Option ℕ → Copy T → ℕ → Option Reason
  end_reason count sum c d =
      if not (length c.nodes == count) then Some Count
      else if not (has_sum sum c d) then Some Sum
      else None

  -- a complete snapshot replaces the whole state
  abbrev pub put_in_place : ℕ → Option ℕ → State T → Copy T → State T
  put_in_place count sum s c =
      if is_none (end_reason count sum c s.coming_done) then holding s.window c s.coming_done
      else with_coming s None 0

  abbrev pub after_mark : State T → Mark → State T
  after_mark s (Start n d) = with_coming s (Some (copy [] n)) d
  after_mark s (End count sum) = option_map_or (put_in_place count sum s) s.coming s
  after_mark s (Done d n) = if nat_lt s.held.next n then s else with_done s d

  abbrev pub mark_reply : State T → Mark → Reply
  mark_reply s (Start n d) = reply.Held
  mark_reply s (End count sum) =
      option_map_or (λ c.
      option_map_or (reply.Unfit s.held.next) (end_reason count sum c s.coming_done)
      (reply.Next c.next))
      s.coming (reply.Unfit s.held.next NotBegun)
  mark_reply s (Done d n) = head_reply s.held.next n

module _ {T : Type 0} (cmp : T → T → Ordering) (texts : Texts T) where
  -- ---- a line

  abbrev pub after_line : State T → List ℕ → State T
  after_line s line =
      option_map_or (after_event cmp s) (event_of texts line)
      (option_map_or (after_node cmp s) (node_of texts line)
      (option_map_or (after_mark texts s) (mark_of line) s))

  abbrev pub reply_line : Voice → State T → List ℕ → List ℕ
  reply_line v s line =
      option_map_or (λ e. voiced v (event_reply cmp s e)) (event_of texts line)
      (option_map_or (λ n. voiced v (node_reply cmp s n)) (node_of texts line)
      (option_map_or (λ m. voiced v (mark_reply texts s m)) (mark_of line)
      (read_reply cmp texts (follower_others v) s.held.nodes s.held.next s.done line)))

  -- the state after the lines
  abbrev pub state_after : State T → List (List ℕ) → State T
  state_after = left_by after_line

module _ {T : Type 0} where
  -- the initial state: no nodes, and event 0 is awaited
  abbrev pub start_state : ℕ → State T
  start_state window = holding window (copy [] 0) 0

  -- the early events are ahead of the awaited one by at most the window
  abbrev pub HoldsNear : State T → Type 0
  HoldsNear s = AscendFrom (λ p. p.key ≤ s.held.next + s.window) (s.held.next + 1) s.early
