-- The effect of a line on a map in either role, and the answer to it.
use Rattle.std.specs.Prelude.{ℕ, ◌&&◌, is_none, not, if◌then◌else◌, Bool, true}
use Rattle.std.specs.Prelude.{false, List, [], codes, Option, None, Some}
use Rattle.std.specs.Io.BufRead.{strip_last}
use Rattle.std.specs.Str.{bytes_eq}
use Rattle.indexset_bench.specs.Pairs.{PairTree}
use Rattle.indexset_core.specs.Pairs.{by_key}
use Rattle.indexset_events.specs.Attach.{nodes_refusal}
use Rattle.indexset_events.specs.Nodes.{is_filled}
use Rattle.indexset_lines.specs.Run.{left_by, replies_to}
use Rattle.indexset_core.specs.declared.refusal.Refusal.TheVariants.{TooLarge}
use Rattle.indexset_follow.specs.Copy.{Copy, copy}
use Rattle.indexset_follow.specs.Follow.{after_line, holding, reply_line, start_state}
use Rattle.indexset_follow.specs.Leading.{leader_after, lacks, leader_of, leading_reply}
use Rattle.indexset_follow.specs.Mark.{mark_of}
use Rattle.indexset_follow.specs.Reads.{read_reply}
use Rattle.indexset_follow.specs.Reply.{follower_others, reply_ended}
use Rattle.indexset_follow.specs.declared.mark.Mark.{Mark}
use Rattle.indexset_follow.specs.declared.mark.Mark.TheVariants.{Start, End, Done}
use Rattle.indexset_follow.specs.declared.others.Voice.{Voice}
use Rattle.indexset_follow.specs.declared.reason.Reason.TheVariants.{Refused}
use Rattle.indexset_follow.specs.declared.reply.Reply.TheVariants as reply
use Rattle.indexset_follow.specs.declared.role.Role.{Role}
use Rattle.indexset_follow.specs.declared.role.Role.TheVariants.{Following, Leading}
use Rattle.std.specs.declared.cmp.Ordering.{Ordering}
use Rattle.indexset_wire.specs.Texts.{Texts}

-- a map in one of two roles, with the node size of a leader and the window of a follower
pub record Held (T : Type 0) : Type 0 where
  pub size : ℕ
  pub window : ℕ
  pub role : Role T

module _ {T : Type 0} where
  abbrev pub held : ℕ → ℕ → Role T → Held T
  held size window role = record { size = size; window = window; role = role }

  -- ---- a follower becomes a leader

  -- a leader of the nodes, whose next event has the awaited number
  abbrev pub promoted : ℕ → Copy T → PairTree T
  promoted size c = record { nodes = c.nodes; size = size; next = c.next }

module _ {T : Type 0} (cmp : T → T → Ordering) where
  -- no node has more pairs than the node size of a leader
  abbrev pub can_lead : ℕ → Copy T → Bool
  can_lead size c = is_none (nodes_refusal (by_key cmp) size c.nodes)

  abbrev pub after_lead : ℕ → Role T → Role T
  after_lead size (Following s) =
      if can_lead size s.held then Leading (leader_of (promoted size s.held) s.done)
      else Following s
  after_lead size (Leading l) = Leading l

  abbrev pub lead_reply : ℕ → Role T → List ℕ
  lead_reply size (Following s) =
      reply_ended
      (if can_lead size s.held then reply.Next s.held.next
      else reply.Unfit s.held.next (Refused TooLarge))
  lead_reply size (Leading l) = reply_ended (reply.Next l.pairs.next)

module _ {T : Type 0} where
  -- ---- a leader becomes a follower

  -- a follower of the leader's nodes that awaits the leader's next event
  abbrev pub after_follow : ℕ → Role T → Role T
  after_follow window (Following s) = Following s
  after_follow window (Leading l) =
      Following (holding window (copy l.pairs.nodes l.pairs.next) l.done)

  abbrev pub follow_reply : Role T → List ℕ
  follow_reply (Following s) = reply_ended (reply.Next s.held.next)
  follow_reply (Leading l) = reply_ended (reply.Next l.pairs.next)

-- ---- a snapshot starts at a leader without nodes

abbrev pub is_start : Option Mark → Bool
is_start None = false
is_start (Some (Start n d)) = true
is_start (Some (End count sum)) = false
is_start (Some (Done d n)) = false

-- the line starts a snapshot
abbrev pub starts : List ℕ → Bool
starts line = is_start (mark_of line)

module _ {T : Type 0} where
  -- a leader without nodes becomes a follower at the start of a snapshot
  abbrev pub begun : ℕ → Role T → List ℕ → Role T
  begun window (Following s) line = Following s
  begun window (Leading l) line =
      if starts line && not (is_filled l.pairs.nodes)
      then Following (holding window (copy [] l.pairs.next) l.done) else Leading l

-- ---- a line, in either role

abbrev pub is_lead : List ℕ → Bool
is_lead line = bytes_eq line (codes "lead")

abbrev pub is_follow : List ℕ → Bool
is_follow line = bytes_eq line (codes "follow")

module _ {T : Type 0} (cmp : T → T → Ordering) (texts : Texts T) where
  abbrev pub after_in_role : Role T → List ℕ → Role T
  after_in_role (Following s) line = Following (after_line cmp texts s line)
  after_in_role (Leading l) line = Leading (leader_after cmp texts l line)

  abbrev pub reply_in_role : Voice → Role T → List ℕ → List ℕ
  reply_in_role v (Following s) line = reply_line cmp texts v s line
  reply_in_role v (Leading l) line = leading_reply cmp texts v.others l line

  abbrev pub role_after : Held T → List ℕ → Role T
  role_after h line =
      if is_lead line then after_lead cmp h.size h.role
      else if is_follow line then after_follow h.window h.role
      else after_in_role (begun h.window h.role line) line

  abbrev pub after_held : Held T → List ℕ → Held T
  after_held h line = held h.size h.window (role_after h line)

  abbrev pub held_reply : Voice → Held T → List ℕ → List ℕ
  held_reply v h line =
      if is_lead line then lead_reply cmp h.size h.role
      else if is_follow line then follow_reply h.role
      else reply_in_role v (begun h.window h.role line) line

  -- a last line without a line end is answered if it is a read, and changes nothing
  abbrev pub cut_in_role : Voice → Role T → List ℕ → List ℕ
  cut_in_role v (Following s) line =
      read_reply cmp texts (follower_others v) s.held.nodes s.held.next s.done line
  cut_in_role v (Leading l) line =
      read_reply cmp texts v.others l.pairs.nodes l.pairs.next l.done line

  abbrev pub held_cut : Voice → Held T → List ℕ → List ℕ
  held_cut v h line = cut_in_role v h.role line

-- ---- a line of the input

-- a byte 13 directly before the byte 10 belongs to the line end
abbrev pub without_return : List ℕ → List ℕ
without_return line = strip_last 13 line

module _ {T : Type 0} (cmp : T → T → Ordering) (texts : Texts T) where
  abbrev pub after_input : Held T → List ℕ → Held T
  after_input h line = after_held cmp texts h (without_return line)

  abbrev pub input_reply : Voice → Held T → List ℕ → List ℕ
  input_reply v h line = held_reply cmp texts v h (without_return line)

module _ {T : Type 0} where
  -- a leader whose number of events is above the greatest event number
  abbrev pub role_lacks : Role T → Type 0
  role_lacks (Following s) = ⊥
  role_lacks (Leading l) = lacks l.pairs

  abbrev pub held_lacks : Held T → Type 0
  held_lacks h = role_lacks h.role

module _ {T : Type 0} (cmp : T → T → Ordering) (texts : Texts T) where
  -- ---- lines

  -- the concatenation of the answers to the lines
  abbrev pub held_replies : Voice → Held T → List (List ℕ) → List ℕ
  held_replies v = replies_to (held_reply cmp texts v) (after_held cmp texts)

  -- the map after the lines
  abbrev pub held_after : Held T → List (List ℕ) → Held T
  held_after = left_by (after_held cmp texts)

module _ {T : Type 0} where
  -- the initial map: no nodes, and 0 as the number of the next event
  abbrev pub first_held : ℕ → ℕ → Bool → Held T
  first_held size window leads =
      held size window
      (if leads then Leading (leader_of (record { nodes = []; size = size; next = 0 }) 0)
      else Following (start_state window))
