-- A read has the same answer in both roles, and changes nothing.
use Rattle.std.proofs.Common.{None, ◌≡◌, ℕ, false, refl, arith}
use lib.Chars.{codes}
use Rattle.indexset_follow.specs.EventLine.{event_of}
use Rattle.indexset_follow.specs.Follow.{State}
use Rattle.indexset_follow.specs.Mark.{mark_of}
use Rattle.indexset_follow.specs.NodeLine.{node_of}
use Rattle.indexset_follow.specs.Query.{QueryFits, query_line}
use Rattle.indexset_follow.specs.Reads.{query_text}
use Rattle.indexset_follow.specs.Store.{after_held, held, held_reply, is_follow, is_lead}
use Rattle.indexset_follow.specs.declared.leader.Leader.{Leader}
use Rattle.indexset_follow.specs.declared.others.Voice.{Voice}
use Rattle.indexset_follow.specs.declared.reads.query.Query.{Query}
use Rattle.indexset_follow.specs.declared.reads.query.Query.TheVariants.{Get, Len, First, Last, Range, Rank, At, Page, Nodes, Next, Head, Snapshot, Sum, Compact}
use Rattle.indexset_follow.specs.declared.role.Role.{Role}
use Rattle.indexset_follow.specs.declared.role.Role.TheVariants.{Following, Leading}
use Rattle.indexset_follow.proofs.QueryLines.{query_cut, query_told}
use Rattle.indexset_follow.proofs.Readings.{no_number}
use Rattle.std.specs.declared.cmp.Ordering.{Ordering}
use Rattle.indexset_wire.specs.Texts.{AreTokens, Texts}

module _ {T : Type 0} (texts : Texts T) where
  -- the line of a read is not an event
  no_event : (q : Query T) → event_of texts (query_line texts q) ≡ None
  no_event (Get k) = rw (query_cut texts (Get k), no_number 103 (codes "et") (omega arith)) refl
  no_event Len = refl
  no_event First = refl
  no_event Last = refl
  no_event (Range a b) = rw (query_cut texts (Range a b), no_number 114 (codes "ange") (omega arith)) refl
  no_event (Rank k) = rw (query_cut texts (Rank k), no_number 114 (codes "ank") (omega arith)) refl
  no_event (At i) = rw (query_cut texts (At i), no_number 97 (codes "t") (omega arith)) refl
  no_event (Page i n) = rw (query_cut texts (Page i n), no_number 112 (codes "age") (omega arith)) refl
  no_event Nodes = refl
  no_event Next = refl
  no_event (Head m) = rw (query_cut texts (Head m), no_number 104 (codes "ead") (omega arith)) refl
  no_event Snapshot = refl
  no_event Sum = refl
  no_event Compact = refl

  -- it is not a node
  no_node : (q : Query T) → node_of texts (query_line texts q) ≡ None
  no_node (Get k) = rw (query_cut texts (Get k)) refl
  no_node Len = refl
  no_node First = refl
  no_node Last = refl
  no_node (Range a b) = rw (query_cut texts (Range a b)) refl
  no_node (Rank k) = rw (query_cut texts (Rank k)) refl
  no_node (At i) = rw (query_cut texts (At i)) refl
  no_node (Page i n) = rw (query_cut texts (Page i n)) refl
  no_node Nodes = refl
  no_node Next = refl
  no_node (Head m) = rw (query_cut texts (Head m)) refl
  no_node Snapshot = refl
  no_node Sum = refl
  no_node Compact = refl

  -- it is not a line of a snapshot or a `done` line
  no_mark : (q : Query T) → mark_of (query_line texts q) ≡ None
  no_mark (Get k) = rw (query_cut texts (Get k)) refl
  no_mark Len = refl
  no_mark First = refl
  no_mark Last = refl
  no_mark (Range a b) = rw (query_cut texts (Range a b)) refl
  no_mark (Rank k) = rw (query_cut texts (Rank k)) refl
  no_mark (At i) = rw (query_cut texts (At i)) refl
  no_mark (Page i n) = rw (query_cut texts (Page i n)) refl
  no_mark Nodes = refl
  no_mark Next = refl
  no_mark (Head m) = rw (query_cut texts (Head m)) refl
  no_mark Snapshot = refl
  no_mark Sum = refl
  no_mark Compact = refl

  -- it is not `lead`
  no_lead : (q : Query T) → is_lead (query_line texts q) ≡ false
  no_lead (Get k) = refl
  no_lead Len = refl
  no_lead First = refl
  no_lead Last = refl
  no_lead (Range a b) = refl
  no_lead (Rank k) = refl
  no_lead (At i) = refl
  no_lead (Page i n) = refl
  no_lead Nodes = refl
  no_lead Next = refl
  no_lead (Head m) = refl
  no_lead Snapshot = refl
  no_lead Sum = refl
  no_lead Compact = refl

  -- it is not `follow`
  no_follow : (q : Query T) → is_follow (query_line texts q) ≡ false
  no_follow (Get k) = refl
  no_follow Len = refl
  no_follow First = refl
  no_follow Last = refl
  no_follow (Range a b) = refl
  no_follow (Rank k) = refl
  no_follow (At i) = refl
  no_follow (Page i n) = refl
  no_follow Nodes = refl
  no_follow Next = refl
  no_follow (Head m) = refl
  no_follow Snapshot = refl
  no_follow Sum = refl
  no_follow Compact = refl

module _ {T : Type 0} (cmp : T → T → Ordering) (texts : Texts T) (spelled : AreTokens texts) where
  module _ (q : Query T) (fit : QueryFits texts q) where
    pub follower_answers : (v : Voice) (size w : ℕ) (s : State T) → held_reply cmp texts v (held size w (Following s)) (query_line texts q) ≡ query_text cmp texts s.held.nodes s.held.next s.done q
    follower_answers v size w s = rw (no_lead texts q, no_follow texts q, no_event texts q, no_node texts q, no_mark texts q, query_told texts spelled q fit) refl

    pub leader_answers : (v : Voice) (size w : ℕ) (l : Leader T) → held_reply cmp texts v (held size w (Leading l)) (query_line texts q) ≡ query_text cmp texts l.pairs.nodes l.pairs.next l.done q
    leader_answers v size w l = rw (no_lead texts q, no_follow texts q, no_mark texts q) (rw (query_told texts spelled q fit) refl)

    pub nothing_changed : (size w : ℕ) (r : Role T) → after_held cmp texts (held size w r) (query_line texts q) ≡ held size w r
    nothing_changed size w (Following s) = rw (no_lead texts q, no_follow texts q, no_event texts q, no_node texts q, no_mark texts q) refl
    nothing_changed size w (Leading l) = rw (no_lead texts q, no_follow texts q, no_mark texts q) (rw (query_told texts spelled q fit) refl)
