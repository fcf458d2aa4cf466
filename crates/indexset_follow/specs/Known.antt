-- A follower's knowledge of the commands that a leader has executed.
use Rattle.std.specs.Prelude.{◌≡◌, ◌≢◌, ℕ, ◌≤◌, Option, Some, List, take}
use Rattle.indexset_log.specs.Tree.{fresh}
use Rattle.indexset_follow.specs.Follow.{State}
use Rattle.indexset_follow.specs.Leading.{done_of, tree_of}
use Rattle.indexset_follow.specs.Mark.{mark_of}
use Rattle.indexset_follow.specs.declared.mark.Mark.TheVariants.{End, Done}
use Rattle.std.specs.declared.cmp.Ordering.{Ordering}
use Rattle.indexset_wire.specs.Texts.{Texts}

module _ {T : Type 0} (cmp : T → T → Ordering) (texts : Texts T) where
  -- after the first k of its lines the leader had d as the greatest command number, and n as the
  -- number of the next event
  pub record IsDoneBy (size : ℕ) (lines : List (List ℕ)) (k d n : ℕ) : Type 0 where
    pub done : d ≡ done_of texts 0 (take k lines)
    pub next : n ≡ (tree_of cmp texts (fresh size) (take k lines)).next

  -- the line does not end a snapshot, and a `done` line has such numbers
  pub record TellsDone (size : ℕ) (lines : List (List ℕ)) (line : List ℕ) : Type 0 where
    pub no_end : (count : ℕ) (sum : Option ℕ) → mark_of line ≢ Some (End count sum)
    pub told : (d n : ℕ) → mark_of line ≡ Some (Done d n) → (k : ℕ) × IsDoneBy size lines k d n

  -- the greatest command number is such a number, and the events before n were applied
  pub record KnowsDone (size : ℕ) (lines : List (List ℕ)) (s : State T) : Type 0 where
    pub place : ℕ
    pub next : ℕ
    pub done : IsDoneBy size lines place s.done next
    pub taken : next ≤ s.held.next
