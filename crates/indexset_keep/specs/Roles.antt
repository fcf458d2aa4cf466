-- The state of a map in either role, and the state that lines give.
use Rattle.std.specs.Prelude.{◌≡◌, ℕ, ◌<◌, ◌≤◌, ◌^◌, Bool, if◌then◌else◌, List}
use Rattle.indexset_lines.specs.Lines.{whole_lines}
use Rattle.indexset_follow.specs.Copy.{Copy, copy, unsummed_text}
use Rattle.indexset_follow.specs.Follow.{State, holding, start_state, state_after}
use Rattle.indexset_follow.specs.Leading.{leader_of}
use Rattle.indexset_follow.specs.Store.{Held, promoted}
use Rattle.indexset_follow.specs.declared.role.Role.{Role}
use Rattle.indexset_follow.specs.declared.role.Role.TheVariants.{Following, Leading}
use Rattle.indexset_keep.specs.Leads.{IsSound}
use Rattle.indexset_keep.specs.Sound.{IsSoundFollower}
use Rattle.std.specs.declared.cmp.Ordering.{Ordering}
use Rattle.indexset_wire.specs.Texts.{Texts}

module _ {T : Type 0} where
  -- the nodes and the next number
  abbrev pub copy_held : Role T → Copy T
  copy_held (Following s) = s.held
  copy_held (Leading l) = copy l.pairs.nodes l.pairs.next

  -- the greatest command number
  abbrev pub done_held : Role T → ℕ
  done_held (Following s) = s.done
  done_held (Leading l) = l.done

  -- the state of a role as that of a follower without a window
  abbrev pub settled : Role T → State T
  settled r = holding 0 (copy_held r) (done_held r)

module _ {T : Type 0} (cmp : T → T → Ordering) (texts : Texts T) where
  -- replaying the lines from nothing gives this state
  abbrev pub LeadsTo : List (List ℕ) → State T → Type 0
  LeadsTo lines s = state_after cmp texts (start_state 0) lines ≡ s

module _ {T : Type 0} (texts : Texts T) where
  -- the lines of a snapshot of the role, without a sum
  abbrev pub snapshot_of : Role T → List (List ℕ)
  snapshot_of r = whole_lines (unsummed_text texts (copy_held r) (done_held r))

module _ {T : Type 0} where
  -- the initial role for a follower's state
  abbrev pub role_of : ℕ → ℕ → Bool → State T → Role T
  role_of size window leads s =
      if leads then Leading (leader_of (promoted size s.held) s.done)
      else Following (holding window s.held s.done)

module _ {T : Type 0} (cmp : T → T → Ordering) (texts : Texts T) where
  -- a role that the program can have: its nodes are lawful, and its numbers have at most 64 bits
  abbrev pub IsSoundRole : Role T → Type 0
  IsSoundRole (Following s) = IsSoundFollower cmp texts s
  IsSoundRole (Leading l) = IsSound cmp texts l × (l.pairs.next < 2 ^ 64)

  pub record IsSoundMap (h : Held T) : Type 0 where
    pub two : 2 ≤ h.size
    pub few : h.size < 2 ^ 64
    pub role : IsSoundRole h.role
