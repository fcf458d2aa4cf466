-- What a run keeps of its answers, and what a crash leaves of it.
use Rattle.std.specs.Prelude.{◌≡◌, ◌⊎◌, ◌≤◌, ◌+◌, ◌-◌, ◌/◌, ◌&&◌, ◌||◌, nat_lt}
use Rattle.std.specs.Prelude.{Bool, Option, OnSome, ℕ, List, [], ◌++◌, length}
use Rattle.std.specs.Io.KnownBytes.{Appends, Consumes, IsAtEnd}
use Rattle.indexset_core.specs.Nodes.{concat}
use Rattle.indexset_core.specs.declared.pair.Pair.{Pair}
use Rattle.indexset_lines.specs.Lines.{IsWhole, lines_of, whole_lines}
use Rattle.indexset_lines.specs.Run.{left_by, replies_to, text_of}
use Rattle.indexset_follow.specs.Follow.{State}
use Rattle.indexset_follow.specs.Store.{Held, after_input}
use Rattle.indexset_journal.specs.Kept.{lines_in}
use Rattle.indexset_keep.specs.Roles.{LeadsTo, settled}
use Rattle.indexset_keep.specs.declared.answer.End.{End}
use Rattle.indexset_keep.specs.declared.answer.End.TheVariants.{Whole, Cut}
use Rattle.sqlite_trees.specs.Tree.{Trees}
use Rattle.sqlite_trees.specs.View.{View, IsClean, doubt}
use Rattle.std.specs.declared.cmp.Ordering.{Ordering}
use Rattle.indexset_wire.specs.Texts.{Texts}

module _ {T : Type 0} (cmp : T → T → Ordering) (texts : Texts T) where
  -- the map after whole lines
  abbrev pub map_after : Held T → List ℕ → Held T
  map_after h whole = left_by (after_input cmp texts) h (lines_of whole)

module _ {T : Type 0} where
  -- the state that replaying the kept lines should give
  abbrev pub state_held : Held T → State T
  state_held h = settled h.role

-- the bytes after the last line end
abbrev pub rest_behind : End → List ℕ → List ℕ
rest_behind Whole line = []
rest_behind Cut line = line

module _ {T : Type 0} where
  -- the kept lines are more than 4,096 and more than ten for each pair; or, without one for each
  -- node, they are more than one for twenty pairs and, with one for ten pairs, more than 1,500,000
  abbrev pub is_long : ℕ → List (List (Pair T T)) → Bool
  is_long lines nodes =
      let pairs = length (concat nodes) in
      let events = lines - length nodes in
      (nat_lt 4096 lines && nat_lt pairs (lines / 10))
      || (nat_lt (pairs / 20) events && nat_lt 1500000 (events + pairs / 10))

  -- the nodes, the next number and the greatest command number are the same
  pub record IsSame (s t : State T) : Type 0 where
    pub held : s.held ≡ t.held
    pub done : s.done ≡ t.done

module _ {T : Type 0} (cmp : T → T → Ordering) (texts : Texts T) where
  -- ---- lines that are kept

  module _ {S : Type 0} (view : S → View) (recovers : S → Trees → Type 0) (old new : S) where
    -- the lines after a crash give the second state; or they are as before, and the states are the
    -- same
    abbrev pub IsLeft : State T → State T → Trees → Type 0
    IsLeft from to db = (recovers old db × IsSame from to) ⊎ LeadsTo cmp texts (lines_in db) to

    -- replaying the kept lines gave the first state before, and gives the second after
    pub record Leads (from to : State T) : Type 0 where
      pub clean : doubt (view old).is_clean ≤ doubt (view new).is_clean
      pub kept : IsClean (view new) → LeadsTo cmp texts (lines_in (view old).committed) from
          → LeadsTo cmp texts (lines_in (view new).committed) to
      pub crash : IsClean (view new) → LeadsTo cmp texts (lines_in (view old).committed) from
          → (db : Trees) → recovers new db → IsLeft from to db

    -- replaying the kept lines gave the first state before, and gives the second or the third after
    -- a crash
    pub record MayLead (from to more : State T) : Type 0 where
      pub clean : doubt (view old).is_clean ≤ doubt (view new).is_clean
      pub crash : IsClean (view new) → LeadsTo cmp texts (lines_in (view old).committed) from
          → (db : Trees) → recovers new db
          → IsLeft from to db ⊎ LeadsTo cmp texts (lines_in db) more

  -- ---- a run

  module _ (reply cut : Held T → List ℕ → List ℕ) (h : Held T) {S : Type 0} (view : S → View)
      (recovers : S → Trees → Type 0) (old new : S)
      (reader reader' writer writer' : Option (List ℕ)) (from : State T) where
    -- the answers to whole lines
    abbrev pub answers_to : List ℕ → List ℕ
    answers_to whole = replies_to reply (after_input cmp texts) h (lines_of whole)

    -- the reader returned whole lines and such a rest, and the answers to the lines were written;
    -- replaying what is kept gives the state after them
    pub record AnswersWhole (rest : List ℕ) (now : Held T) : Type 0 where
      pub whole : List ℕ
      pub is_whole : IsWhole whole
      pub read : Consumes reader reader' (whole ++ rest)
      pub written : Appends writer writer' (answers_to whole)
      pub left : now ≡ map_after cmp texts h whole
      pub leads : Leads view recovers old new from (state_held (map_after cmp texts h whole))

    -- the reader returned an input to its end, and the text for it was written; replaying what is
    -- kept gives the state after its whole lines
    pub record AnswersAll : Type 0 where
      pub input : List ℕ
      pub read : Consumes reader reader' input
      pub at_end : OnSome reader (IsAtEnd reader')
      pub written : Appends writer writer' (text_of reply (after_input cmp texts) cut h input)
      pub leads : Leads view recovers old new from
          (state_held (left_by (after_input cmp texts) h (whole_lines input)))

    -- the reader returned whole lines whose answers were written, further whole lines that were
    -- executed, and a rest: after a crash, replaying what is kept gives the state after the first
    -- part or after both
    pub record AnswersSome (IsOut : Type 0) : Type 0 where
      pub whole : List ℕ
      pub more : List ℕ
      pub rest : List ℕ
      pub is_whole : IsWhole whole
      pub is_more : IsWhole more
      pub read : Consumes reader reader' (whole ++ (more ++ rest))
      pub written : IsOut → Appends writer writer' (answers_to whole)
      pub crash : MayLead view recovers old new from (state_held (map_after cmp texts h whole))
          (state_held (map_after cmp texts (map_after cmp texts h whole) more))

  -- the map starts from some lines; the reader returned an input to its end, and the text for it
  -- was written
  pub record AnswersFrom (reply cut : Held T → List ℕ → List ℕ) (first : List (List ℕ) → Held T)
      (reader reader' writer writer' : Option (List ℕ)) : Type 0 where
    pub lines : List (List ℕ)
    pub input : List ℕ
    pub read : Consumes reader reader' input
    pub at_end : OnSome reader (IsAtEnd reader')
    pub written : Appends writer writer'
        (text_of reply (after_input cmp texts) cut (first lines) input)
