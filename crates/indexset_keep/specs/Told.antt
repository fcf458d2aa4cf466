-- The lines that a map keeps of a line that it reads.
use Rattle.std.specs.Prelude.{Bool, true, false, ◌||◌, is_some, Option, None}
use Rattle.std.specs.Prelude.{Some, ℕ, ◌-◌, List, [], filter, length, take, drop}
use Rattle.std.specs.Option.{option_map_or}
use Rattle.indexset_lines.specs.Lines.{whole_lines}
use Rattle.indexset_follow.specs.EventLine.{event_of}
use Rattle.indexset_follow.specs.Mark.{mark_of}
use Rattle.indexset_follow.specs.Query.{query_of}
use Rattle.indexset_follow.specs.Store.{Held, without_return}
use Rattle.indexset_follow.specs.declared.mark.Mark.{Mark}
use Rattle.indexset_follow.specs.declared.mark.Mark.TheVariants.{Start, End, Done}
use Rattle.indexset_follow.specs.declared.role.Role.{Role}
use Rattle.indexset_follow.specs.declared.role.Role.TheVariants.{Following, Leading}
use Rattle.indexset_keep.specs.Followed.{line_kept}
use Rattle.std.specs.declared.cmp.Ordering.{Ordering}
use Rattle.indexset_wire.specs.Texts.{Texts}

-- the mark is a `done` line
abbrev pub is_done : Option Mark → Bool
is_done None = false
is_done (Some (Start n d)) = false
is_done (Some (End count sum)) = false
is_done (Some (Done d n)) = true

-- the list without its first and last element
abbrev pub inner : List (List ℕ) → List (List ℕ)
inner lines = take (length lines - 2) (drop 1 lines)

module _ {T : Type 0} (texts : Texts T) where
  -- the line is an event or a `done` line
  abbrev pub is_told : List ℕ → Bool
  is_told line = is_some (event_of texts line) || is_done (mark_of line)

  -- the events and `done` lines of a list of lines
  abbrev pub told_lines : List (List ℕ) → List (List ℕ)
  told_lines lines = filter is_told lines

  -- what a leader keeps of its answer to a line: nothing of a read
  abbrev pub answer_kept : List ℕ → List ℕ → List (List ℕ)
  answer_kept line answer =
      option_map_or (λ q. []) (query_of texts line) (told_lines (whole_lines answer))

  -- the lines of a leader's answer between the first and the last: nothing of a read
  abbrev pub inner_kept : List ℕ → List ℕ → List (List ℕ)
  inner_kept line answer =
      option_map_or (λ q. []) (query_of texts line) (inner (whole_lines answer))

module _ {T : Type 0} (cmp : T → T → Ordering) (texts : Texts T) where
  -- what is kept of a line in a role, from the answer to it
  abbrev pub kept_in : Role T → List ℕ → List ℕ → List (List ℕ)
  kept_in (Following s) line answer = line_kept cmp texts s line
  kept_in (Leading l) line answer = answer_kept texts line answer

  -- what is kept of a line of an input, where `reply` gives the answers
  abbrev pub kept_by : (Held T → List ℕ → List ℕ) → Held T → List ℕ → List (List ℕ)
  kept_by reply h line = kept_in h.role (without_return line) (reply h line)
