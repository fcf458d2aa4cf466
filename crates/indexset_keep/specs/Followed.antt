-- The lines that a follower keeps of a line that it reads. Replaying them without a window gives
-- its state.
use Rattle.std.specs.Prelude.{ℕ, Option, ◌+◌, ◌-◌, ◌==◌, is_none}
use Rattle.std.specs.Prelude.{if◌then◌else◌, nat_lt, List, [], ◌∷◌, map, take}
use Rattle.std.specs.Option.{option_map_or}
use Rattle.indexset_lines.specs.Lines.{whole_lines}
use Rattle.indexset_bench.specs.PairText.{event_text}
use Rattle.indexset_events.specs.Replay.{event_number}
use Rattle.indexset_follow.specs.Copy.{Copy, unsummed_text}
use Rattle.indexset_follow.specs.Early.{consecutive}
use Rattle.indexset_follow.specs.EventLine.{Event, event_of}
use Rattle.indexset_follow.specs.Follow.{State, after_event, end_reason}
use Rattle.indexset_follow.specs.Mark.{mark_of}
use Rattle.indexset_follow.specs.declared.mark.Mark.{Mark}
use Rattle.indexset_follow.specs.declared.mark.Mark.TheVariants.{Start, End, Done}
use Rattle.std.specs.declared.cmp.Ordering.{Ordering}
use Rattle.indexset_wire.specs.Texts.{Texts}

module _ {T : Type 0} (cmp : T → T → Ordering) where
  -- the number of events that an event applies: itself and the early events after it
  abbrev pub step_count : State T → Event T → ℕ
  step_count s e = (after_event cmp s e).held.next - s.held.next

module _ {T : Type 0} (cmp : T → T → Ordering) (texts : Texts T) where
  -- the lines of the awaited event and of the early events that are applied after it
  abbrev pub event_kept : State T → Event T → List (List ℕ)
  event_kept s e =
      if event_number e == s.held.next
      then
      map (event_text texts) (take (step_count cmp s e) (e ∷ consecutive (s.held.next + 1) s.early))
      else []

module _ {T : Type 0} (texts : Texts T) where
  -- the lines of a complete snapshot, without a sum
  abbrev pub end_kept : ℕ → Option ℕ → ℕ → Copy T → List (List ℕ)
  end_kept count sum d c =
      if is_none (end_reason texts count sum c d) then whole_lines (unsummed_text texts c d) else []

  abbrev pub mark_kept : State T → List ℕ → Mark → List (List ℕ)
  mark_kept s line (Start n d) = []
  mark_kept s line (End count sum) = option_map_or (end_kept count sum s.coming_done) s.coming []
  mark_kept s line (Done d n) = if nat_lt s.held.next n then [] else line ∷ []

module _ {T : Type 0} (cmp : T → T → Ordering) (texts : Texts T) where
  abbrev pub line_kept : State T → List ℕ → List (List ℕ)
  line_kept s line =
      option_map_or (event_kept cmp texts s) (event_of texts line)
      (option_map_or (mark_kept texts s line) (mark_of line) [])
