-- The events that the first program emits, and the lines of its output that are events.
use Rattle.std.specs.Prelude.{◌≡◌, ℕ, is_some, Some, List, [], ◌∷◌, ◌++◌, filter, slice_get}
use Rattle.std.specs.Option.{option_map_or}
use Rattle.indexset_lines.specs.Lines.{lines_of}
use Rattle.indexset_bench.specs.PairCommand.{pair_meaning}
use Rattle.indexset_bench.specs.Pairs.{told_events}
use Rattle.indexset_bench.specs.Text.{Stores, no_stores, replies_of, stores_after}
use Rattle.indexset_follow.specs.EventLine.{Event, event_of}
use Rattle.std.specs.Ordering.{nat_cmp}
use Rattle.indexset_wire.specs.Texts.{number_texts}

-- the events of a line: those of its command to the map
abbrev pub line_events : Stores → List ℕ → List (Event ℕ)
line_events s line = option_map_or (told_events nat_cmp s.pairs) (pair_meaning number_texts line) []

-- the events of the lines, in order
unfoldable pub events_from : Stores → List (List ℕ) → List (Event ℕ)
events_from s [] = []
events_from s (line ∷ lines) = line_events s line ++ events_from (stores_after s line) lines

-- the events of the lines from the initial state
abbrev pub events_of_lines : List (List ℕ) → List (Event ℕ)
events_of_lines lines = events_from no_stores lines

-- the lines that the first program writes for these lines
abbrev pub output_lines : List (List ℕ) → List (List ℕ)
output_lines lines = lines_of (replies_of no_stores lines)

-- the lines that are events
abbrev pub event_lines : List (List ℕ) → List (List ℕ)
event_lines lines = filter (λ line. is_some (event_of number_texts line)) lines

-- the line is one of these
pub record IsAmong (lines : List (List ℕ)) (line : List ℕ) : Type 0 where
  pub place : ℕ
  pub at : slice_get lines place ≡ Some line
