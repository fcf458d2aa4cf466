-- Command numbers.
use Rattle.std.specs.Prelude.{ℕ, ◌==◌, if◌then◌else◌, max, List, [], ◌∷◌, Option, None, Some}
use Rattle.std.specs.Option.{option_map, option_and_then, option_map_or}
use Rattle.indexset_bench.specs.PairCommand.{pair_meaning}
use Rattle.indexset_bench.specs.declared.pair_command.PairCommand.{PairCommand}
use Rattle.indexset_wire.specs.Texts.{Texts}
use Rattle.indexset_wire.specs.Numbers.{number_of}
use Rattle.indexset_wire.specs.Parts.{cut_at}
use Rattle.indexset_follow.specs.Query.{query_of}
use Rattle.indexset_follow.specs.declared.echo.Command.{Command}

-- a command, and its command number if it has one
abbrev pub command : {T : Type 0} → Option ℕ → PairCommand T → Command T
command echo c = record { echo = echo; change = c }

-- the command number of a word, `#` and digits
abbrev pub echo_of : List ℕ → Option ℕ
echo_of [] = None
echo_of (c ∷ digits) = if c == 35 then number_of digits else None

-- the greatest command number after another command
abbrev pub done_by : {T : Type 0} → ℕ → Command T → ℕ
done_by d c = option_map_or (max d) c.echo d

module _ {T : Type 0} (texts : Texts T) where
  -- the command of a text that is not a read
  abbrev pub change_of : List ℕ → Option (PairCommand T)
  change_of text = option_map_or (λ q. None) (query_of texts text) (pair_meaning texts text)

  -- the command of a line that begins with a command number and a space
  abbrev pub echoed_of : List ℕ → Option (Command T)
  echoed_of line =
      option_and_then (λ cut.
      option_and_then (λ n. option_map (command (Some n)) (change_of cut.1)) (echo_of cut.0))
      (cut_at 32 line)

  -- the command of a line, with or without a command number
  abbrev pub command_of : List ℕ → Option (Command T)
  command_of line =
      option_map_or (λ c. Some (command None c)) (pair_meaning texts line) (echoed_of line)
