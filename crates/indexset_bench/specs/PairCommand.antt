-- The meaning of a line as a command to the map.
use Rattle.std.specs.Prelude.{ℕ, if◌then◌else◌, List, ◌∷◌, ◌++◌, Option, None, Some, codes}
use Rattle.std.specs.Option.{option_map, option_map_or}
use Rattle.std.specs.Str.{bytes_eq}
use Rattle.indexset_wire.specs.Parts.{cut_at}
use Rattle.indexset_bench.specs.Texts.{two_keys}
use Rattle.indexset_wire.specs.Texts.{Texts}
use Rattle.indexset_bench.specs.declared.pair_command.PairCommand.{PairCommand}
use Rattle.indexset_bench.specs.declared.pair_command.PairCommand.TheVariants.{Put, Cut, Nodes}

module _ {T : Type 0} (texts : Texts T) where
  -- the line that spells a command
  abbrev pub pair_spelling : PairCommand T → List ℕ
  pair_spelling (Put k v) = codes "put " ++ texts.text k ++ 32 ∷ texts.text v
  pair_spelling (Cut k) = codes "cut " ++ texts.text k
  pair_spelling Nodes = codes "nodes"

  -- the key and the value of the command are in range
  abbrev pub CommandFits : PairCommand T → Type 0
  CommandFits (Put k v) = texts.InRange k × texts.InRange v
  CommandFits (Cut k) = texts.InRange k
  CommandFits Nodes = Unit {0}

  -- the command that has this word and these arguments
  abbrev pub word_command : List ℕ → List ℕ → Option (PairCommand T)
  word_command word rest =
      if bytes_eq word (codes "put") then option_map (λ p. Put p.0 p.1) (two_keys texts rest)
      else if bytes_eq word (codes "cut") then option_map Cut (texts.parse rest)
      else None

  -- the command that the line spells, if any
  unfoldable pub pair_meaning : List ℕ → Option (PairCommand T)
  pair_meaning line =
      option_map_or (λ cut. word_command cut.0 cut.1) (cut_at 32 line)
      (if bytes_eq line (codes "nodes") then Some Nodes else None)
