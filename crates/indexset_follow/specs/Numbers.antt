-- The texts of two numbers, and of an optional last number.
use Rattle.std.specs.Prelude.{ℕ, ◌==◌, if◌then◌else◌, List, [], ◌∷◌, Option}
use Rattle.std.specs.Fmt.{decimal}
use Rattle.std.specs.Option.{option_and_then, option_map}
use Rattle.indexset_wire.specs.Numbers.{number_of}
use Rattle.indexset_wire.specs.Parts.{cut_at}

-- the two numbers of a text that separates them with a space
abbrev pub two_numbers : List ℕ → Option (ℕ × ℕ)
two_numbers text =
    option_and_then
    (λ cut. option_and_then (λ a. option_map (λ b. (a, b)) (number_of cut.1)) (number_of cut.0))
    (cut_at 32 text)

-- a last number, which is omitted if it is 0
abbrev pub tail_text : ℕ → List ℕ
tail_text n = if n == 0 then [] else 32 ∷ decimal n
