-- The first and the last line of a snapshot, and the `done` line, which has the greatest command
-- number.
use Rattle.std.specs.Prelude.{◌≡◌, ◌≢◌, ℕ, ◌<◌, ◌^◌, ◌==◌, if◌then◌else◌, List}
use Rattle.std.specs.Prelude.{[], ◌∷◌, ◌++◌, Option, None, Some, IfSome, codes}
use Rattle.std.specs.Fmt.{decimal}
use Rattle.std.specs.Option.{option_map, option_map_or, option_and_then}
use Rattle.std.specs.Str.{bytes_eq}
use Rattle.indexset_wire.specs.Texts.{Texts}
use Rattle.indexset_wire.specs.Numbers.{number_of}
use Rattle.indexset_wire.specs.Parts.{cut_at}
use Rattle.indexset_follow.specs.EventLine.{event_of}
use Rattle.indexset_follow.specs.Numbers.{tail_text, two_numbers}
use Rattle.indexset_follow.specs.declared.mark.Mark.{Mark}
use Rattle.indexset_follow.specs.declared.mark.Mark.TheVariants.{Start, End, Done}

-- the sum of a snapshot after the number of its nodes, if there is one
abbrev pub sum_text : Option ℕ → List ℕ
sum_text None = []
sum_text (Some sum) = 32 ∷ decimal sum

-- the line of a mark
abbrev pub mark_line : Mark → List ℕ
mark_line (Start n d) = codes "start " ++ decimal n ++ tail_text d
mark_line (End count sum) = codes "end " ++ decimal count ++ sum_text sum
mark_line (Done d n) = codes "done " ++ decimal d ++ 32 ∷ decimal n

-- the numbers of a mark have at most 64 bits
abbrev pub MarkFits : Mark → Type 0
MarkFits (Start n d) = (n < 2 ^ 64) × (d < 2 ^ 64)
MarkFits (End count sum) = (count < 2 ^ 64) × IfSome sum (λ s. s < 2 ^ 64)
MarkFits (Done d n) = (d < 2 ^ 64) × (n < 2 ^ 64)

-- the start of a snapshot from one number, or from two of which the second is not 0
abbrev pub start_of : List ℕ → Option Mark
start_of text =
    option_map_or (λ n. Some (Start n 0)) (number_of text)
    (option_and_then (λ p. if p.1 == 0 then None else Some (Start p.0 p.1)) (two_numbers text))

-- the end of a snapshot from the number of its nodes, or from that and its sum
abbrev pub end_of : List ℕ → Option Mark
end_of text =
    option_map_or (λ n. Some (End n None)) (number_of text)
    (option_map (λ p. End p.0 (Some p.1)) (two_numbers text))

-- the mark of a word and the text after it
abbrev pub word_mark : List ℕ → List ℕ → Option Mark
word_mark word rest =
    if bytes_eq word (codes "start") then start_of rest
    else if bytes_eq word (codes "end") then end_of rest
    else if bytes_eq word (codes "done") then option_map (λ p. Done p.0 p.1) (two_numbers rest)
    else None

-- the mark of a line
abbrev pub mark_of : List ℕ → Option Mark
mark_of line = option_and_then (λ cut. word_mark cut.0 cut.1) (cut_at 32 line)

-- the line is not an event, and does not end a snapshot
abbrev pub LacksEnd : {T : Type 0} → Texts T → List ℕ → Type 0
LacksEnd texts line =
    (event_of texts line ≡ None)
    × ((count : ℕ) (sum : Option ℕ) → mark_of line ≢ Some (End count sum))
