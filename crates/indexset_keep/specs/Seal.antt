-- Seals, the checksums of kept lines.
use Rattle.std.specs.Prelude.{ℕ, ◌==◌, if◌then◌else◌, List, []}
use Rattle.std.specs.Prelude.{◌∷◌, ◌++◌, Option, None, Some, codes}
use Rattle.std.specs.Fmt.{decimal}
use Rattle.std.specs.Hash.DefaultHasher as sip
use Rattle.std.specs.Option.{option_and_then, option_map_or}
use Rattle.std.specs.Str.{bytes_eq}
use Rattle.indexset_bench.specs.PairText.{ended, lines_for}
use Rattle.indexset_events.specs.Nodes.{is_filled}
use Rattle.indexset_wire.specs.Numbers.{number_of}
use Rattle.indexset_wire.specs.Parts.{cut_at}

-- the line of a seal
abbrev pub seal_line : ℕ → List ℕ
seal_line seal = codes "seal " ++ decimal seal

-- the seal of a seal line
abbrev pub seal_read : List ℕ → Option ℕ
seal_read line =
    option_and_then (λ cut. if bytes_eq cut.0 (codes "seal") then number_of cut.1 else None)
    (cut_at 32 line)

-- the SipHash-1-3 of a text, with both keys 0
abbrev pub sum_of_text : List ℕ → ℕ
sum_of_text text = sip.finish (sip.write sip.initial text)

-- the seal of lines after another seal: a hash of that seal and the lines
unfoldable pub seal_of : ℕ → List (List ℕ) → ℕ
seal_of seal lines = sum_of_text (ended (seal_line seal) ++ lines_for (λ line. line) lines)

-- the last seal of the lines after a seal and after lines that have none yet; none unless each seal
-- is that of the lines before it and the last line is a seal
unfoldable pub seal_after : ℕ → List (List ℕ) → List (List ℕ) → Option ℕ
seal_after seal behind [] = if is_filled behind then None else Some seal
seal_after seal behind (line ∷ lines) =
    option_map_or (λ n. if n == seal_of seal behind then seal_after n [] lines else None)
    (seal_read line) (seal_after seal (behind ++ line ∷ []) lines)

-- the last seal of kept lines
abbrev pub last_seal : List (List ℕ) → Option ℕ
last_seal lines = seal_after 0 [] lines
