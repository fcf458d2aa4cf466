-- The lines of an input.
use Rattle.std.specs.Prelude.{◌≢◌, ℕ, Bool, ◌==◌, if◌then◌else◌, List, [], ◌∷◌, All}
use Rattle.std.specs.Io.{StopsAt, IsEmptyOrEndsWith}
use Rattle.std.specs.List.{list_any}

-- no byte is a line end
abbrev pub HasNoEnd : List ℕ → Type 0
HasNoEnd xs = All (λ x. x ≢ 10) xs

-- a part of one line, or a line with its end: no byte but the last is a line end
abbrev pub IsLinePart : List ℕ → Type 0
IsLinePart xs = StopsAt xs 10

-- the bytes are empty or end with a line end
unfoldable pub IsWhole : List ℕ → Type 0
IsWhole xs = IsEmptyOrEndsWith xs 10

-- the byte is prepended to the first line, or is a line if there are none
abbrev pub onto_first : ℕ → List (List ℕ) → List (List ℕ)
onto_first x [] = (x ∷ []) ∷ []
onto_first x (line ∷ lines) = (x ∷ line) ∷ lines

-- the input split at each byte 10; a last empty part is not a line
unfoldable pub lines_of : List ℕ → List (List ℕ)
lines_of [] = []
lines_of (x ∷ xs) = if x == 10 then [] ∷ lines_of xs else onto_first x (lines_of xs)

-- the byte is prepended to the first line, if there is one
abbrev pub before_first : ℕ → List (List ℕ) → List (List ℕ)
before_first x [] = []
before_first x (line ∷ lines) = (x ∷ line) ∷ lines

-- the lines of the input that have a line end
unfoldable pub whole_lines : List ℕ → List (List ℕ)
whole_lines [] = []
whole_lines (x ∷ xs) = if x == 10 then [] ∷ whole_lines xs else before_first x (whole_lines xs)

-- some byte is a line end
abbrev pub has_end : List ℕ → Bool
has_end xs = list_any (λ x. x == 10) xs

-- the bytes after the last line end
unfoldable pub rest_of : List ℕ → List ℕ
rest_of [] = []
rest_of (x ∷ xs) = if has_end (x ∷ xs) then rest_of xs else x ∷ xs
