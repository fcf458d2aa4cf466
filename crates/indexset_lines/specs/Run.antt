-- A run, defined on the bytes that remain in its reader and on the contents of its writer.
use Rattle.std.specs.Prelude.{Option, ℕ, List, [], ◌∷◌, ◌++◌, OnSome}
use Rattle.std.specs.Io.KnownBytes.{Appends, Consumes, IsAtEnd}
use Rattle.indexset_lines.specs.Lines.{IsLinePart, IsWhole, lines_of, rest_of, whole_lines}

-- the state after the lines
module _ {S : Type 0} (after : S → List ℕ → S) where
  unfoldable pub left_by : S → List (List ℕ) → S
  left_by s [] = s
  left_by s (line ∷ lines) = left_by (after s line) lines

-- the reader returned an input to its end, and the text for it was written
pub record AnswersAll (text : List ℕ → List ℕ)
    (reader reader' writer writer' : Option (List ℕ)) : Type 0 where
  pub input : List ℕ
  pub read : Consumes reader reader' input
  pub at_end : OnSome reader (IsAtEnd reader')
  pub written : Appends writer writer' (text input)

module _ {S : Type 0} (reply : S → List ℕ → List ℕ) (after : S → List ℕ → S) where
  -- the concatenation of the replies to the lines
  unfoldable pub replies_to : S → List (List ℕ) → List ℕ
  replies_to s [] = []
  replies_to s (line ∷ lines) = reply s line ++ replies_to (after s line) lines

  module _ (cut_reply : S → List ℕ → List ℕ) where
    -- the reply to the bytes after the last line end, if there are any
    abbrev pub rest_reply : S → List ℕ → List ℕ
    rest_reply s [] = []
    rest_reply s (x ∷ xs) = cut_reply s (x ∷ xs)

    -- the replies to the whole lines of an input, and the reply to the rest
    abbrev pub text_of : S → List ℕ → List ℕ
    text_of start input =
        replies_to start (whole_lines input)
        ++ rest_reply (left_by after start (whole_lines input)) (rest_of input)

  module _ (start : S) where
    -- the reader returned whole lines and such a rest, and the replies to the whole lines were
    -- written
    pub record AnswersWholeLines (IsRest : List ℕ → Type 0)
        (reader reader' writer writer' : Option (List ℕ)) : Type 0 where
      pub whole : List ℕ
      pub rest : List ℕ
      pub is_whole : IsWhole whole
      pub is_rest : IsRest rest
      pub read : Consumes reader reader' (whole ++ rest)
      pub written : Appends writer writer' (replies_to start (lines_of whole))

    -- the same, where the rest is the line whose events need more numbers than remain
    abbrev pub LacksNumbers : (S → Type 0) → (reader reader' writer writer' : Option (List ℕ))
        → Type 0
    LacksNumbers lacks reader reader' writer writer' =
        (answered : AnswersWholeLines IsLinePart reader reader' writer writer')
        × lacks (left_by after start (lines_of (answered.whole ++ answered.rest)))
