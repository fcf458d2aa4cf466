-- Reading a line: what is consumed from the reader, and what is appended to the line.
use Rattle.std.specs.Prelude.{Option, ◌≡◌, ℕ, ◌<◌, List, [], ◌∷◌, ◌++◌, length, None, Some, OnSome}
use Rattle.std.specs.Io.KnownBytes.{Consumes, IsAtEnd}
use Rattle.indexset_lines.specs.declared.line.Part.{Part}
use Rattle.indexset_lines.specs.declared.line.Part.TheVariants.{Whole, Last, End}
use Rattle.indexset_lines.specs.Lines.{HasNoEnd}

-- the reader returned a line and its end, or the last line, or no bytes
abbrev pub Reads : Option (List ℕ) → Option (List ℕ) → List ℕ → Part → Type 0
Reads old new line (Whole is_used_up) = HasNoEnd line × Consumes old new (line ++ 10 ∷ [])
Reads old new line Last =
    HasNoEnd line × Consumes old new line × (0 < length line) × OnSome old (IsAtEnd new)
Reads old new line End = (line ≡ []) × Consumes old new [] × OnSome old (IsAtEnd new)

-- the reader returned less than a line
abbrev pub Stops : Option (List ℕ) → Option (List ℕ) → List ℕ → Type 0
Stops old new part = HasNoEnd part × Consumes old new part

-- a piece moved from the reader to the line, and the reader returned the ending after it
pub record Moves (old new : Option (List ℕ)) (before after ending : List ℕ) : Type 0 where
  pub piece : List ℕ
  pub no_end : HasNoEnd piece
  pub line : after ≡ before ++ piece
  pub read : Consumes old new (piece ++ ending)

-- the reader is at its end
pub record Ends (old new : Option (List ℕ)) (before after : List ℕ) : Type 0 where
  pub line : after ≡ before
  pub read : Consumes old new []
  pub at_end : OnSome old (IsAtEnd new)

-- a piece was read: more of the line may follow, or the line is complete, or the reader is at its
-- end
abbrev pub TakesPiece : Option (List ℕ) → Option (List ℕ) → List ℕ → List ℕ → Option Part → Type 0
TakesPiece old new before after None = Moves old new before after []
TakesPiece old new before after (Some (Whole is_used_up)) = Moves old new before after (10 ∷ [])
TakesPiece old new before after (Some Last) = Ends old new before after × (0 < length before)
TakesPiece old new before after (Some End) = Ends old new before after × (before ≡ [])
