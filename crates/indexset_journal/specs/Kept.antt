-- Lines as the rows of a table.
use Rattle.std.specs.Prelude.{◌≡◌, ℕ, suc, ◌+◌, ◌<◌, ◌^◌, max, pos, negsuc}
use Rattle.std.specs.Prelude.{List, [], ◌∷◌, length, map, fold, Vec}
use Rattle.std.specs.List.{AllByRecursion}
use Rattle.std.specs.declared.alloc.Global.{Global}
use Rattle.sqlite_value.specs.declared.value.Value.{Value}
use Rattle.sqlite_value.specs.declared.value.Value.TheVariants.{Null, Int, Real, Text, Blob}
use Rattle.sqlite_value.specs.Order.{Row, column, bytes}
use Rattle.sqlite_trees.specs.Tree.{Trees, rowid}

-- the bytes of each line
abbrev pub texts : List (Vec ℕ Global) → List (List ℕ)
texts = map (λ line. line.items)

-- the row of a line: its number, NULL in the column that SQLite fills with the number, and its text
abbrev pub row_of : ℕ → List ℕ → Row
row_of number line = Int (pos number) ∷ Null ∷ Text line ∷ []

-- the rows of lines that are numbered from `number` on
abbrev pub rows_of : ℕ → List (List ℕ) → List Row
rows_of number [] = []
rows_of number (line ∷ lines) = row_of number line ∷ rows_of (suc number) lines

-- the row is that of a line with some number
abbrev pub IsLine : Row → Type 0
IsLine row = (number : ℕ) × (line : List ℕ) × (row ≡ row_of number line)

abbrev pub line_of : Row → List ℕ
line_of row = bytes (column row 2)

-- the lines of a database in the order of their numbers
abbrev pub lines_in : Trees → List (List ℕ)
lines_in trees = map line_of (trees 0)

-- the number in the first column of a row
abbrev pub number_in : Value → ℕ
number_in (Int (pos n)) = n
number_in (Int (negsuc n)) = 0
number_in Null = 0
number_in (Real x) = 0
number_in (Text t) = 0
number_in (Blob b) = 0

-- the least number that is greater than those of all rows
abbrev pub next_number : List Row → ℕ
next_number = fold (λ next row. max next (suc (number_in (rowid row)))) 0

-- each row has a number less than `next`
abbrev pub AreBelow : ℕ → List Row → Type 0
AreBelow next =
    AllByRecursion (λ row. (number : ℕ) × (rowid row ≡ Int (pos number)) × (number < next))

-- the row of the line would exceed SQLite's limit of a billion bytes, with 18 bytes for each of its
-- three values
abbrev pub IsTooLong : Vec ℕ Global → Type 0
IsTooLong line = 10 ^ 9 < 54 + length line.items
