-- The meaning of a line as a command to the set.
use Rattle.std.specs.Prelude.{Option, ℕ, ◌^◌, ◌<◌, Bool, ◌&&◌, nat_lt}
use Rattle.std.specs.Prelude.{List, [], ◌∷◌, ◌++◌, ◌==◌, true, find, codes}
use Rattle.std.specs.List.{after_first}
use Rattle.std.specs.Fmt.{decimal}
use Rattle.std.specs.Str.{bytes_eq}
use Rattle.std.specs.Str.Parse.{digits_value}
use Rattle.indexset_bench.specs.declared.command.Command.{Command}
use Rattle.indexset_bench.specs.declared.command.Command.TheVariants.{Add, Del, Has, Rank, At, Len}

-- the line that spells a command
abbrev pub spelling : Command → List ℕ
spelling (Add n) = codes "add " ++ decimal n
spelling (Del n) = codes "del " ++ decimal n
spelling (Has n) = codes "has " ++ decimal n
spelling (Rank n) = codes "rank " ++ decimal n
spelling (At n) = codes "at " ++ decimal n
spelling Len = codes "len"

-- the number of the command has at most 64 bits
abbrev pub FitsU64 : Command → Type 0
FitsU64 (Add n) = n < 2 ^ 64
FitsU64 (Del n) = n < 2 ^ 64
FitsU64 (Has n) = n < 2 ^ 64
FitsU64 (Rank n) = n < 2 ^ 64
FitsU64 (At n) = n < 2 ^ 64
FitsU64 Len = Unit {0}

-- the test for `FitsU64`
abbrev pub fits_u64 : Command → Bool
fits_u64 (Add n) = nat_lt n (2 ^ 64)
fits_u64 (Del n) = nat_lt n (2 ^ 64)
fits_u64 (Has n) = nat_lt n (2 ^ 64)
fits_u64 (Rank n) = nat_lt n (2 ^ 64)
fits_u64 (At n) = nat_lt n (2 ^ 64)
fits_u64 Len = true

-- the commands that the line could spell
abbrev pub candidates : List ℕ → List Command
candidates line =
    let n = digits_value 10 (after_first (λ x. x == 32) line) in
    Add n ∷ Del n ∷ Has n ∷ Rank n ∷ At n ∷ Len ∷ []

-- the command that the line spells, if any
unfoldable pub meaning : List ℕ → Option Command
meaning line = find (λ c. fits_u64 c && bytes_eq line (spelling c)) (candidates line)
