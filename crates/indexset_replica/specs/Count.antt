-- The number of remaining items, as an iterator returns it.
use Rattle.std.specs.Prelude.{ℕ, if◌then◌else◌, min, nat_lt, Option, None, Some}
use Rattle.std.below.core.specs.declared.int.usize.TheConstants.{MAX}

-- the number, if it fits a usize
abbrev pub counted : ℕ → Option ℕ
counted n = if nat_lt MAX n then None else Some n

-- the number as a lower bound, which is at most `usize::MAX`, and as an upper bound, if it fits a
-- usize
abbrev pub hint_for : ℕ → ℕ × Option ℕ
hint_for n = (min n MAX, counted n)
