-- The results of the callers of the map.
use Rattle.std.specs.Prelude.{ℕ, ◌+◌, min, List, Option, Some, None, if◌then◌else◌}
use Rattle.std.specs.Ordering.{nat_cmp}
use Rattle.std.specs.declared.ops.Bound.{Bound}
use Rattle.indexset_core.specs.declared.pair.Pair.{Pair}
use Rattle.indexset_core.specs.KeyRange.{is_within}
use Rattle.indexset_core.specs.Pairs.{put_value, value_of, valued}

-- the sum, up to the greatest u32
abbrev pub more : ℕ → ℕ → ℕ
more n value = min (value + n) 4294967295

-- the pair with its value increased
abbrev pub raised : ℕ → Pair ℕ ℕ → Pair ℕ ℕ
raised n p = valued p (more n p.value)

-- the pair with its value increased, if the key is within the bounds
abbrev pub raised_within : Bound ℕ → Bound ℕ → ℕ → Pair ℕ ℕ → Pair ℕ ℕ
raised_within start end n p = if is_within nat_cmp start end p.key then raised n p else p

-- the count of a word after another occurrence
abbrev pub once_more : Option ℕ → ℕ
once_more (Some n) = more 1 n
once_more None = 1

-- the counts after another word
abbrev pub counted : List (Pair ℕ ℕ) → ℕ → List (Pair ℕ ℕ)
counted l word = put_value nat_cmp l word (once_more (value_of nat_cmp l word))
