-- Sums of blocks of neighbouring lengths.
use Rattle.std.specs.Prelude.{ℕ, ◌+◌, ◌-◌, ◌*◌, ◌/◌, List, length, sum, map}
use Rattle.std.specs.List.{between, range_with_len}
use Rattle.indexset_index.specs.declared.constants.TheConstants.{NODES_PER_BLOCK}

-- the model of block sums in contracts: the sums, and how many there is capacity for
pub record Sums : Type 0 where
  pub sums : List ℕ
  pub room : ℕ

-- the number of blocks of n lengths, of which the last may be short
abbrev pub block_count : ℕ → ℕ
block_count n = (n + (NODES_PER_BLOCK - 1)) / NODES_PER_BLOCK

-- the sum of each block: the lengths from NODES_PER_BLOCK * j up to those of the next
unfoldable pub block_sums : List ℕ → List ℕ
block_sums lengths =
    map (λ j. sum (between (NODES_PER_BLOCK * j) (NODES_PER_BLOCK * (j + 1)) lengths))
    (range_with_len 0 (block_count (length lengths)))
