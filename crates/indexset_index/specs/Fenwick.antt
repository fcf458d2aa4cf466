-- A Fenwick index: its cells, and the lengths that they sum.
use Rattle.std.specs.Prelude.{◌≡◌, ℕ, zero, suc, ◌+◌, ◌-◌, ◌*◌, ◌/◌, ◌%◌, ◌^◌, ◌<◌, ◌≤◌}
use Rattle.std.specs.Prelude.{◌==◌, List, length, sum, take, map, slice_index, if◌then◌else◌}
use Rattle.std.specs.List.{between, range_with_len}

-- the model of an index in contracts: the lengths, and how many there is capacity for
pub record Lengths : Type 0 where
  pub lengths : List ℕ
  pub room : ℕ

-- the value of the lowest one bit of n, if it is among the lowest f bits
abbrev pub lowbit_within : ℕ → ℕ → ℕ
lowbit_within zero n = 0
lowbit_within (suc f) n = if n % 2 == 1 then 1 else 2 * lowbit_within f (n / 2)

-- the value of the lowest one bit of n, or 0 for 0
unfoldable pub lowbit : ℕ → ℕ
lowbit n = lowbit_within n n

-- the sum of the first k lengths
abbrev pub prefix_sum : List ℕ → ℕ → ℕ
prefix_sum lengths k = sum (take k lengths)

-- the content of cell i, counted from 1: the sum of the last `lowbit i` of the first i lengths
abbrev pub cell_of : List ℕ → ℕ → ℕ
cell_of lengths i = sum (between (i - lowbit i) i lengths)

-- the count cells are those of the lengths, whose sum is at most `usize::MAX`
pub record IsFenwickOf (cell : ℕ → ℕ) (count : ℕ) (lengths : List ℕ) : Type 0 where
  pub count_is : count ≡ length lengths
  pub fits : sum lengths < 2 ^ 64
  pub each : (i : ℕ) → 0 < i → i ≤ count → cell i ≡ cell_of lengths i

-- cell i of a list of cells, counted from 1
abbrev pub cell_in : List ℕ → ℕ → ℕ
cell_in cells i = slice_index cells (i - 1)

-- the sum of the first k lengths, as at most f of the cells add up to it
abbrev pub cell_sum_within : ℕ → List ℕ → ℕ → ℕ
cell_sum_within zero cells k = 0
cell_sum_within (suc f) cells zero = 0
cell_sum_within (suc f) cells (suc k) =
    cell_in cells (suc k) + cell_sum_within f cells (suc k - lowbit (suc k))

-- the sum of the first k lengths, as the cells add up to it
abbrev pub cell_sum : List ℕ → ℕ → ℕ
cell_sum cells k = cell_sum_within k cells k

-- the lengths that the cells sum
unfoldable pub lengths_of : List ℕ → List ℕ
lengths_of cells =
    map (λ i. cell_sum cells (i + 1) - cell_sum cells i) (range_with_len 0 (length cells))

-- the cells are those of some lengths
abbrev pub IsFenwick : List ℕ → Type 0
IsFenwick cells = IsFenwickOf (cell_in cells) (length cells) (lengths_of cells)
