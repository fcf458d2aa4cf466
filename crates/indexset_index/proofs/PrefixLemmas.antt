-- Sums of the first lengths.
use Rattle.std.proofs.Common.{◌≡◌, ℕ, ◌+◌, ◌-◌, ◌<◌, ◌≤◌, ◌++◌, List, length, sum, take, drop, get_or, ap, arith}
use Rattle.std.specs.List.{between}
use Rattle.std.proofs.lemmas.List.Sums.{sum_by-append, sum_by-take-drop, sum_by-take-le, sum_by_more}
use Rattle.std.proofs.lemmas.List.Edits.{split_between}
use Rattle.std.proofs.lemmas.List.{take_all}
use Rattle.indexset_index.specs.Fenwick.{lowbit, prefix_sum, cell_of}

pub prefix-between : (xs : List ℕ) (i j : ℕ) → i ≤ j → prefix_sum xs i + sum (between i j xs) ≡ prefix_sum xs j
prefix-between xs i j h =
    let whole : sum xs ≡ sum (take i xs) + (sum (between i j xs) + sum (drop j xs)) =
    rw (
      ← (sum_by-append (λ x. x) (between i j xs) (drop j xs)),
      ← (sum_by-append (λ x. x) (take i xs) (between i j xs ++ drop j xs)),
    )
    (ap sum (split_between xs i j h)) in
    omega (arith, sum_by-take-drop (λ x. x) xs j)

pub prefix-le : (xs : List ℕ) (k : ℕ) → prefix_sum xs k ≤ sum xs
prefix-le xs k = sum_by-take-le (λ x. x) xs k

pub prefix-more : (xs : List ℕ) (k : ℕ) → k < length xs → prefix_sum xs (k + 1) ≡ prefix_sum xs k + get_or xs k 0
prefix-more xs k h = sum_by_more (λ x. x) xs k 0 h

pub prefix-all : (xs : List ℕ) (k : ℕ) → length xs ≤ k → prefix_sum xs k ≡ sum xs
prefix-all xs k h = ap sum (take_all k xs h)

-- a cell ends the sum that begins without its lowest one bit
pub prefix-cell : (xs : List ℕ) (i : ℕ) → prefix_sum xs (i - lowbit i) + cell_of xs i ≡ prefix_sum xs i
prefix-cell xs i = prefix-between xs (i - lowbit i) i (omega arith)
