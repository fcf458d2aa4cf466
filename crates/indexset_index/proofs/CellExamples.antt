-- Worked figures: the cells of the lengths 2, 2, 2, 4, and of 2, 3, 2, 4.
use Rattle.std.proofs.Common.{◌≡◌, ℕ, List, [], ◌∷◌, refl}
use Rattle.indexset_index.specs.Fenwick.{lowbit, cell_of, prefix_sum}

abbrev figures : ℕ → List ℕ
figures second = 2 ∷ second ∷ 2 ∷ 4 ∷ []

lowbits : (lowbit 0 ≡ 0) × (lowbit 1 ≡ 1) × (lowbit 6 ≡ 2) × (lowbit 12 ≡ 4) × (lowbit 64 ≡ 64)
unfolding lowbit
lowbits = (refl, refl, refl, refl, refl)

cells : (cell_of (figures 2) 1 ≡ 2) × (cell_of (figures 2) 2 ≡ 4) × (cell_of (figures 2) 3 ≡ 2) × (cell_of (figures 2) 4 ≡ 10)
unfolding lowbit
cells = (refl, refl, refl, refl)

one_more : (cell_of (figures 3) 1 ≡ 2) × (cell_of (figures 3) 2 ≡ 5) × (cell_of (figures 3) 3 ≡ 2) × (cell_of (figures 3) 4 ≡ 11)
unfolding lowbit
one_more = (refl, refl, refl, refl)

prefixes : (prefix_sum (figures 2) 3 ≡ 6) × (prefix_sum (figures 2) 4 ≡ 10)
prefixes = (refl, refl)
