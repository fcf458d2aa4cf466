-- Sums of blocks of 32 lengths, and how they change if a length is set, removed or inserted.
use Rattle.std.proofs.Common.{◌≡◌, ℕ, zero, suc, ◌+◌, ◌-◌, ◌*◌, ◌/◌, ◌<◌, ◌≤◌, List, [], ◌∷◌, ◌++◌}
use Rattle.std.proofs.Common.{length, map, min, sum, take, set, get_or, insert, remove, refl, ap}
use Rattle.std.proofs.Common.{◌∙◌, inl, inr, eq-zero-or-pos, add-one, length-append, arith}
use Rattle.std.specs.Int.{div_ceil}
use Rattle.std.specs.List.{between, range_with_len}
use Rattle.std.proofs.lemmas.List.{length-set, length-take-le, take-append-le, take-take, get_or_past}
use Rattle.std.proofs.lemmas.List.Edits.{get_or-insert_above, get_or-insert_at, get_or-remove_above}
use Rattle.std.proofs.lemmas.List.FromFn.{fill_by_all, length-map-range_with_len, take-map-range_with_len, sum_by-map-range_with_len_more}
use Rattle.indexset_index.specs.Blocks.{block_count, block_sums}
use Rattle.indexset_index.specs.Fenwick.{lowbit, prefix_sum, cell_of}
use Rattle.indexset_index.proofs.CellLemmas.{prefix-set-below, prefix-set-above, sum-last}
use Rattle.indexset_index.proofs.PrefixLemmas.{prefix-all, prefix-between, prefix-cell, prefix-le, prefix-more}

pub div_ceil-is : (n : ℕ) → div_ceil n 32 ≡ block_count n
div_ceil-is n = omega arith

abbrev block_of : List ℕ → ℕ → ℕ
block_of ls j = sum (between (32 * j) (32 * (j + 1)) ls)

pub count-blocks : (ls : List ℕ) → length (block_sums ls) ≡ block_count (length ls)
unfolding block_sums
count-blocks ls = length-map-range_with_len (block_of ls) 0 (block_count (length ls))

blocks-more : (ls : List ℕ) (i : ℕ) → sum (map (block_of ls) (range_with_len 0 i)) ≡ prefix_sum ls (32 * i) → sum (map (block_of ls) (range_with_len 0 (i + 1))) ≡ prefix_sum ls (32 * (i + 1))
blocks-more ls i h = omega (arith, h, sum_by-map-range_with_len_more (λ x. x) (block_of ls) 0 i i (omega arith), prefix-between ls (32 * i) (32 * (i + 1)) (omega arith))

blocks-before : (ls : List ℕ) (i : ℕ) → sum (map (block_of ls) (range_with_len 0 i)) ≡ prefix_sum ls (32 * i)
blocks-before ls zero = refl
blocks-before ls (suc i) = rw add-one at (blocks-more ls i (blocks-before ls i))

-- the sum of the first i blocks is that of their lengths
pub prefix-blocks : (ls : List ℕ) (i : ℕ) → i ≤ block_count (length ls) → prefix_sum (block_sums ls) i ≡ prefix_sum ls (32 * i)
unfolding block_sums
prefix-blocks ls i h = ap sum (take-map-range_with_len (block_of ls) 0 (block_count (length ls)) i h) ∙ blocks-before ls i

pub sum-blocks : (ls : List ℕ) → sum (block_sums ls) ≡ sum ls
sum-blocks ls =
    let n = block_count (length ls) in
    omega (arith, prefix-blocks ls n (omega arith), prefix-all (block_sums ls) n (omega (arith, count-blocks ls)), prefix-all ls (32 * n) (omega arith))

-- no lengths, no blocks
pub no-blocks : block_sums [] ≡ []
unfolding block_sums
no-blocks = refl

-- sums with those prefixes are those of the blocks
pub blocks-told : (xs ls : List ℕ) → length xs ≡ block_count (length ls) → ((i : ℕ) → i ≤ length xs → prefix_sum xs i ≡ prefix_sum ls (32 * i)) → xs ≡ block_sums ls
unfolding block_sums
blocks-told xs ls long h =
    fill_by_all (block_of ls) xs (block_count (length ls)) 0 long
    (λ k p. omega (arith, long, h k (omega (arith, long)), h (k + 1) (omega (arith, long)), prefix-more xs k (omega (arith, long)), prefix-between ls (32 * k) (32 * (k + 1)) (omega arith)))

pub prefix-mono : (xs : List ℕ) (i j : ℕ) → i ≤ j → prefix_sum xs i ≤ prefix_sum xs j
prefix-mono xs i j h = omega (arith, prefix-between xs i j h)

pub prefix-next : (xs : List ℕ) (k : ℕ) → prefix_sum xs (k + 1) ≡ prefix_sum xs k + get_or xs k 0
prefix-next xs k =
    elim (eq-zero-or-pos (length xs - k)) [
      | inl past ↦ omega (arith, prefix-all xs k (omega arith), prefix-all xs (k + 1) (omega arith), get_or_past xs k 0 (omega arith))
      | inr inside ↦ prefix-more xs k (omega arith)
    ]

-- a block ends the sum that begins before it
pub block-read : (ls : List ℕ) (j : ℕ) → j < block_count (length ls) → prefix_sum ls (32 * j) + get_or (block_sums ls) j 0 ≡ prefix_sum ls (32 * (j + 1))
block-read ls j h = omega (arith, prefix-next (block_sums ls) j, prefix-blocks ls j (omega arith), prefix-blocks ls (j + 1) (omega arith))

-- where a block ends
pub block-end : (ls : List ℕ) (j : ℕ) → prefix_sum ls (32 * j + min (length ls - 32 * j) 32) ≡ prefix_sum ls (32 * (j + 1))
block-end ls j =
    let e = 32 * j + min (length ls - 32 * j) 32 in
    elim (eq-zero-or-pos (32 - (length ls - 32 * j))) [
      | inl full ↦ let whole : e ≡ 32 * (j + 1) = omega arith in ap (prefix_sum ls) whole
      | inr short ↦ omega (arith, prefix-all ls e (omega arith), prefix-all ls (32 * (j + 1)) (omega arith))
    ]

-- one block more, of none of the lengths
pub blocks-grown : (ls : List ℕ) (i : ℕ) → i ≤ block_count (length ls) + 1 → prefix_sum (block_sums ls ++ 0 ∷ []) i ≡ prefix_sum ls (32 * i)
blocks-grown ls i h =
    let sums = block_sums ls in
    elim (eq-zero-or-pos (i - block_count (length ls))) [
      | inl within ↦ omega (arith, prefix-blocks ls i (omega arith), ap sum (take-append-le i sums (0 ∷ []) (omega (arith, count-blocks ls))))
      | inr past ↦ omega (arith, prefix-all (sums ++ 0 ∷ []) i (omega (arith, count-blocks ls, length-append sums (0 ∷ []))), sum-last sums 0, sum-blocks ls, prefix-all ls (32 * i) (omega arith))
    ]

module _ (ls : List ℕ) (k : ℕ) (here : k < length ls) where
  -- the block of a length exists, and is no less than the length
  pub block-inside : k / 32 < length (block_sums ls)
  block-inside = omega (arith, count-blocks ls)

  pub length-le-block : get_or ls k 0 ≤ get_or (block_sums ls) (k / 32) 0
  length-le-block = omega (
    arith,
    block-read ls (k / 32) (omega (arith, block-inside, count-blocks ls)),
    prefix-next ls k,
    prefix-mono ls (32 * (k / 32)) k (omega arith),
    prefix-mono ls (k + 1) (32 * (k / 32 + 1)) (omega arith),
  )

  -- a length that changes, and its block with it
  block-set : (v w : ℕ) → w + get_or ls k 0 ≡ get_or (block_sums ls) (k / 32) 0 + v → set (block_sums ls) (k / 32) w ≡ block_sums (set ls k v)
  block-set v w more =
      let sums = block_sums ls in
      let count = count-blocks ls in
      let long = length-set sums (k / 32) w in
      let still = length-set ls k v in
      blocks-told (set sums (k / 32) w) (set ls k v) (omega (arith, count, long, ap block_count still))
      (λ i h.
      let same = prefix-blocks ls i (omega (arith, count, long)) in
      elim (eq-zero-or-pos (i - k / 32)) [
        | inl below ↦ omega (arith, same, prefix-set-below sums (k / 32) w i (omega arith), prefix-set-below ls k v (32 * i) (omega arith))
        | inr above ↦ omega (arith, same, more, prefix-set-above sums (k / 32) w i block-inside (omega arith), prefix-set-above ls k v (32 * i) here (omega arith))
      ])

  pub blocks-raised : (n : ℕ) → set (block_sums ls) (k / 32) (get_or (block_sums ls) (k / 32) 0 + n) ≡ block_sums (set ls k (get_or ls k 0 + n))
  blocks-raised n = block-set (get_or ls k 0 + n) (get_or (block_sums ls) (k / 32) 0 + n) (omega arith)

  pub blocks-lowered : (n : ℕ) → n ≤ get_or ls k 0 → set (block_sums ls) (k / 32) (get_or (block_sums ls) (k / 32) 0 - n) ≡ block_sums (set ls k (get_or ls k 0 - n))
  blocks-lowered n le = block-set (get_or ls k 0 - n) (get_or (block_sums ls) (k / 32) 0 - n) (omega (arith, length-le-block, le))

  -- the lengths without it
  pub removed-below : (m : ℕ) → m ≤ k → prefix_sum (remove ls k) m ≡ prefix_sum ls m
  removed-below m h = ap sum (take-append-le m (take k ls) _ (omega (arith, length-take-le k ls (omega arith))) ∙ take-take m k ls (omega arith))

  removed-past : (d : ℕ) → prefix_sum (remove ls k) (k + d) + get_or ls k 0 ≡ prefix_sum ls (k + d + 1)
  removed-past zero = let e : k + zero ≡ k = omega arith in rw e (omega (arith, removed-below k (omega arith), prefix-next ls k))
  removed-past (suc d) =
      let e : k + suc d ≡ k + d + 1 = omega arith in
      rw e (omega (arith, removed-past d, prefix-next (remove ls k) (k + d), prefix-next ls (k + d + 1), get_or-remove_above ls k 0 (k + d) (omega arith) here))

  pub removed-above : (m : ℕ) → k < m → prefix_sum ls m + get_or ls m 0 ≡ prefix_sum (remove ls k) m + get_or ls k 0
  removed-above m h =
      let e : k + (m - k) ≡ m = omega arith in
      omega (arith, rw e at (removed-past (m - k)), prefix-next ls m)

-- the lengths with one more
module _ (ls : List ℕ) (k n : ℕ) (within : k ≤ length ls) where
  pub inserted-below : (m : ℕ) → m ≤ k → prefix_sum (insert ls k n) m ≡ prefix_sum ls m
  inserted-below m h = ap sum (take-append-le m (take k ls) _ (omega (arith, length-take-le k ls within)) ∙ take-take m k ls (omega arith))

  inserted-past : (d : ℕ) → prefix_sum (insert ls k n) (k + d + 1) ≡ prefix_sum ls (k + d) + n
  inserted-past zero = let e : k + zero ≡ k = omega arith in rw e (omega (arith, inserted-below k (omega arith), prefix-next (insert ls k n) k, get_or-insert_at ls k n 0 within))
  inserted-past (suc d) =
      let e : k + suc d ≡ k + d + 1 = omega arith in
      rw e (omega (arith, inserted-past d, prefix-next (insert ls k n) (k + d + 1), prefix-next ls (k + d), get_or-insert_above ls k n 0 (k + d) (omega arith) within))

  pub inserted-above : (m : ℕ) → k < m → prefix_sum (insert ls k n) m + get_or ls (m - 1) 0 ≡ prefix_sum ls m + n
  inserted-above m h =
      let e : k + (m - 1 - k) ≡ m - 1 = omega arith in
      let f : m - 1 + 1 ≡ m = omega arith in
      omega (arith, rw (e, f) at (inserted-past (m - 1 - k)), rw f at (prefix-next ls (m - 1)))

-- the cells of the blocks of ls, of which length k was inserted: xs are the sums before
module _ (xs ls : List ℕ) (k count : ℕ) (here : k < length ls) (long : count ≡ block_count (length ls)) (before : (i : ℕ) → i ≤ count → prefix_sum xs i ≡ prefix_sum (remove ls k) (32 * i)) where
  pub raised-low : (i : ℕ) → i ≤ k / 32 → i ≤ count → prefix_sum (block_sums ls) i ≡ prefix_sum xs i
  raised-low i low within = omega (arith, prefix-blocks ls i (omega (arith, long)), before i within, removed-below ls k here (32 * i) (omega arith))

  pub raised-high : (i : ℕ) → k < 32 * i → i ≤ count → prefix_sum (block_sums ls) i + get_or ls (32 * i) 0 ≡ prefix_sum xs i + get_or ls k 0
  raised-high i high within = omega (arith, prefix-blocks ls i (omega (arith, long)), before i within, removed-above ls k here (32 * i) high)

  pub raised-cell : (i gained : ℕ) → k < 32 * i → i ≤ count → (32 * (i - lowbit i) ≤ k → gained ≡ get_or ls k 0)
      → (k < 32 * (i - lowbit i) → gained ≡ get_or ls (32 * (i - lowbit i)) 0)
      → cell_of (block_sums ls) i + get_or ls (32 * i) 0 ≡ cell_of xs i + gained
  raised-cell i gained high within first past =
      let cells = prefix-cell (block_sums ls) i in
      let sums = prefix-cell xs i in
      let all = raised-high i high within in
      elim (eq-zero-or-pos (32 * (i - lowbit i) - k)) [
        | inl le ↦ omega (arith, cells, sums, all, first (omega arith), raised-low (i - lowbit i) (omega arith) (omega arith))
        | inr gt ↦ omega (arith, cells, sums, all, past (omega arith), raised-high (i - lowbit i) (omega arith) (omega arith))
      ]

  pub raised-fits : (i : ℕ) → i ≤ count → cell_of (block_sums ls) i + get_or ls (32 * i) 0 ≤ sum ls
  raised-fits i within = omega (arith, prefix-cell (block_sums ls) i, prefix-blocks ls i (omega (arith, long)), prefix-next ls (32 * i), prefix-le ls (32 * i + 1))

-- the same of ls, before which length k of n was removed
module _ (xs ls : List ℕ) (k n count : ℕ) (here : k ≤ length ls) (long : count ≡ block_count (length ls)) (before : (i : ℕ) → i ≤ count → prefix_sum xs i ≡ prefix_sum (insert ls k n) (32 * i)) where
  pub lowered-low : (i : ℕ) → i ≤ k / 32 → i ≤ count → prefix_sum (block_sums ls) i ≡ prefix_sum xs i
  lowered-low i low within = omega (arith, prefix-blocks ls i (omega (arith, long)), before i within, inserted-below ls k n here (32 * i) (omega arith))

  pub lowered-high : (i : ℕ) → k < 32 * i → i ≤ count → prefix_sum xs i + get_or ls (32 * i - 1) 0 ≡ prefix_sum (block_sums ls) i + n
  lowered-high i high within = omega (arith, prefix-blocks ls i (omega (arith, long)), before i within, inserted-above ls k n here (32 * i) high)

  pub lowered-cell : (i lost : ℕ) → k < 32 * i → i ≤ count → (32 * (i - lowbit i) ≤ k → lost ≡ n)
      → (k < 32 * (i - lowbit i) → lost ≡ get_or ls (32 * (i - lowbit i) - 1) 0)
      → cell_of xs i + get_or ls (32 * i - 1) 0 ≡ cell_of (block_sums ls) i + lost
  lowered-cell i lost high within first past =
      let cells = prefix-cell (block_sums ls) i in
      let sums = prefix-cell xs i in
      let all = lowered-high i high within in
      elim (eq-zero-or-pos (32 * (i - lowbit i) - k)) [
        | inl le ↦ omega (arith, cells, sums, all, first (omega arith), lowered-low (i - lowbit i) (omega arith) (omega arith))
        | inr gt ↦ omega (arith, cells, sums, all, past (omega arith), lowered-high (i - lowbit i) (omega arith) (omega arith))
      ]

  pub lowered-fits : (i : ℕ) → k < 32 * i → i ≤ count → cell_of xs i + get_or ls (32 * i - 1) 0 ≤ sum ls + n
  lowered-fits i high within = omega (arith, lowered-high i high within, prefix-cell xs i, prefix-blocks ls i (omega (arith, long)), prefix-le ls (32 * i))
