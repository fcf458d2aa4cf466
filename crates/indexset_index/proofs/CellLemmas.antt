-- Cells when lengths change.
use Rattle.std.proofs.Common.{◌≡◌, ℕ, zero, suc, ◌+◌, ◌-◌, ◌%◌, ◌<◌, ◌≤◌, ◌^◌, ◌≢◌, List, []}
use Rattle.std.proofs.Common.{◌∷◌, ◌++◌, length, sum, take, set, get_or, refl, ap, sym, ◌∙◌, inl}
use Rattle.std.proofs.Common.{inr, eq-zero-or-pos, drop, length-append, append_assoc, arith}
use Rattle.std.proofs.lemmas.List.FromFn.{fill_by_all}
use Rattle.std.proofs.lemmas.List.Sums.{sum_by-append, sum_by-set, sum_by-take-drop}
use Rattle.std.proofs.lemmas.List.{length-take, take-append-le, take-take, get_or_append_left, get_or-take, drop-set-lt, take-set-le, get_or-set_same, get_or-set_other, length-set}
use Rattle.std.proofs.Math.Seq.{get_or-append_seam}
use Rattle.indexset_index.specs.Fenwick.{lowbit, prefix_sum, cell_of, cell_in, cell_sum, cell_sum_within, lengths_of, IsFenwickOf, IsFenwick}
use Rattle.indexset_index.proofs.LowbitLemmas.{lowbit-pos, lowbit-of_odd, lowbit-of_two, lowbit-of_four, skipped, taken-in}
use Rattle.indexset_index.proofs.PrefixLemmas.{prefix-cell, prefix-more, prefix-le, prefix-all}

cell_sum-is : (cells ls : List ℕ) → IsFenwickOf (cell_in cells) (length cells) ls → (f k : ℕ) → k ≤ f → k ≤ length ls → cell_sum_within f cells k ≡ prefix_sum ls k
cell_sum-is cells ls is zero zero p q = refl
cell_sum-is cells ls is zero (suc k) p q = absurd (omega arith)
cell_sum-is cells ls is (suc f) zero p q = refl
cell_sum-is cells ls is (suc f) (suc k) p q =
    let some = lowbit-pos (suc k) (omega arith) in
    omega (arith, is.count_is, is.each (suc k) (omega arith) (omega (arith, is.count_is)), cell_sum-is cells ls is f (suc k - lowbit (suc k)) (omega arith) (omega arith), prefix-cell ls (suc k))

-- the cells determine the lengths
pub told : (cells ls : List ℕ) → IsFenwickOf (cell_in cells) (length cells) ls → lengths_of cells ≡ ls
unfolding lengths_of
told cells ls is =
    sym (fill_by_all (λ i. cell_sum cells (i + 1) - cell_sum cells i) ls (length cells) 0 (sym is.count_is)
    (λ k h. omega (
      arith,
      is.count_is,
      cell_sum-is cells ls is (k + 1) (k + 1) (omega arith) (omega (arith, is.count_is)),
      cell_sum-is cells ls is k k (omega arith) (omega (arith, is.count_is)),
      prefix-more ls k (omega (arith, is.count_is)),
    )))

pub is_fenwick : (cells ls : List ℕ) → IsFenwickOf (cell_in cells) (length cells) ls → IsFenwick cells
is_fenwick cells ls is = rw (told cells ls is) is

-- the same sums so far, the same cell
cell-same : (xs ys : List ℕ) (i : ℕ) → ((k : ℕ) → k ≤ i → prefix_sum xs k ≡ prefix_sum ys k) → cell_of xs i ≡ cell_of ys i
cell-same xs ys i h = omega (arith, prefix-cell xs i, prefix-cell ys i, h i (omega arith), h (i - lowbit i) (omega arith))

-- one length more at the end: what the sums before it are
kept-prefix : (ls : List ℕ) (x k : ℕ) → k ≤ length ls → prefix_sum (ls ++ x ∷ []) k ≡ prefix_sum ls k
kept-prefix ls x k h = ap sum (take-append-le k ls (x ∷ []) h)

cell-append : (ls : List ℕ) (x i : ℕ) → i ≤ length ls → cell_of (ls ++ x ∷ []) i ≡ cell_of ls i
cell-append ls x i h = cell-same (ls ++ x ∷ []) ls i (λ k le. kept-prefix ls x k (omega arith))

pub sum-last : (ls : List ℕ) (x : ℕ) → sum (ls ++ x ∷ []) ≡ sum ls + x
sum-last ls x = omega (arith, sum_by-append (λ y. y) ls (x ∷ []))

-- cell n + 1 begins where the sum of the first start lengths ends
last-cell : (ls : List ℕ) (c x n start : ℕ) → n ≡ length ls → start ≡ n + 1 - lowbit (n + 1) → c + prefix_sum ls start ≡ sum ls + x → c ≡ cell_of (ls ++ x ∷ []) (n + 1)
last-cell ls c x n start is begins here =
    let xs = ls ++ x ∷ [] in
    let low : start ≤ length ls = omega (arith, lowbit-pos (n + 1) (omega arith)) in
    let one : n + 1 ≡ length xs = omega (arith, length-append ls (x ∷ [])) in
    omega (arith, prefix-cell xs (n + 1), ap (prefix_sum xs) begins, kept-prefix ls x start low, prefix-all xs (n + 1) (omega arith), sum-last ls x)

-- one length more, and its cell
pub pushed : (cells ls : List ℕ) (c x start : ℕ) → IsFenwickOf (cell_in cells) (length cells) ls
    → start ≡ length cells + 1 - lowbit (length cells + 1) → c + prefix_sum ls start ≡ sum ls + x → sum ls + x < 2 ^ 64
    → IsFenwickOf (cell_in (cells ++ c ∷ [])) (length (cells ++ c ∷ [])) (ls ++ x ∷ [])
pushed cells ls c x start is begins here fits = record {
  count_is = omega (arith, is.count_is, length-append cells (c ∷ []), length-append ls (x ∷ []));
  fits = omega (arith, sum-last ls x);
  each = λ i p q.
      elim (eq-zero-or-pos (i - length cells)) [
        | inl le ↦
            let kept = cell-append ls x i (omega (arith, is.count_is)) in
            get_or_append_left cells (c ∷ []) 0 (i - 1) (omega arith) ∙ (is.each i p (omega arith) ∙ sym kept)
        | inr gt ↦
            let at : i ≡ length cells + 1 = omega (arith, length-append cells (c ∷ [])) in
            let place : i - 1 ≡ length cells = omega arith in
            rw (place) (get_or-append_seam cells c [] 0) ∙ (last-cell ls c x (length cells) start is.count_is begins here ∙ ap (cell_of (ls ++ x ∷ [])) (sym at))
      ];
}

-- one length more, whose cell begins with it
pushed_odd : (cells ls : List ℕ) (x : ℕ) → IsFenwickOf (cell_in cells) (length cells) ls → length cells % 2 ≡ 0
    → sum ls + x < 2 ^ 64 → IsFenwickOf (cell_in (cells ++ x ∷ [])) (length (cells ++ x ∷ [])) (ls ++ x ∷ [])
pushed_odd cells ls x is even fits =
    pushed cells ls x x (length cells) is
    (omega (arith, lowbit-of_odd (length cells + 1) (omega arith)))
    (omega (arith, prefix-all ls (length cells) (omega (arith, is.count_is))))
    fits

-- two lengths more after a multiple of four, and their cells
pushed_two : (cells ls : List ℕ) (x y : ℕ) → IsFenwickOf (cell_in cells) (length cells) ls → length cells % 4 ≡ 0
    → sum ls + (x + y) < 2 ^ 64
    → IsFenwickOf (cell_in ((cells ++ x ∷ []) ++ (x + y) ∷ [])) (length ((cells ++ x ∷ []) ++ (x + y) ∷ []))
    ((ls ++ x ∷ []) ++ y ∷ [])
pushed_two cells ls x y is begin fits =
    let count = length-append cells (x ∷ []) in
    pushed (cells ++ x ∷ []) (ls ++ x ∷ []) (x + y) y (length cells)
    (pushed_odd cells ls x is (omega arith) (omega arith))
    (omega (arith, lowbit-of_two (length (cells ++ x ∷ []) + 1) (omega arith)))
    (omega (arith, is.count_is, kept-prefix ls x (length cells) (omega (arith, is.count_is)), prefix-all ls (length cells) (omega (arith, is.count_is)), sum-last ls x))
    (omega (arith, sum-last ls x))

pushed_three : (cells ls : List ℕ) (x y z : ℕ) → IsFenwickOf (cell_in cells) (length cells) ls
    → length cells % 4 ≡ 0 → sum ls + (x + y + z) < 2 ^ 64
    → IsFenwickOf (cell_in (((cells ++ x ∷ []) ++ (x + y) ∷ []) ++ z ∷ []))
    (length (((cells ++ x ∷ []) ++ (x + y) ∷ []) ++ z ∷ [])) (((ls ++ x ∷ []) ++ y ∷ []) ++ z ∷ [])
pushed_three cells ls x y z is begin fits =
    let count = length-append cells (x ∷ []) in
    let counts = length-append (cells ++ x ∷ []) ((x + y) ∷ []) in
    pushed_odd ((cells ++ x ∷ []) ++ (x + y) ∷ []) ((ls ++ x ∷ []) ++ y ∷ []) z
    (pushed_two cells ls x y is begin (omega arith))
    (omega arith)
    (omega (arith, sum-last ls x, sum-last (ls ++ x ∷ []) y))

-- four lengths more after a multiple of four, and their cells:
-- only the last sums lengths before them
pub pushed_four : (cells ls : List ℕ) (x y z v c : ℕ) → IsFenwickOf (cell_in cells) (length cells) ls
    → length cells % 4 ≡ 0 → sum ls + (x + y + z + v) < 2 ^ 64
    → c + prefix_sum ls (length cells + 4 - lowbit (length cells + 4)) ≡ sum ls + (x + y + z + v)
    → IsFenwickOf (cell_in (cells ++ x ∷ (x + y) ∷ z ∷ c ∷ [])) (length (cells ++ x ∷ (x + y) ∷ z ∷ c ∷ []))
    (ls ++ x ∷ y ∷ z ∷ v ∷ [])
pushed_four cells ls x y z v c is begin fits here =
    let three = ((cells ++ x ∷ []) ++ (x + y) ∷ []) ++ z ∷ [] in
    let lengths = ((ls ++ x ∷ []) ++ y ∷ []) ++ z ∷ [] in
    let start = length cells + 4 - lowbit (length cells + 4) in
    let low : start ≤ length ls = omega (arith, is.count_is, lowbit-of_four (length cells + 4) (omega arith) (omega arith)) in
    let count : length three ≡ length cells + 3 = omega (
      arith,
      length-append cells (x ∷ []),
      length-append (cells ++ x ∷ []) ((x + y) ∷ []),
      length-append ((cells ++ x ∷ []) ++ (x + y) ∷ []) (z ∷ []),
    ) in
    let end : length three + 1 ≡ length cells + 4 = omega arith in
    let begins : start ≡ length three + 1 - lowbit (length three + 1) = rw end refl in
    let one = length-append ls (x ∷ []) in
    let two = length-append (ls ++ x ∷ []) (y ∷ []) in
    let before : prefix_sum lengths start ≡ prefix_sum ls start =
    kept-prefix ((ls ++ x ∷ []) ++ y ∷ []) z start (omega arith) ∙ (kept-prefix (ls ++ x ∷ []) y start (omega arith) ∙ kept-prefix ls x start low) in
    let all : sum lengths ≡ sum ls + (x + y + z) = omega (arith, sum-last ls x, sum-last (ls ++ x ∷ []) y, sum-last ((ls ++ x ∷ []) ++ y ∷ []) z) in
    let whole = pushed three lengths c v start (pushed_three cells ls x y z is begin (omega arith)) begins (omega arith) (omega arith) in
    simp append_assoc at whole

-- the first k lengths, and their cells
pub shortened : (cells ls : List ℕ) (k : ℕ) → IsFenwickOf (cell_in cells) (length cells) ls → IsFenwickOf (cell_in (take k cells)) (length (take k cells)) (take k ls)
shortened cells ls k is = record {
  count_is = omega (arith, is.count_is, length-take k cells, length-take k ls);
  fits = omega (arith, is.fits, prefix-le ls k);
  each = λ i p q.
      let below : i ≤ k = omega (arith, length-take k cells) in
      let kept : cell_of (take k ls) i ≡ cell_of ls i = cell-same (take k ls) ls i (λ j h. ap sum (take-take j k ls (omega arith))) in
      get_or-take k cells (i - 1) 0 (omega arith) ∙ (is.each i p (omega (arith, length-take k cells)) ∙ sym kept);
}

pub prefix-set-below : (ls : List ℕ) (i v k : ℕ) → k ≤ i → prefix_sum (set ls i v) k ≡ prefix_sum ls k
prefix-set-below ls i v k h = ap sum (take-set-le k ls i v h)

pub prefix-set-above : (ls : List ℕ) (i v k : ℕ) → i < length ls → i < k → prefix_sum (set ls i v) k + get_or ls i 0 ≡ prefix_sum ls k + v
prefix-set-above ls i v k p h =
    let rest : sum (drop k (set ls i v)) ≡ sum (drop k ls) = ap sum (drop-set-lt k ls i v h) in
    omega (arith, rest, sum_by-take-drop (λ x. x) ls k, sum_by-take-drop (λ x. x) (set ls i v) k, sum_by-set (λ x. x) ls i v 0 p)

-- a cell that sums the changed length
pub touched : (ls : List ℕ) (i v j : ℕ) → i < length ls → j - lowbit j ≤ i → i < j → cell_of (set ls i v) j + get_or ls i 0 ≡ cell_of ls j + v
touched ls i v j p q h = omega (arith, prefix-cell ls j, prefix-cell (set ls i v) j, prefix-set-below ls i v (j - lowbit j) q, prefix-set-above ls i v j p h)

-- a cell that begins past it
untouched : (ls : List ℕ) (i v j : ℕ) → i < length ls → i < j - lowbit j → cell_of (set ls i v) j ≡ cell_of ls j
untouched ls i v j p h = omega (arith, prefix-cell ls j, prefix-cell (set ls i v) j, prefix-set-above ls i v (j - lowbit j) p h, prefix-set-above ls i v j p (omega arith))

pub cell-le : (ls : List ℕ) (j : ℕ) → cell_of ls j ≤ sum ls
cell-le ls j = omega (arith, prefix-cell ls j, prefix-le ls j)

-- the cells below j are those with the i-th length changed to v, the others those from before
pub record IsChanged (ls : List ℕ) (i v : ℕ) (cells : List ℕ) (j : ℕ) : Type 0 where
  pub count_is : length cells ≡ length ls
  pub above : i < j
  pub holds : j - lowbit j ≤ i
  pub changed : (m : ℕ) → 0 < m → m < j → m ≤ length cells → cell_in cells m ≡ cell_of (set ls i v) m
  pub ahead : (m : ℕ) → j ≤ m → m ≤ length cells → cell_in cells m ≡ cell_of ls m

pub change_starts : (ls : List ℕ) (i v : ℕ) (cells : List ℕ) → IsFenwickOf (cell_in cells) (length cells) ls → IsChanged ls i v cells (i + 1)
change_starts ls i v cells is = record {
  count_is = is.count_is;
  above = omega arith;
  holds = omega (arith, lowbit-pos (i + 1) (omega arith));
  changed = λ m p q r. is.each m p r ∙ sym (cell-same (set ls i v) ls m (λ k h. prefix-set-below ls i v k (omega arith)));
  ahead = λ m p q. is.each m (omega arith) q;
}

pub change_goes_on : (ls : List ℕ) (i v : ℕ) (cells : List ℕ) (j w : ℕ) → i < length ls → IsChanged ls i v cells j
    → j ≤ length cells → w + get_or ls i 0 ≡ cell_in cells j + v → IsChanged ls i v (set cells (j - 1) w) (j + lowbit j)
change_goes_on ls i v cells j w p at q is = record {
  count_is = omega (arith, at.count_is, length-set cells (j - 1) w);
  above = omega (arith, at.above);
  holds = omega (arith, at.holds, taken-in j);
  changed = λ m a b r.
      let size = length-set cells (j - 1) w in
      elim (eq-zero-or-pos (m - j)) [
        | inl le ↦
            elim (eq-zero-or-pos (j - m)) [
              | inl ge ↦
                  let here : m ≡ j = omega arith in
                  let place : m - 1 ≡ j - 1 = omega arith in
                  let new : w ≡ cell_of (set ls i v) j = omega (arith, is, at.ahead j (omega arith) q, touched ls i v j p at.holds at.above) in
                  ap (λ k. get_or (set cells (j - 1) w) k 0) place ∙ (get_or-set_same cells (j - 1) w 0 (omega arith) ∙ (new ∙ ap (cell_of (set ls i v)) (sym here)))
              | inr lt ↦
                  let off : m - 1 ≢ j - 1 = omega arith in
                  get_or-set_other cells (j - 1) (m - 1) w 0 off ∙ at.changed m a (omega arith) (omega arith)
            ]
        | inr gt ↦
            let off : m - 1 ≢ j - 1 = omega (arith, at.above) in
            get_or-set_other cells (j - 1) (m - 1) w 0 off ∙ (at.ahead m (omega arith) (omega arith) ∙ sym (untouched ls i v m p (omega (arith, at.above, skipped j m (omega arith) b))))
      ];
  ahead = λ m a r.
      let size = length-set cells (j - 1) w in
      let off : m - 1 ≢ j - 1 = omega (arith, lowbit-pos j (omega (arith, at.above))) in
      get_or-set_other cells (j - 1) (m - 1) w 0 off ∙ at.ahead m (omega arith) (omega arith);
}

pub change_ends : (ls : List ℕ) (i v : ℕ) (cells : List ℕ) (j : ℕ) → IsChanged ls i v cells j → length cells < j → sum (set ls i v) < 2 ^ 64 → IsFenwickOf (cell_in cells) (length cells) (set ls i v)
change_ends ls i v cells j at p fits = record {
  count_is = omega (arith, at.count_is, length-set ls i v);
  fits = fits;
  each = λ m a b. at.changed m a (omega arith) b;
}

-- no cells are those of no lengths
pub none : (cells : List ℕ) → cells ≡ [] → IsFenwickOf (cell_in cells) (length cells) []
none cells e = record {
  count_is = ap length e;
  fits = omega arith;
  each = λ i p q. absurd (omega (arith, ap length e));
}

-- the cells below i are those of ys, the others those of xs
pub record IsShifted (xs ys cells : List ℕ) (i : ℕ) : Type 0 where
  pub count_is : length cells ≡ length xs
  pub some : 0 < i
  pub done : (m : ℕ) → 0 < m → m < i → m ≤ length cells → cell_in cells m ≡ cell_of ys m
  pub ahead : (m : ℕ) → i ≤ m → m ≤ length cells → cell_in cells m ≡ cell_of xs m

pub shift_starts : (xs ys cells : List ℕ) (b : ℕ) → IsFenwickOf (cell_in cells) (length cells) xs
    → ((k : ℕ) → k ≤ b → k ≤ length cells → prefix_sum ys k ≡ prefix_sum xs k) → IsShifted xs ys cells (b + 1)
shift_starts xs ys cells b is low = record {
  count_is = is.count_is;
  some = omega arith;
  done = λ m p q r. is.each m p r ∙ cell-same xs ys m (λ k h. sym (low k (omega arith) (omega arith)));
  ahead = λ m p q. is.each m (omega arith) q;
}

pub shift_goes_on : (xs ys cells : List ℕ) (i w : ℕ) → IsShifted xs ys cells i → i ≤ length cells → w ≡ cell_of ys i → IsShifted xs ys (set cells (i - 1) w) (i + 1)
shift_goes_on xs ys cells i w at q is =
    let size = length-set cells (i - 1) w in
    let some = at.some in
    record {
      count_is = omega (arith, at.count_is, size);
      some = omega arith;
      done = λ m a b r.
          elim (eq-zero-or-pos (i - m)) [
            | inl ge ↦
                let here : m ≡ i = omega arith in
                let place : m - 1 ≡ i - 1 = omega arith in
                ap (λ k. get_or (set cells (i - 1) w) k 0) place ∙ (get_or-set_same cells (i - 1) w 0 (omega arith) ∙ (is ∙ ap (cell_of ys) (sym here)))
            | inr lt ↦
                let off : m - 1 ≢ i - 1 = omega arith in
                get_or-set_other cells (i - 1) (m - 1) w 0 off ∙ at.done m a (omega arith) (omega arith)
          ];
      ahead = λ m a r.
          let off : m - 1 ≢ i - 1 = omega arith in
          get_or-set_other cells (i - 1) (m - 1) w 0 off ∙ at.ahead m (omega arith) (omega arith);
    }

pub shift_ends : (xs ys cells : List ℕ) (i : ℕ) → IsShifted xs ys cells i → length cells < i → length ys ≡ length xs → sum ys < 2 ^ 64 → IsFenwickOf (cell_in cells) (length cells) ys
shift_ends xs ys cells i at p long fits = record {
  count_is = omega (arith, at.count_is);
  fits = fits;
  each = λ m a b. at.done m a (omega arith) b;
}
