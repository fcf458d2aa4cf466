-- The lowest one bit of a number.
use Rattle.std.proofs.Common.{◌≡◌, ℕ, zero, suc, ◌+◌, ◌-◌, ◌*◌, ◌/◌, ◌%◌, ◌<◌, ◌≤◌, ◌^◌, bit_and, inl, inr, refl, sym, subst, pow-suc, eq-zero-or-pos, arith}
use Rattle.std.proofs.lemmas.Nat.{and_block, ones_cat}
use Rattle.std.specs.Int.Bits.{and_self}
use Rattle.std.specs.Int.RustNames.{count_ones}
use Rattle.indexset_index.specs.Fenwick.{lowbit, lowbit_within}

-- more bits than there are change nothing
enough : (f g n : ℕ) → n ≤ f → n ≤ g → lowbit_within f n ≡ lowbit_within g n
enough zero zero n p q = refl
enough zero (suc g) zero p q = let e : lowbit_within g 0 ≡ 0 = sym (enough zero g zero (omega arith) (omega arith)) in rw e refl
enough zero (suc g) (suc n) p q = absurd (omega arith)
enough (suc f) zero zero p q = let e : lowbit_within f 0 ≡ 0 = enough f zero zero (omega arith) (omega arith) in rw e refl
enough (suc f) zero (suc n) p q = absurd (omega arith)
enough (suc f) (suc g) zero p q = rw (enough f g zero (omega arith) (omega arith)) refl
enough (suc f) (suc g) (suc n) p q = rw (enough f g (suc n / 2) (omega arith) (omega arith)) refl

pub lowbit-zero : lowbit 0 ≡ 0
unfolding lowbit
lowbit-zero = refl

odd-within : (f a : ℕ) → lowbit_within (suc f) (2 * a + 1) ≡ 1
odd-within f a = let e : (2 * a + 1) % 2 ≡ 1 = omega arith in rw e refl

pub lowbit-odd : (a : ℕ) → lowbit (2 * a + 1) ≡ 1
unfolding lowbit
lowbit-odd a = let e : 2 * a + 1 ≡ suc (2 * a) = omega arith in rw (enough (2 * a + 1) (suc (2 * a)) (2 * a + 1) (omega arith) (omega arith)) (odd-within (2 * a) a)

even-within : (f a : ℕ) → lowbit_within (suc f) (2 * a) ≡ 2 * lowbit_within f a
even-within f a = let e : (2 * a) % 2 ≡ 0 = omega arith in let h : 2 * a / 2 ≡ a = omega arith in rw (e, h) refl

pub lowbit-even : (a : ℕ) → lowbit (2 * a) ≡ 2 * lowbit a
unfolding lowbit
lowbit-even a = rw (enough (2 * a) (suc (2 * a)) (2 * a) (omega arith) (omega arith), even-within (2 * a) a, enough (2 * a) a a (omega arith) (omega arith)) refl

-- by the remainder of n
pub lowbit-of_odd : (n : ℕ) → n % 2 ≡ 1 → lowbit n ≡ 1
lowbit-of_odd n h = let e : 2 * (n / 2) + 1 ≡ n = omega arith in rw e at (lowbit-odd (n / 2))

lowbit-of_even : (n : ℕ) → n % 2 ≡ 0 → lowbit n ≡ 2 * lowbit (n / 2)
lowbit-of_even n h = let e : 2 * (n / 2) ≡ n = omega arith in subst (λ m. lowbit m ≡ 2 * lowbit (n / 2)) e (lowbit-even (n / 2))

pub lowbit-of_two : (n : ℕ) → n % 4 ≡ 2 → lowbit n ≡ 2
lowbit-of_two n h = omega (arith, lowbit-of_even n (omega arith), lowbit-of_odd (n / 2) (omega arith))

-- by cases on the lowest digit: a property of 0, and of a number if its half has it
halved-within : (P : ℕ → Type 0) → P 0 → ((a : ℕ) → P a → P (2 * a + 1)) → ((a : ℕ) → 0 < a → P a → P (2 * a)) → (f n : ℕ) → n ≤ f → P n
halved-within P none odd even zero zero p = none
halved-within P none odd even zero (suc n) p = absurd (omega arith)
halved-within P none odd even (suc f) zero p = none
halved-within P none odd even (suc f) (suc n) p =
    let half : P (suc n / 2) = halved-within P none odd even f (suc n / 2) (omega arith) in
    elim (eq-zero-or-pos (suc n % 2)) [
      | inl is ↦ let e : 2 * (suc n / 2) ≡ suc n = omega arith in rw e at (even (suc n / 2) (omega arith) half)
      | inr is ↦ let e : 2 * (suc n / 2) + 1 ≡ suc n = omega arith in rw e at (odd (suc n / 2) half)
    ]

pub halved : (P : ℕ → Type 0) → P 0 → ((a : ℕ) → P a → P (2 * a + 1)) → ((a : ℕ) → 0 < a → P a → P (2 * a)) → (n : ℕ) → P n
halved P none odd even n = halved-within P none odd even n n (omega arith)

pub lowbit-le : (n : ℕ) → lowbit n ≤ n
lowbit-le = halved (λ n. lowbit n ≤ n) (omega (arith, lowbit-zero)) (λ a h. omega (arith, lowbit-odd a)) (λ a p h. omega (arith, lowbit-even a))

pub lowbit-pos : (n : ℕ) → 0 < n → 0 < lowbit n
lowbit-pos = halved (λ n. 0 < n → 0 < lowbit n) (λ p. absurd (omega arith)) (λ a h p. omega (arith, lowbit-odd a)) (λ a q h p. omega (arith, lowbit-even a, h q))

pub lowbit-of_four : (n : ℕ) → 0 < n → n % 4 ≡ 0 → 4 ≤ lowbit n
lowbit-of_four n p h = omega (arith, lowbit-of_even n (omega arith), lowbit-of_even (n / 2) (omega arith), lowbit-pos (n / 2 / 2) (omega arith))

and-odd : (a : ℕ) → bit_and (2 * a + 1) (2 * a + 1 - 1) ≡ 2 * a
and-odd a =
    let e : 2 * a + 1 ≡ a * 2 ^ 1 + 1 = omega arith in
    let g : 2 * a + 1 - 1 ≡ a * 2 ^ 1 + 0 = omega arith in
    rw (g, e, and_block 1 a a 1 0 (omega arith) (omega arith), and_self a) (omega arith)

and-even : (a : ℕ) → 0 < a → bit_and (2 * a) (2 * a - 1) ≡ 2 * bit_and a (a - 1)
and-even a p =
    let e : 2 * a ≡ a * 2 ^ 1 + 0 = omega arith in
    let g : 2 * a - 1 ≡ (a - 1) * 2 ^ 1 + 1 = omega arith in
    rw (g, e, and_block 1 a (a - 1) 0 1 (omega arith) (omega arith)) (omega arith)

-- without its lowest one bit
pub and-clears : (n : ℕ) → 0 < n → bit_and n (n - 1) ≡ n - lowbit n
and-clears = halved (λ n. 0 < n → bit_and n (n - 1) ≡ n - lowbit n)
    (λ p. absurd (omega arith))
    (λ a h p. omega (arith, and-odd a, lowbit-odd a))
    (λ a q h p. omega (arith, and-even a q, lowbit-even a, h q))

one-one : count_ones 1 ≡ 1
unfolding count_ones
one-one = refl

pub ones-zero : count_ones 0 ≡ 0
unfolding count_ones
ones-zero = refl

ones-odd : (a : ℕ) → count_ones (2 * a + 1) ≡ count_ones a + 1
ones-odd a = let e : 2 * a + 1 ≡ a * 2 ^ 1 + 1 = omega arith in rw (e, ones_cat 1 a 1 (omega arith)) (omega (arith, one-one))

ones-even : (a : ℕ) → count_ones (2 * a) ≡ count_ones a
ones-even a = let e : 2 * a ≡ a * 2 ^ 1 + 0 = omega arith in rw (e, ones_cat 1 a 0 (omega arith)) (omega (arith, ones-zero))

ones-clear-odd : (a : ℕ) → count_ones (2 * a + 1) ≡ count_ones (2 * a + 1 - lowbit (2 * a + 1)) + 1
ones-clear-odd a = let e : 2 * a + 1 - lowbit (2 * a + 1) ≡ 2 * a = omega (arith, lowbit-odd a) in rw e (omega (arith, ones-odd a, ones-even a))

ones-clear-even : (a : ℕ) → count_ones a ≡ count_ones (a - lowbit a) + 1 → count_ones (2 * a) ≡ count_ones (2 * a - lowbit (2 * a)) + 1
ones-clear-even a h = let e : 2 * a - lowbit (2 * a) ≡ 2 * (a - lowbit a) = omega (arith, lowbit-even a) in rw e (omega (arith, ones-even a, ones-even (a - lowbit a)))

pub ones-clears : (n : ℕ) → 0 < n → count_ones n ≡ count_ones (n - lowbit n) + 1
ones-clears = halved (λ n. 0 < n → count_ones n ≡ count_ones (n - lowbit n) + 1)
    (λ p. absurd (omega arith))
    (λ a h p. ones-clear-odd a)
    (λ a q h p. ones-clear-even a (h q))

-- the bits of m, a one and l zeros
pub lowbit-at : (m l : ℕ) → lowbit ((2 * m + 1) * 2 ^ l) ≡ 2 ^ l
lowbit-at m zero = let e : (2 * m + 1) * 2 ^ 0 ≡ 2 * m + 1 = omega arith in rw (e, lowbit-odd m) refl
lowbit-at m (suc l) =
    let e : (2 * m + 1) * 2 ^ suc l ≡ 2 * ((2 * m + 1) * 2 ^ l) = rw (pow-suc 2 l) (omega arith) in
    rw (e, lowbit-even ((2 * m + 1) * 2 ^ l), lowbit-at m l, pow-suc 2 l) (omega arith)

-- What the cell after the next takes in

-- n at least k, seen on the halves
parted : (P : ℕ → Type 0) → ((a : ℕ) → P (2 * a)) → ((a : ℕ) → P (2 * a + 1)) → (n : ℕ) → P n
parted P even odd n =
    elim (eq-zero-or-pos (n % 2)) [
      | inl is ↦ let e : 2 * (n / 2) ≡ n = omega arith in rw e at (even (n / 2))
      | inr is ↦ let e : 2 * (n / 2) + 1 ≡ n = omega arith in rw e at (odd (n / 2))
    ]

-- the sums that cells hold lie within one another: what ends inside begins inside
record Nests (n : ℕ) : Type 0 where
  pub inside : (j : ℕ) → n - lowbit n < j → j < n → n - lowbit n ≤ j - lowbit j

nests-odd : (a : ℕ) → Nests (2 * a + 1)
nests-odd a = record { inside = λ j p q. absurd (omega (arith, lowbit-odd a)) }

nests-even : (a : ℕ) → Nests a → Nests (2 * a)
nests-even a h = record {
  inside = parted (λ j. 2 * a - lowbit (2 * a) < j → j < 2 * a → 2 * a - lowbit (2 * a) ≤ j - lowbit j)
      (λ b p q. omega (arith, lowbit-even a, lowbit-even b, h.inside b (omega (arith, lowbit-even a)) (omega arith)))
      (λ b p q. omega (arith, lowbit-even a, lowbit-odd b));
}

nests : (n : ℕ) → Nests n
nests = halved Nests (record { inside = λ j p q. absurd (omega arith) }) (λ a h. nests-odd a) (λ a q h. nests-even a h)

pub nested : (n j : ℕ) → n - lowbit n < j → j < n → n - lowbit n ≤ j - lowbit j
nested n = (nests n).inside

-- between a cell and the next that takes it in, none reaches below its end
record IsApart (n : ℕ) : Type 0 where
  pub apart : (j : ℕ) → n < j → j < n + lowbit n → n ≤ j - lowbit j

apart-odd : (a : ℕ) → IsApart (2 * a + 1)
apart-odd a = record { apart = λ j p q. absurd (omega (arith, lowbit-odd a)) }

apart-even : (a : ℕ) → IsApart a → IsApart (2 * a)
apart-even a h = record {
  apart = parted (λ j. 2 * a < j → j < 2 * a + lowbit (2 * a) → 2 * a ≤ j - lowbit j)
      (λ b p q. omega (arith, lowbit-even b, h.apart b (omega arith) (omega (arith, lowbit-even a))))
      (λ b p q. omega (arith, lowbit-odd b));
}

all-apart : (n : ℕ) → IsApart n
all-apart = halved IsApart (record { apart = λ j p q. absurd (omega (arith, lowbit-zero)) }) (λ a h. apart-odd a) (λ a q h. apart-even a h)

pub skipped : (n j : ℕ) → n < j → j < n + lowbit n → n ≤ j - lowbit j
skipped n = (all-apart n).apart

-- the next takes in all that the cell does
pub taken-in : (n : ℕ) → (n + lowbit n) - lowbit (n + lowbit n) ≤ n - lowbit n
taken-in = halved (λ n. (n + lowbit n) - lowbit (n + lowbit n) ≤ n - lowbit n)
    (rw (lowbit-zero) (omega arith))
    (λ a h. let e : 2 * a + 1 + lowbit (2 * a + 1) ≡ 2 * (a + 1) = omega (arith, lowbit-odd a) in rw e (omega (arith, lowbit-odd a, lowbit-even (a + 1), lowbit-pos (a + 1) (omega arith))))
    (λ a q h. let e : 2 * a + lowbit (2 * a) ≡ 2 * (a + lowbit a) = omega (arith, lowbit-even a) in rw e (omega (arith, lowbit-even a, lowbit-even (a + lowbit a))))
