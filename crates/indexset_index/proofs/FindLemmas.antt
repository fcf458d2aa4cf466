-- Steps of the search for a position.
use Rattle.std.proofs.Common.{◌≡◌, ℕ, zero, suc, ◌+◌, ◌-◌, ◌*◌, ◌/◌, ◌<◌, ◌≤◌, ◌^◌, List, length, sum, get_or, inl, inr, ap, pow-suc, eq-zero-or-pos, arith}
use Rattle.std.proofs.Math.Nat.{pow-le-pow_right}
use Rattle.std.proofs.lemmas.Nat.{pow_pos}
use Rattle.indexset_core.specs.Digits.{digits}
use Rattle.indexset_core.proofs.CallerLemmas.{digits-zero, digits-half, digits-least, digits-most}
use Rattle.indexset_index.specs.Fenwick.{lowbit, prefix_sum, cell_of}
use Rattle.indexset_index.proofs.LowbitLemmas.{lowbit-at}
use Rattle.indexset_index.proofs.PrefixLemmas.{prefix-cell, prefix-le, prefix-more, prefix-all}

pow-up : (a b : ℕ) → a ≤ b → 2 ^ a ≤ 2 ^ b
pow-up a b h = pow-le-pow_right {n = 2} (omega arith) {i = a} {j = b} h

pub pow-half : (l : ℕ) → 0 < l → 2 ^ l ≡ 2 * 2 ^ (l - 1)
pow-half zero p = absurd (omega arith)
pow-half (suc l) p = let e : suc l - 1 ≡ l = omega arith in rw (e, pow-suc 2 l) (omega arith)

digits-some : (n : ℕ) → 0 < digits n → 0 < n
digits-some zero h = absurd (omega (arith, digits-zero))
digits-some (suc n) h = omega arith

-- fewer digits do not suffice, and more are not needed
pub digits-is : (n m : ℕ) → n < 2 ^ m → 2 ^ m ≤ 2 * n + 1 → digits n ≡ m
digits-is n m p q =
    elim (eq-zero-or-pos (digits n - m)) [
      | inl le ↦
          elim (eq-zero-or-pos (m - digits n)) [
            | inl ge ↦ omega arith
            | inr gt ↦ absurd (omega (arith, digits-most n, pow-up (digits n) (m - 1) (omega arith), pow-half m (omega arith)))
          ]
      | inr gt ↦ absurd (omega (arith, pow-up m (digits n - 1) (omega arith), digits-least n (digits-some n (omega arith))))
    ]

-- the cell a step past a multiple of two steps sums exactly the step
pub step-lowbit : (node m l : ℕ) → node ≡ m * (2 * 2 ^ l) → lowbit (node + 2 ^ l) ≡ 2 ^ l
step-lowbit node m l h =
    let e : node + 2 ^ l ≡ (2 * m + 1) * 2 ^ l = omega arith in
    rw e (lowbit-at m l)

-- the greatest power of two that is not above n has as many digits
pub power-digits : (n step : ℕ) → step ≡ 2 ^ digits n / 2 → digits step ≡ digits n
power-digits n step is = digits-is step (digits n) (omega (arith, pow_pos (digits n))) (omega arith)

-- a power of two, and its half
pub halved : (step : ℕ) → 0 < step → step ≡ 2 ^ digits step / 2 → (digits step ≡ suc (digits (step / 2))) × (step ≡ 2 ^ digits (step / 2)) × (step / 2 ≡ 2 ^ digits (step / 2) / 2)
halved step some is =
    let one : digits step ≡ suc (digits (step / 2)) = omega (arith, digits-half step some) in
    let power : step ≡ 2 ^ digits (step / 2) = omega (arith, is, ap (λ d. 2 ^ d) one, pow-suc 2 (digits (step / 2))) in
    (one, power, ap (λ n. n / 2) power)

-- the state of the search: the node is a multiple of the span of the level, and the position is
-- neither before it nor past the span
pub record IsAt (lengths : List ℕ) (count position level node before : ℕ) : Type 0 where
  pub within : node ≤ count
  pub whole : (m : ℕ) × (node ≡ m * 2 ^ level)
  pub value : before ≡ prefix_sum lengths node
  pub reached : before ≤ position
  pub below : node + 2 ^ level ≤ count → position < prefix_sum lengths (node + 2 ^ level)

pub starts : (ls : List ℕ) (count position level : ℕ) → count < 2 ^ level → IsAt ls count position level 0 0
starts ls count position level h = record {
  within = omega arith;
  whole = (0, omega arith);
  value = omega arith;
  reached = omega arith;
  below = λ p. absurd (omega arith);
}

module _ (ls : List ℕ) (count position step low node before : ℕ) (is : step ≡ 2 ^ low) (at : IsAt ls count position (suc low) node before) where
  double : 2 ^ suc low ≡ 2 * step
  double = rw is (omega (arith, pow-suc 2 low))

  halved-whole : node ≡ at.whole.0 * (2 * step)
  halved-whole = rw double at at.whole.1

  sums : (held : ℕ) → held ≡ cell_of ls (node + step) → before + held ≡ prefix_sum ls (node + step)
  sums held cell =
      let low-bit : lowbit (node + step) ≡ step = rw is (step-lowbit node at.whole.0 low (rw (← is) halved-whole)) in
      let e : node + step - lowbit (node + step) ≡ node = omega arith in
      let start : prefix_sum ls (node + step - lowbit (node + step)) ≡ prefix_sum ls node = ap (prefix_sum ls) e in
      omega (arith, prefix-cell ls (node + step), at.value)

  -- no sum is past that of all
  pub summed : (held : ℕ) → held ≡ cell_of ls (node + step) → before + held ≤ sum ls
  summed held cell = omega (arith, sums held cell, prefix-le ls (node + step))

  pub passed : (held : ℕ) → held ≡ cell_of ls (node + step) → step ≤ count - node → before + held ≤ position → IsAt ls count position low (node + step) (before + held)
  passed held cell room le =
      let e : node + step + 2 ^ low ≡ node + 2 ^ suc low = omega (arith, double) in
      record {
        within = omega arith;
        whole = (2 * at.whole.0 + 1, rw (← is) (omega (arith, halved-whole)));
        value = sums held cell;
        reached = le;
        below = rw e at.below;
      }

  halves : (node + step ≤ count → position < prefix_sum ls (node + step)) → IsAt ls count position low node before
  halves below = record {
    within = at.within;
    whole = (2 * at.whole.0, rw (← is) (omega (arith, halved-whole)));
    value = at.value;
    reached = at.reached;
    below = rw (← is) below;
  }

  pub stopped : (held : ℕ) → held ≡ cell_of ls (node + step) → position < before + held → IsAt ls count position low node before
  stopped held cell lt = halves (λ _. omega (arith, sums held cell))

  pub outside : count - node < step → IsAt ls count position low node before
  outside lt = halves (λ p. absurd (omega (arith, at.within)))

pub found : (ls : List ℕ) (count position node before : ℕ) → count ≡ length ls → IsAt ls count position 0 node before → node < count → position - before < get_or ls node 0
found ls count position node before is at lt = omega (arith, prefix-more ls node (omega arith), at.value, at.reached, at.below (omega arith))

pub past : (ls : List ℕ) (count position node before : ℕ) → count ≡ length ls → IsAt ls count position 0 node before → count ≤ node → sum ls ≤ position
past ls count position node before is at le = omega (arith, prefix-all ls node (omega arith), at.value, at.reached)
