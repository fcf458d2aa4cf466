-- The digits of a number.
use Rattle.std.proofs.Common.{◌≡◌, ℕ, zero, suc, ◌+◌, ◌-◌, ◌/◌, ◌^◌, ◌*◌, ◌<◌, ◌≤◌, ap, ◌∙◌, arith}
use Rattle.std.proofs.Math.Nat.{pow-suc}

-- dividing a number of at least two digits by 10 removes one digit
pub one_digit_less : (a n : ℕ) → 10 ≤ n → n < 10 ^ (a + 1) → (0 < a) × (n / 10 < 10 ^ (a - 1 + 1))
one_digit_less zero n more small = absurd (omega arith)
one_digit_less (suc k) n more small =
    let at : suc k - 1 + 1 ≡ suc k = omega arith in
    let over : suc k + 1 ≡ suc (suc k) = omega arith in
    let tenfold : 10 ^ (suc k + 1) ≡ 10 ^ suc k * 10 = ap (λ e. 10 ^ e) over ∙ pow-suc 10 (suc k) in
    (omega arith, rw at (omega (arith, tenfold)))
