-- The plain decimal text of a number, and how it is read.
use Rattle.std.proofs.Common.{◌≡◌, ◌≢◌, ℕ, zero, suc, ◌+◌, ◌-◌, ◌*◌, ◌<◌, ◌≤◌, ◌^◌, List, length, get_or, take, MatchOption, None, Option, Some, sym, ap, subst, ◌∙◌, arith}
use Rattle.std.specs.Fmt.{decimal}
use Rattle.std.specs.Int.{IsInRange}
use Rattle.std.specs.Str.Parse.{AllDigits, digits_value}
use Rattle.std.proofs.lemmas.Int.Digits.{digits_more, digits_value_more}
use Rattle.std.proofs.lemmas.Str.{digit_value_digit}
use Rattle.std.proofs.lemmas.Str.Parse.{IsNumeralModel, digit_at, digits_value-take-le, numerals_by_value, tells_digits}
use Rattle.std.proofs.lemmas.Fmt.{decimal_nonempty, first_decimal, digits_decimal, decimal-digits_value, decimal_digit, digits_value-decimal}

pub own : IsNumeralModel (AllDigits 10) (digits_value 10)
own = numerals_by_value (AllDigits 10) tells_digits

pub no_number-empty : (bs : List ℕ) → length bs ≡ 0 → (n : ℕ) → n < 2 ^ 64 → bs ≢ decimal n
no_number-empty bs none n small e = let some = decimal_nonempty n small in omega (arith, ap length e)

pub no_number-zero : (bs : List ℕ) → get_or bs 0 0 ≡ 48 → 1 < length bs → (n : ℕ) → n < 2 ^ 64 → bs ≢ decimal n
no_number-zero bs first long n small e = at n small e
  where
    at : (n : ℕ) → n < 2 ^ 64 → bs ≢ decimal n
    at zero small e = omega (arith, ap length e, ap length (decimal_digit 0 (omega arith)))
    at (suc n) small e = omega (arith, ap (λ l. get_or l 0 0) e, first_decimal (suc n) (omega arith) small)

-- ---- digits read one after another

module _ (bs : List ℕ) (i : ℕ) (within : i < length bs) where
  -- a byte that is not a digit
  pub no_digit : (IsInRange 48 57 (get_or bs i 0) → ⊥) → AllDigits 10 bs → ⊥
  no_digit none all = none (digit_at bs i all within)

  -- the digits so far are those of a number that is too large
  pub too_large : (m : ℕ) → m ≤ digits_value 10 (take (i + 1) bs) → m ≤ digits_value 10 bs
  too_large m large = omega (arith, large, digits_value-take-le 10 bs (i + 1) (omega arith))

  module _ (is : IsInRange 48 57 (get_or bs i 0)) where
    pub value_more : digits_value 10 (take (i + 1) bs) ≡ digits_value 10 (take i bs) * 10 + (get_or bs i 0 - 48)
    value_more = omega (arith, digits_value_more 10 bs i within, digit_value_digit (get_or bs i 0) is)

    pub all_more : AllDigits 10 (take i bs) → AllDigits 10 (take (i + 1) bs)
    all_more all = digits_more 10 bs i within all (omega (arith, is.1, digit_value_digit (get_or bs i 0) is))

-- ---- the number of the digits

-- the number that digits are read as
abbrev pub Reads : List ℕ → Option ℕ → Type 0
Reads bs o = MatchOption o (AllDigits 10 bs → 2 ^ 64 ≤ digits_value 10 bs) (λ n. AllDigits 10 bs × (n ≡ digits_value 10 bs) × (n < 2 ^ 64))

pub reads_none : (bs : List ℕ) (o : Option ℕ) → o ≡ None → (AllDigits 10 bs → 2 ^ 64 ≤ digits_value 10 bs) → Reads bs o
reads_none bs o is none = subst (Reads bs) (sym is) none

-- without a zero in front

pub written : (bs : List ℕ) → 0 < length bs → (get_or bs 0 0 ≡ 48 → length bs ≡ 1) → (o : Option ℕ) → Reads bs o
    → MatchOption o ((n : ℕ) → n < 2 ^ 64 → bs ≢ decimal n) (λ n. (bs ≡ decimal n) × (n < 2 ^ 64))
written bs some lone None none = λ n less e.
    let all : AllDigits 10 bs = subst (AllDigits 10) (sym e) (digits_decimal own n less) in
    omega (arith, less, none all, ap (digits_value 10) e, digits_value-decimal own n less)
written bs some lone (Some n) read = (sym (decimal-digits_value own bs read.0 some lone (subst (λ k. k < 2 ^ 64) read.1 read.2)) ∙ ap decimal (sym read.1), read.2)
