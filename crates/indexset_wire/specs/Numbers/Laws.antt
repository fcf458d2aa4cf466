-- Numbers are read as they were written.
use Rattle.std.proofs.Common.{drop, Option, None, Some, MatchOption, ◌≡◌, ◌≢◌, ℕ, suc}
use Rattle.std.proofs.Common.{◌-◌, ◌<◌, ◌≤◌, ◌^◌, Bool, true, false, cond, eqb, ◌&&◌}
use Rattle.std.proofs.Common.{List, [], ◌∷◌, get_or, refl, sym, ap, subst, ◌∙◌, arith, ne_eqb}
use Rattle.std.specs.Prelude.{nat_le, nat_lt, ℤ, pos, negsuc, Result}
use lib.Signed.{mag}
use mir.Syntax.{Width}
use mir.Val.{hbits}
use Rattle.std.specs.Result.{result_ok}
use Rattle.std.proofs.lemmas.Str.{IsUtf8-from_ascii}
use Rattle.std.proofs.lemmas.Str.Parse.{digit_at, numerals_by_value, tells_digits}
use Rattle.std.proofs.lemmas.Bool.{eqb-true, le-leb, leb-true, lt-ltb, ltb-true}
use Rattle.std.proofs.lemmas.Fmt.{IsAscii-signed, decimal_is_IsNumeral, decimal_nonempty}
use Rattle.std.proofs.lemmas.Fmt.{digits_decimal, parse-signed_decimal}
use Rattle.std.proofs.lemmas.List.Elements.{All-cons, All-nil}
use Rattle.std.proofs.lemmas.Slice.Eq.{bytes_eq-Decides}
use Rattle.std.specs.Char.{digit_value}
use Rattle.std.specs.Fmt.{decimal, signed_decimal}
use Rattle.std.specs.Option.{option_and_then}
use Rattle.std.specs.Str.{IsUtf8, bytes_eq}
use Rattle.std.specs.Str.Parse.{AllDigits, ParsesSigned, digits_value}
use Rattle.indexset_wire.specs.Numbers.{number_below, number_of, signed_below}
use Rattle.indexset_wire.specs.Parts.{is_item, is_token, lacks}
use Rattle.indexset_wire.specs.Parts.Laws.{Lacks, both, none_some, some_inj, then_some}
use Rattle.indexset_wire.specs.Parts.Laws.{token_item, token_parts}

-- ---- digits

digits_lack : (c : ℕ) → 10 ≤ digit_value c → (ds : List ℕ) → AllDigits 10 ds → Lacks c ds
digits_lack c big [] all = All-nil (λ x. x ≢ c)
digits_lack c big (x ∷ xs) all =
    All-cons (λ y. y ≢ c) x xs (λ e. absurd (omega (arith, ap digit_value e, all.0, big)))
    (digits_lack c big xs all.1)

pub number_lacks : (c : ℕ) → 10 ≤ digit_value c → (n : ℕ) → n < 2 ^ 64 → Lacks c (decimal n)
number_lacks c big n small = digits_lack c big (decimal n) (decimal_is_IsNumeral n small).0.1

lacks_digits : (c : ℕ) → 10 ≤ digit_value c → (ds : List ℕ) → AllDigits 10 ds → lacks c ds ≡ true
lacks_digits c big [] all = refl
lacks_digits c big (x ∷ xs) all =
    rw (ne_eqb x c (λ e. omega (arith, ap digit_value e, all.0, big)), lacks_digits c big xs all.1)
    refl

-- ---- numbers

pub number_told : (n : ℕ) → n < 2 ^ 64 → number_of (decimal n) ≡ Some n
unfolding number_of
number_told n small =
    ap (λ k. cond (nat_lt k (2 ^ 64) && bytes_eq (decimal n) (decimal k)) (Some k) None)
    (decimal_is_IsNumeral n small).1
    ∙ ap (λ b. cond (b && bytes_eq (decimal n) (decimal n)) (Some n) None) (lt-ltb n (2 ^ 64) small)
    ∙ ap (λ b. cond b (Some n) None) ((bytes_eq-Decides (decimal n) (decimal n)).1 refl)

pub number_sound : (text : List ℕ) (n : ℕ) → number_of text ≡ Some n
    → (text ≡ decimal n) × (n < 2 ^ 64)
unfolding number_of
number_sound text n e = at (nat_lt v (2 ^ 64) && bytes_eq text (decimal v)) refl e
  where
    v : ℕ
    v = digits_value 10 text

    at : (b : Bool) → (nat_lt v (2 ^ 64) && bytes_eq text (decimal v)) ≡ b
        → cond b (Some v) None ≡ Some n → (text ≡ decimal n) × (n < 2 ^ 64)
    at true is e =
        let tests = both _ _ is in
        let same : v ≡ n = some_inj v n e in (
          subst (λ k. text ≡ decimal k) same ((bytes_eq-Decides text (decimal v)).0 tests.1),
          subst (λ k. k < 2 ^ 64) same (ltb-true v (2 ^ 64) tests.0),
        )
    at false is e = none_some n e

-- the text is that of the number, or of no number
abbrev pub IsNumberOf : List ℕ → Option ℕ → Type 0
IsNumberOf text o =
    MatchOption o ((n : ℕ) → n < 2 ^ 64 → text ≢ decimal n) (λ n. (text ≡ decimal n) × (n < 2 ^ 64))

pub number_is : (text : List ℕ) (o : Option ℕ) → IsNumberOf text o → o ≡ number_of text
number_is text (Some n) h = sym (ap number_of h.0 ∙ number_told n h.1)
number_is text None h = at (number_of text) refl
  where
    at : (o : Option ℕ) → number_of text ≡ o → None ≡ o
    at None e = refl
    at (Some n) e = let told = number_sound text n e in absurd (h n told.1 told.0)

pub number_cases : (text : List ℕ) (o : Option ℕ) → o ≡ number_of text → IsNumberOf text o
number_cases text (Some n) e = number_sound text n (sym e)
number_cases text None e = λ n small is. none_some n (e ∙ ap number_of is ∙ number_told n small)

pub decimal_token : (n : ℕ) → n < 2 ^ 64 → is_token (decimal n) ≡ true
unfolding is_token
decimal_token n small =
    let digits = (decimal_is_IsNumeral n small).0.1 in
    rw (
      lacks_digits 10 (omega arith) (decimal n) digits,
      lacks_digits 32 (omega arith) (decimal n) digits,
      lacks_digits 58 (omega arith) (decimal n) digits,
    )
    refl

pub decimal_item : (n : ℕ) → n < 2 ^ 64 → is_item (decimal n) ≡ true
decimal_item n small = token_item (decimal n) (decimal_token n small)

-- ---- numbers below a bound

module _ (bound : ℕ) (most : nat_le bound (2 ^ 64) ≡ true) where
  small : (n : ℕ) → n < bound → n < 2 ^ 64
  small n less = omega (arith, leb-true bound (2 ^ 64) most)

  pub below_told : (n : ℕ) → n < bound → number_below bound (decimal n) ≡ Some n
  below_told n less = rw (number_told n (small n less), lt-ltb n bound less) refl

  pub below_token : (n : ℕ) → n < bound → is_token (decimal n) ≡ true
  below_token n less = decimal_token n (small n less)

  pub below_item : (n : ℕ) → n < bound → is_item (decimal n) ≡ true
  below_item n less = token_item (decimal n) (below_token n less)

pub below_sound : (bound : ℕ) (text : List ℕ) (n : ℕ) → number_below bound text ≡ Some n
    → (text ≡ decimal n) × (n < bound)
below_sound bound text n e =
    let read = then_some (number_of text) (λ m. cond (nat_lt m bound) (Some m) None) n e in
    let told = number_sound text read.0 read.1 in
    at read.0 told.0 (nat_lt read.0 bound) refl read.2
  where
    at : (m : ℕ) → text ≡ decimal m → (b : Bool) → nat_lt m bound ≡ b
        → cond b (Some m) None ≡ Some n → (text ≡ decimal n) × (n < bound)
    at m text_is true less e = let same = some_inj m n e in (
      subst (λ k. text ≡ decimal k) same text_is,
      subst (λ k. k < bound) same (ltb-true m bound less),
    )
    at m text_is false less e = none_some n e

-- ---- signed numbers

-- the text of a number does not begin with a minus
no_minus : (n : ℕ) → n < 2 ^ 64 → eqb (get_or (decimal n) 0 0) 45 ≡ false
no_minus n small =
    let own = numerals_by_value (AllDigits 10) tells_digits in
    let digit = digit_at (decimal n) 0 (digits_decimal own n small) (decimal_nonempty n small) in
    ne_eqb (get_or (decimal n) 0 0) 45 (λ e. omega (arith, digit, e))

minus_first : (text : List ℕ) → eqb (get_or text 0 0) 45 ≡ true → text ≡ 45 ∷ drop 1 text
minus_first [] e = absurd (cc)
minus_first (c ∷ text) e = ap (λ x. x ∷ text) (eqb-true c 45 e)

module _ (half : ℕ) where
  pub signed_sound : (text : List ℕ) (z : ℤ) → signed_below half text ≡ Some z
      → (text ≡ signed_decimal z) × (mag z < half)
  unfolding signed_below
  signed_sound text z e = at (eqb (get_or text 0 0) 45) refl e
    where
      minus : ℕ → Option ℤ
      minus n = cond (nat_lt 0 n && nat_le n half) (Some (negsuc (n - 1))) None

      plain : ℕ → Option ℤ
      plain n = cond (nat_lt n half) (Some (pos n)) None

      under : (n : ℕ) → text ≡ 45 ∷ decimal n → (b : Bool) → (nat_lt 0 n && nat_le n half) ≡ b
          → cond b (Some (negsuc (n - 1))) None ≡ Some z
          → (text ≡ signed_decimal z) × (mag z < half)
      under n is true tests e =
          let parts = both (nat_lt 0 n) (nat_le n half) tests in
          let some : 0 < n = ltb-true 0 n parts.0 in
          let most : n ≤ half = leb-true n half parts.1 in
          let next : n ≡ suc (n - 1) = omega (arith, some) in
          subst (λ y. (text ≡ signed_decimal y) × (mag y < half))
          (some_inj (negsuc (n - 1)) z e)
          (is ∙ ap (λ m. 45 ∷ decimal m) next, omega (arith, some, most))
      under n is false tests e = none_some z e

      over : (n : ℕ) → text ≡ decimal n → (b : Bool) → nat_lt n half ≡ b
          → cond b (Some (pos n)) None ≡ Some z → (text ≡ signed_decimal z) × (mag z < half)
      over n is true less e =
          subst (λ y. (text ≡ signed_decimal y) × (mag y < half)) (some_inj (pos n) z e)
          (is, ltb-true n half less)
      over n is false less e = none_some z e

      at : (b : Bool) → eqb (get_or text 0 0) 45 ≡ b
          → cond b (option_and_then minus (number_of (drop 1 text)))
          (option_and_then plain (number_of text))
          ≡ Some z
          → (text ≡ signed_decimal z) × (mag z < half)
      at true is e =
          let read = then_some (number_of (drop 1 text)) minus z e in
          let told = number_sound (drop 1 text) read.0 read.1 in
          under read.0 (minus_first text is ∙ ap (λ l. 45 ∷ l) told.0)
          (nat_lt 0 read.0 && nat_le read.0 half) refl read.2
      at false is e =
          let read = then_some (number_of text) plain z e in
          let told = number_sound text read.0 read.1 in
          over read.0 told.0 (nat_lt read.0 half) refl read.2

  module _ (most : nat_le half (2 ^ 63) ≡ true) where
    narrow : (n : ℕ) → n < half → n < 2 ^ 63
    narrow n less = omega (arith, leb-true half (2 ^ 63) most)

    pub signed_told : (z : ℤ) → mag z < half → signed_below half (signed_decimal z) ≡ Some z
    unfolding signed_below
    signed_told (pos n) less =
        let small : n < 2 ^ 64 = omega (arith, narrow n less) in
        rw (no_minus n small, number_told n small, lt-ltb n half less) refl
    signed_told (negsuc n) less =
        let small : suc n < 2 ^ 64 = omega (arith, narrow n less) in
        let within : nat_le (suc n) half ≡ true = le-leb (suc n) half (omega (arith, less)) in
        let some : nat_lt 0 (suc n) ≡ true = lt-ltb 0 (suc n) (omega arith) in
        rw (number_told (suc n) small, some, within) (ap (λ m. Some (negsuc m)) (omega arith))

    pub signed_token : (z : ℤ) → mag z < half → is_token (signed_decimal z) ≡ true
    unfolding is_token
    signed_token (pos n) less = decimal_token n (omega (arith, narrow n less))
    signed_token (negsuc n) less =
        let h =
        token_parts (decimal (suc n)) (decimal_token (suc n) (omega (arith, narrow n less))) in
        rw (h.0, h.1, h.2) refl

    pub signed_item : (z : ℤ) → mag z < half → is_item (signed_decimal z) ≡ true
    signed_item z less = token_item (signed_decimal z) (signed_token z less)

    -- such a text is UTF-8
    pub signed_utf8 : (text : List ℕ) (z : ℤ) → signed_below half text ≡ Some z → IsUtf8 text
    signed_utf8 text z e = let h = signed_sound text z e in
        subst IsUtf8 (sym h.0)
        (IsUtf8-from_ascii (signed_decimal z) (IsAscii-signed z (narrow (mag z) h.1)))

-- the result of `parse` for such a text
pub signed_parsed : {E : Type 0} (w : Width) (bs text : List ℕ) (r : Result ℤ E) (z : ℤ)
    → nat_le (2 ^ hbits w) (2 ^ 63) ≡ true → signed_below (2 ^ hbits w) bs ≡ Some z → text ≡ bs
    → ParsesSigned w 10 text r → result_ok r ≡ signed_below (2 ^ hbits w) bs
signed_parsed {E = E} w bs text r z most told same parses =
    let h = signed_sound (2 ^ hbits w) bs z told in
    let fits : mag z < 2 ^ 63 = omega (arith, h.1, leb-true (2 ^ hbits w) (2 ^ 63) most) in
    ap (λ q. result_ok q)
    (parse-signed_decimal {E = E} w z text r (record { sfits = h.1 }) fits (same ∙ h.0) parses)
    ∙ sym told
