-- The texts of a type's values.
use Rattle.std.specs.Prelude.{◌≡◌, ℕ, ◌^◌, ◌<◌, true, nat_le, ℤ, List, Option, Some}
use lib.Signed.{mag}
use Rattle.std.specs.Fmt.{decimal, signed_decimal}
use Rattle.indexset_wire.specs.Numbers.{number_below, number_of, signed_below}
use Rattle.indexset_wire.specs.Numbers.Laws.{below_item, below_sound, below_told, below_token}
use Rattle.indexset_wire.specs.Numbers.Laws.{decimal_item, decimal_token, number_sound}
use Rattle.indexset_wire.specs.Numbers.Laws.{number_told, signed_item, signed_sound}
use Rattle.indexset_wire.specs.Numbers.Laws.{signed_told, signed_token}
use Rattle.indexset_wire.specs.Parts.{is_item, is_token}

-- the text of a value, the value of a text, if any, and the values in range
pub record Texts (T : Type 0) : Type 1 where
  pub text : T → List ℕ
  pub parse : List ℕ → Option T
  pub InRange : T → Type 0

-- the text of a value is read as that value, and no other text is; it has no end of line and no
-- space
pub record AreItems {T : Type 0} (texts : Texts T) : Type 0 where
  pub reads_back : (x : T) → texts.InRange x → texts.parse (texts.text x) ≡ Some x
  pub only : (text : List ℕ) (x : T) → texts.parse text ≡ Some x
      → (text ≡ texts.text x) × texts.InRange x
  pub one_item : (x : T) → texts.InRange x → is_item (texts.text x) ≡ true

-- nor has it a colon
pub record AreTokens {T : Type 0} (texts : Texts T) : Type 0 where
  pub items : AreItems texts
  pub one_token : (x : T) → texts.InRange x → is_token (texts.text x) ≡ true

-- the texts of 64-bit numbers
abbrev pub number_texts : Texts ℕ
number_texts = record { text = decimal; parse = number_of; InRange = λ n. n < 2 ^ 64 }

pub number_items : AreItems number_texts
number_items = record {
  reads_back = number_told;
  only = number_sound;
  one_item = decimal_item;
}

pub number_tokens : AreTokens number_texts
number_tokens = record { items = number_items; one_token = decimal_token }

-- the texts of the numbers below a bound
abbrev pub below_texts : ℕ → Texts ℕ
below_texts bound = record { text = decimal; parse = number_below bound; InRange = λ n. n < bound }

pub below_items : (bound : ℕ) → nat_le bound (2 ^ 64) ≡ true → AreItems (below_texts bound)
below_items bound most = record {
  reads_back = below_told bound most;
  only = below_sound bound;
  one_item = below_item bound most;
}

pub below_tokens : (bound : ℕ) → nat_le bound (2 ^ 64) ≡ true → AreTokens (below_texts bound)
below_tokens bound most = record {
  items = below_items bound most;
  one_token = below_token bound most;
}

-- the texts of the signed numbers from -half to below half
abbrev pub signed_texts : ℕ → Texts ℤ
signed_texts half = record {
  text = signed_decimal;
  parse = signed_below half;
  InRange = λ z. mag z < half;
}

pub signed_items : (half : ℕ) → nat_le half (2 ^ 63) ≡ true → AreItems (signed_texts half)
signed_items half most = record {
  reads_back = signed_told half most;
  only = signed_sound half;
  one_item = signed_item half most;
}

pub signed_tokens : (half : ℕ) → nat_le half (2 ^ 63) ≡ true → AreTokens (signed_texts half)
signed_tokens half most = record {
  items = signed_items half most;
  one_token = signed_token half most;
}
