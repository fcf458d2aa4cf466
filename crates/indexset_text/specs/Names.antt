-- The spelling of a text as a word of a line.
pub mod Laws
use Rattle.std.specs.Prelude.{◌≡◌, ℕ, ◌<◌, ◌==◌, ◌&&◌, ◌||◌, Bool, nat_lt}
use Rattle.std.specs.Prelude.{if◌then◌else◌, List, [], ◌∷◌, Option, None, Some}
use Rattle.std.specs.Char.{digit_value}
use Rattle.std.specs.List.{All, flat_map, list_all}
use Rattle.std.specs.Str.{bytes_eq}
use Rattle.indexset_wire.specs.Texts.{Texts}
use Rattle.percent_encoding.specs.Percent.{percent_decode, percent_encode_byte}

-- the numbers are bytes
abbrev pub AreBytes : List ℕ → Type 0
AreBytes name = All (λ b. b < 256) name

-- the byte is not escaped: it is a digit, a letter, or one of -._~
unfoldable pub is_plain : ℕ → Bool
is_plain b = nat_lt (digit_value b) 36 || b == 45 || b == 46 || b == 95 || b == 126

-- the byte itself, or `%` and two upper-case hexadecimal digits
unfoldable pub byte_text : ℕ → List ℕ
byte_text b = if is_plain b then b ∷ [] else percent_encode_byte b

-- the spelling of a text
unfoldable pub name_text : List ℕ → List ℕ
name_text name = flat_map byte_text name

-- the text that has this spelling, if any
unfoldable pub name_of : List ℕ → Option (List ℕ)
name_of text =
    let name = percent_decode text in
    if bytes_eq text (name_text name) && list_all (λ b. nat_lt b 256) name then Some name else None

-- the spellings of texts
abbrev pub name_texts : Texts (List ℕ)
name_texts = record { text = name_text; parse = name_of; InRange = AreBytes }
