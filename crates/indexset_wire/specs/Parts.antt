-- Parts of a text, and the bytes that an item and a token may contain.
pub mod Laws
use Rattle.std.specs.Prelude.{ℕ, ◌+◌, ◌==◌, ◌&&◌, Bool, not, List, take, drop, position, Option}
use Rattle.std.specs.List.{list_all}
use Rattle.std.specs.Option.{option_map}

-- the parts of the text before and after the first byte c, if any
abbrev pub cut_at : ℕ → List ℕ → Option (List ℕ × List ℕ)
cut_at c text = option_map (λ i. (take i text, drop (i + 1) text)) (position (λ b. b == c) text)

-- the text does not contain the byte c
abbrev pub lacks : ℕ → List ℕ → Bool
lacks c text = list_all (λ b. not (b == c)) text

-- an event's text can contain the text: it has no end of line and no space
unfoldable pub is_item : List ℕ → Bool
is_item text = lacks 10 text && lacks 32 text

-- a pair's text can contain the text: it has no end of line, no space and no colon
unfoldable pub is_token : List ℕ → Bool
is_token text = lacks 10 text && lacks 32 text && lacks 58 text
