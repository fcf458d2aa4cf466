-- The texts of two keys and of a pair of keys.
use Rattle.std.specs.Prelude.{ℕ, List, Option}
use Rattle.std.specs.Option.{option_and_then, option_map}
use Rattle.indexset_core.specs.declared.pair.Pair.{Pair}
use Rattle.indexset_wire.specs.Pairs.{pair_texts}
use Rattle.indexset_wire.specs.Parts.{cut_at}
use Rattle.indexset_wire.specs.Texts.{Texts}

module _ {T : Type 0} (texts : Texts T) where
  -- the two keys of a text that separates them with a space
  abbrev pub two_keys : List ℕ → Option (T × T)
  two_keys text =
      option_and_then (λ cut.
      option_and_then (λ a. option_map (λ b. (a, b)) (texts.parse cut.1)) (texts.parse cut.0))
      (cut_at 32 text)

  -- the pair of a text that separates the key and the value with a colon
  abbrev pub pair_of : List ℕ → Option (Pair T T)
  pair_of text = (pair_texts texts texts).parse text

  -- the key and the value of a pair are in range
  abbrev pub PairFits : Pair T T → Type 0
  PairFits p = (pair_texts texts texts).InRange p
