-- The texts of pairs, from those of their keys and values.
pub mod Laws
use Rattle.std.specs.Prelude.{ℕ, ◌^◌, ◌<◌, List, ◌∷◌, ◌++◌}
use Rattle.std.specs.Fmt.{decimal}
use Rattle.std.specs.Option.{option_map, option_and_then}
use Rattle.indexset_core.specs.declared.multipair.MultiPair.{MultiPair}
use Rattle.indexset_core.specs.declared.pair.Pair.{Pair}
use Rattle.indexset_core.specs.Pairs.{pair}
use Rattle.indexset_wire.specs.Numbers.{number_of}
use Rattle.indexset_wire.specs.Parts.{cut_at}
use Rattle.indexset_wire.specs.Texts.{Texts}

module _ {K V : Type 0} (keys : Texts K) (values : Texts V) where
  -- a key, a colon and a value
  abbrev pub pair_texts : Texts (Pair K V)
  pair_texts = record {
    text = λ p. keys.text p.key ++ 58 ∷ values.text p.value;
    parse =
        λ text.
        option_and_then (λ cut.
        option_and_then (λ k. option_map (pair k) (values.parse cut.1)) (keys.parse cut.0))
        (cut_at 58 text);
    InRange = λ p. keys.InRange p.key × values.InRange p.value;
  }

  -- a key, a number and a value, with colons between
  abbrev pub multi_pair_texts : Texts (MultiPair K V)
  multi_pair_texts = record {
    text = λ p. keys.text p.key ++ 58 ∷ (decimal p.discriminator ++ 58 ∷ values.text p.value);
    parse =
        λ text.
        option_and_then (λ cut.
        option_and_then (λ k.
        option_and_then (λ more.
        option_and_then (λ n.
        option_map (λ v. record { key = k; value = v; discriminator = n }) (values.parse more.1))
        (number_of more.0))
        (cut_at 58 cut.1))
        (keys.parse cut.0))
        (cut_at 58 text);
    InRange = λ p. keys.InRange p.key × values.InRange p.value × (p.discriminator < 2 ^ 64);
  }
