-- Numbers and pairs: reading the text of a value returns that value.
use Rattle.std.proofs.Common.{Option, None, Some, ◌≡◌, ◌≢◌, ℕ, ◌≤◌, List, ◌∷◌, refl, sym, subst}
use Rattle.std.proofs.lemmas.List.Elements.{All-head}
use Rattle.std.specs.Char.{digit_value}
use Rattle.indexset_wire.specs.Numbers.{number_of}
use Rattle.indexset_wire.specs.Numbers.Laws.{number_lacks, number_sound}
use Rattle.indexset_wire.specs.Parts.Laws.{Lacks}
pub use Rattle.indexset_bench.proofs.CallerLemmas.{IsApart, end_apart, pair_lacks, pair_told, space_apart}
pub use Rattle.indexset_bench.proofs.CallerLemmas.{pair_read as pair_sound}

-- a text that begins with a byte other than a digit is not a number
pub no_number : (c : ℕ) (text : List ℕ) → 10 ≤ digit_value c → number_of (c ∷ text) ≡ None
no_number c text big = at (number_of (c ∷ text)) refl
  where
    at : (o : Option ℕ) → number_of (c ∷ text) ≡ o → o ≡ None
    at None e = refl
    at (Some n) e =
        let told = number_sound (c ∷ text) n e in
        absurd (All-head (λ x. x ≢ c) c text (subst (Lacks c) (sym told.0) (number_lacks c big n told.1)) refl)
