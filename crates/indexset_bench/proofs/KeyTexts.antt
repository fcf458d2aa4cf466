-- Texts of keys, of two keys and of pairs: reading the text of a value returns that value.
use Rattle.std.proofs.Common.{Some, ◌≡◌, ◌≢◌, ℕ, List, [], ◌∷◌, ◌++◌, refl, sym, ap, subst, ◌∙◌, arith, append_assoc}
use Rattle.std.proofs.lemmas.List.Elements.{All-append, All-cons}
use Rattle.std.specs.Option.{option_and_then, option_map}
use Rattle.indexset_core.specs.Pairs.{pair}
use Rattle.indexset_core.specs.declared.pair.Pair.{Pair}
use Rattle.indexset_wire.specs.Pairs.Laws.{pair_items}
use Rattle.indexset_wire.specs.Parts.{cut_at}
use Rattle.indexset_wire.specs.Parts.Laws.{Lacks, cut_sound, cut_told, lacks_tested, map_some, then_some, token_parts}
use Rattle.indexset_bench.specs.PairText.{pair_text}
use Rattle.indexset_bench.specs.Texts.{PairFits, pair_of, two_keys}
use Rattle.indexset_wire.specs.Texts.{AreTokens, Texts}

module _ {T : Type 0} (texts : Texts T) where
  -- a byte that is not a colon and occurs in no text of a key
  pub record IsApart (c : ℕ) : Type 0 where
    pub keys : (x : T) → texts.InRange x → Lacks c (texts.text x)
    pub colon : 58 ≢ c

  pub pair_lacks : (c : ℕ) → IsApart c → (p : Pair T T) → PairFits texts p → Lacks c (pair_text texts p)
  pair_lacks c apart p fit =
      All-append (λ x. x ≢ c) (texts.text p.key) (58 ∷ texts.text p.value) (apart.keys p.key fit.0)
      (All-cons (λ x. x ≢ c) 58 (texts.text p.value) apart.colon (apart.keys p.value fit.1))

  module _ (words : AreTokens texts) where
    -- the text has no line end, no space and no colon
    pub end_lacks : (x : T) → texts.InRange x → Lacks 10 (texts.text x)
    end_lacks x fit = lacks_tested 10 (texts.text x) (token_parts (texts.text x) (words.one_token x fit)).0

    pub space_lacks : (x : T) → texts.InRange x → Lacks 32 (texts.text x)
    space_lacks x fit = lacks_tested 32 (texts.text x) (token_parts (texts.text x) (words.one_token x fit)).1

    pub colon_lacks : (x : T) → texts.InRange x → Lacks 58 (texts.text x)
    colon_lacks x fit = lacks_tested 58 (texts.text x) (token_parts (texts.text x) (words.one_token x fit)).2

    pub end_apart : IsApart 10
    end_apart = record { keys = end_lacks; colon = omega arith }

    pub space_apart : IsApart 32
    space_apart = record { keys = space_lacks; colon = omega arith }

    pub two_keys_told : (a b : T) → texts.InRange a → texts.InRange b → two_keys texts (texts.text a ++ 32 ∷ texts.text b) ≡ Some (a, b)
    two_keys_told a b first second =
        let cut : cut_at 32 (texts.text a ++ 32 ∷ texts.text b) ≡ Some (texts.text a, texts.text b) = cut_told 32 (texts.text a) (texts.text b) (space_lacks a first) in
        rw (cut, words.items.reads_back a first, words.items.reads_back b second) refl

    pub two_keys_sound : (text : List ℕ) (p : T × T) → two_keys texts text ≡ Some p → (text ≡ texts.text p.0 ++ 32 ∷ texts.text p.1) × texts.InRange p.0 × texts.InRange p.1
    two_keys_sound text p h =
        let cut = then_some (cut_at 32 text) (λ cut. option_and_then (λ a. option_map (λ b. (a, b)) (texts.parse cut.1)) (texts.parse cut.0)) p h in
        let first = then_some (texts.parse cut.0.0) (λ a. option_map (λ b. (a, b)) (texts.parse cut.0.1)) p cut.2 in
        let second = map_some (texts.parse cut.0.1) (λ b. (first.0, b)) p first.2 in
        let a = words.items.only cut.0.0 first.0 first.1 in
        let b = words.items.only cut.0.1 second.0 second.1 in
        let parts = cut_sound 32 text cut.0.0 cut.0.1 cut.1 ∙ (λ i. a.0 i ++ 32 ∷ b.0 i) in
        subst (λ p. (text ≡ texts.text p.0 ++ 32 ∷ texts.text p.1) × texts.InRange p.0 × texts.InRange p.1) second.2 (parts, a.1, b.1)

    pub pair_told : (p : Pair T T) → PairFits texts p → pair_of texts (pair_text texts p) ≡ Some p
    pair_told p fit = (pair_items texts texts words words).reads_back p fit

    pub pair_read : (text : List ℕ) (p : Pair T T) → pair_of texts text ≡ Some p → (text ≡ pair_text texts p) × PairFits texts p
    pair_read text p e = (pair_items texts texts words words).only text p e
