-- The texts of pairs are read as the identical pairs, and no other texts are.
use Rattle.std.proofs.Common.{Some, ◌≡◌, ℕ, true, not, eqb, List, [], ◌∷◌, ◌++◌, refl, subst, ◌∙◌}
use Rattle.std.specs.Fmt.{decimal}
use Rattle.std.specs.Option.{option_and_then, option_map}
use Rattle.indexset_core.specs.declared.multipair.MultiPair.{MultiPair}
use Rattle.indexset_core.specs.declared.pair.Pair.{Pair}
use Rattle.indexset_core.specs.Pairs.{pair}
use Rattle.indexset_wire.specs.Numbers.{number_of}
use Rattle.indexset_wire.specs.Numbers.Laws.{decimal_token, number_sound, number_told}
use Rattle.indexset_wire.specs.Pairs.{multi_pair_texts, pair_texts}
use Rattle.indexset_wire.specs.Parts.{cut_at, is_item, lacks}
use Rattle.indexset_wire.specs.Parts.Laws.{both, cut_sound, cut_told, lacks_tested, map_some}
use Rattle.indexset_wire.specs.Parts.Laws.{then_some, token_parts}
use Rattle.indexset_wire.specs.Texts.{AreItems, AreTokens, Texts}

pub lacks_append : (c : ℕ) (a b : List ℕ) → lacks c a ≡ true → lacks c b ≡ true
    → lacks c (a ++ b) ≡ true
lacks_append c [] b h k = k
lacks_append c (x ∷ a) b h k = let p = both (not (eqb x c)) (lacks c a) h in
    rw (p.0, lacks_append c a b p.1 k) refl

module _ {K V : Type 0} (keys : Texts K) (values : Texts V) (kt : AreTokens keys)
    (vt : AreTokens values) where
  pair_one_item : (p : Pair K V) → (pair_texts keys values).InRange p
      → is_item ((pair_texts keys values).text p) ≡ true
  unfolding is_item
  pair_one_item p r =
      let key = token_parts (keys.text p.key) (kt.one_token p.key r.0) in
      let value = token_parts (values.text p.value) (vt.one_token p.value r.1) in
      let lines = lacks_append 10 (keys.text p.key) (58 ∷ values.text p.value) key.0 value.0 in
      let spaces = lacks_append 32 (keys.text p.key) (58 ∷ values.text p.value) key.1 value.1 in
      rw (lines, spaces) refl

  multi_pair_one_item : (p : MultiPair K V) → (multi_pair_texts keys values).InRange p
      → is_item ((multi_pair_texts keys values).text p) ≡ true
  unfolding is_item
  multi_pair_one_item p r =
      let digits = decimal p.discriminator in
      let key = token_parts (keys.text p.key) (kt.one_token p.key r.0) in
      let value = token_parts (values.text p.value) (vt.one_token p.value r.1) in
      let number = token_parts digits (decimal_token p.discriminator r.2) in
      let lines =
      lacks_append 10 (keys.text p.key) (58 ∷ (digits ++ 58 ∷ values.text p.value)) key.0
      (lacks_append 10 digits (58 ∷ values.text p.value) number.0 value.0) in
      let spaces =
      lacks_append 32 (keys.text p.key) (58 ∷ (digits ++ 58 ∷ values.text p.value)) key.1
      (lacks_append 32 digits (58 ∷ values.text p.value) number.1 value.1) in
      rw (lines, spaces) refl

  pair_only : (text : List ℕ) (p : Pair K V) → (pair_texts keys values).parse text ≡ Some p
      → (text ≡ (pair_texts keys values).text p) × (pair_texts keys values).InRange p
  pair_only text p e =
      let cut =
      then_some (cut_at 58 text)
      (λ cut. option_and_then (λ k. option_map (pair k) (values.parse cut.1)) (keys.parse cut.0))
      p e in
      let first =
      then_some (keys.parse cut.0.0) (λ k. option_map (pair k) (values.parse cut.0.1)) p cut.2 in
      let second = map_some (values.parse cut.0.1) (pair first.0) p first.2 in
      let key = kt.items.only cut.0.0 first.0 first.1 in
      let value = vt.items.only cut.0.1 second.0 second.1 in
      let parts = cut_sound 58 text cut.0.0 cut.0.1 cut.1 ∙ (λ i. key.0 i ++ 58 ∷ value.0 i) in
      subst
      (λ q. (text ≡ (pair_texts keys values).text q) × (pair_texts keys values).InRange q)
      second.2 (parts, (key.1, value.1))

  multi_pair_only : (text : List ℕ) (p : MultiPair K V)
      → (multi_pair_texts keys values).parse text ≡ Some p
      → (text ≡ (multi_pair_texts keys values).text p)
      × (multi_pair_texts keys values).InRange p
  multi_pair_only text p e =
      let made : K → ℕ → V → MultiPair K V =
      λ k n v. record { key = k; value = v; discriminator = n } in
      let cut =
      then_some (cut_at 58 text) (λ cut.
      option_and_then (λ k.
      option_and_then (λ more.
      option_and_then (λ n. option_map (made k n) (values.parse more.1)) (number_of more.0))
      (cut_at 58 cut.1))
      (keys.parse cut.0))
      p e in
      let first =
      then_some (keys.parse cut.0.0) (λ k.
      option_and_then (λ more.
      option_and_then (λ n. option_map (made k n) (values.parse more.1)) (number_of more.0))
      (cut_at 58 cut.0.1))
      p cut.2 in
      let more =
      then_some (cut_at 58 cut.0.1) (λ more.
      option_and_then (λ n. option_map (made first.0 n) (values.parse more.1)) (number_of more.0))
      p first.2 in
      let second =
      then_some (number_of more.0.0)
      (λ n. option_map (made first.0 n) (values.parse more.0.1)) p more.2 in
      let third = map_some (values.parse more.0.1) (made first.0 second.0) p second.2 in
      let key = kt.items.only cut.0.0 first.0 first.1 in
      let number = number_sound more.0.0 second.0 second.1 in
      let value = vt.items.only more.0.1 third.0 third.1 in
      let tail =
      cut_sound 58 cut.0.1 more.0.0 more.0.1 more.1 ∙ (λ i. number.0 i ++ 58 ∷ value.0 i) in
      let parts = cut_sound 58 text cut.0.0 cut.0.1 cut.1 ∙ (λ i. key.0 i ++ 58 ∷ tail i) in
      subst
      (λ q. (text ≡ (multi_pair_texts keys values).text q)
      × (multi_pair_texts keys values).InRange q)
      third.2 (parts, (key.1, value.1, number.1))

  pair_reads_back : (p : Pair K V) → (pair_texts keys values).InRange p
      → (pair_texts keys values).parse ((pair_texts keys values).text p) ≡ Some p
  pair_reads_back p r =
      let key = token_parts (keys.text p.key) (kt.one_token p.key r.0) in
      let cut =
      cut_told 58 (keys.text p.key) (values.text p.value)
      (lacks_tested 58 (keys.text p.key) key.2) in
      rw (cut, kt.items.reads_back p.key r.0, vt.items.reads_back p.value r.1) refl

  multi_pair_reads_back : (p : MultiPair K V) → (multi_pair_texts keys values).InRange p
      → (multi_pair_texts keys values).parse ((multi_pair_texts keys values).text p) ≡ Some p
  multi_pair_reads_back p r =
      let digits = decimal p.discriminator in
      let key = token_parts (keys.text p.key) (kt.one_token p.key r.0) in
      let number = token_parts digits (decimal_token p.discriminator r.2) in
      let cut =
      cut_told 58 (keys.text p.key) (digits ++ 58 ∷ values.text p.value)
      (lacks_tested 58 (keys.text p.key) key.2) in
      let more =
      cut_told 58 digits (values.text p.value) (lacks_tested 58 digits number.2) in
      rw (
        cut,
        kt.items.reads_back p.key r.0,
        more,
        number_told p.discriminator r.2,
        vt.items.reads_back p.value r.1,
      )
      refl

  pub pair_items : AreItems (pair_texts keys values)
  pair_items = record {
    reads_back = pair_reads_back;
    only = pair_only;
    one_item = pair_one_item;
  }

  pub multi_pair_items : AreItems (multi_pair_texts keys values)
  multi_pair_items = record {
    reads_back = multi_pair_reads_back;
    only = multi_pair_only;
    one_item = multi_pair_one_item;
  }
