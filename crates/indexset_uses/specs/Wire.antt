-- The texts of the sides of a market.
use Rattle.std.specs.Prelude.{⊤}
use Rattle.std.proofs.Common.{◌≡◌, Bool, true, false, cond, List}
use Rattle.std.proofs.Common.{ℕ, Option, None, Some, refl, subst}
use lib.Chars.{codes}
use Rattle.std.specs.Str.{bytes_eq}
use Rattle.std.proofs.lemmas.Slice.Eq.{bytes_eq-Decides}
use Rattle.indexset.specs.Words.{AreItems, AreTokens, Texts, is_item, is_token}
use Rattle.indexset_uses.specs.declared.wire.Side.{Side}
use Rattle.indexset_uses.specs.declared.wire.Side.TheVariants.{Buy, Sell}

abbrev pub side_text : Side → List ℕ
side_text Buy = codes "buy"
side_text Sell = codes "sell"

-- the side that has this text
abbrev pub side_of : List ℕ → Option Side
side_of text =
    cond (bytes_eq text (codes "buy")) (Some Buy)
    (cond (bytes_eq text (codes "sell")) (Some Sell) None)

side_reads_back : (s : Side) → ⊤ → side_of (side_text s) ≡ Some s
side_reads_back Buy h = refl
side_reads_back Sell h = refl

side_only : (text : List ℕ) (s : Side) → side_of text ≡ Some s → (text ≡ side_text s) × ⊤
side_only text s e = at (bytes_eq text (codes "buy")) (bytes_eq text (codes "sell")) refl refl e
  where
    at : (a b : Bool) → bytes_eq text (codes "buy") ≡ a → bytes_eq text (codes "sell") ≡ b
        → cond a (Some Buy) (cond b (Some Sell) None) ≡ Some s → (text ≡ side_text s) × ⊤
    at true b is _ e = let same : Buy ≡ s = cc in
        subst (λ q. (text ≡ side_text q) × ⊤) same ((bytes_eq-Decides text (codes "buy")).0 is, tt)
    at false true _ is e = let same : Sell ≡ s = cc in
        subst (λ q. (text ≡ side_text q) × ⊤) same ((bytes_eq-Decides text (codes "sell")).0 is, tt)
    at false false _ _ e = let none : (let n : Option Side = None in n) ≡ Some s = e in cc

side_token : (s : Side) → ⊤ → is_token (side_text s) ≡ true
unfolding is_token
side_token Buy h = refl
side_token Sell h = refl

side_item : (s : Side) → ⊤ → is_item (side_text s) ≡ true
unfolding is_item
side_item Buy h = refl
side_item Sell h = refl

-- the texts of sides: all sides are in range
abbrev pub side_texts : Texts Side
side_texts = record { text = side_text; parse = side_of; InRange = λ s. ⊤ }

pub side_items : AreItems side_texts
side_items = record { reads_back = side_reads_back; only = side_only; one_item = side_item }

pub side_tokens : AreTokens side_texts
side_tokens = record { items = side_items; one_token = side_token }
