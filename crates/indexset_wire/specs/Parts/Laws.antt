-- Parts of a text are split as they were joined.
use Rattle.std.proofs.Common.{take, drop, Option, None, Some, ◌≡◌, ◌≢◌, ℕ, suc, ◌+◌, ◌<◌, Bool}
use Rattle.std.proofs.Common.{true, false, cond, not, eqb, ◌&&◌, List, [], ◌∷◌, ◌++◌, get_or}
use Rattle.std.proofs.Common.{length, refl, sym, ap, ◌∙◌, arith, append_assoc, ne_eqb}
use Rattle.std.proofs.Common.{length-append}
use Rattle.std.specs.Prelude.{is_some, unwrap_or}
use Rattle.std.proofs.Math.Seq.{take-append_seam, drop-append-add, take-suc}
use Rattle.std.proofs.lemmas.Bool.{eqb-false, eqb-true, lt-ltb}
use Rattle.std.proofs.lemmas.List.{take-append-drop}
use Rattle.std.proofs.lemmas.List.Elements.{All-cons, All-head, All-nil, All-tail}
use Rattle.std.proofs.lemmas.List.Quantifiers.{position-Some}
use Rattle.std.specs.List.{All, list_all, position, position_or_len}
use Rattle.std.specs.Option.{option_and_then, option_map}
use Rattle.indexset_wire.specs.Parts.{cut_at, is_item, is_token, lacks}

-- ---- options

pub some_inj : {X : Type 0} (x y : X) → Some x ≡ Some y → x ≡ y
some_inj x y e = ap (λ o. unwrap_or o x) e

pub none_some : {X : Type 0} {P : Type 0} (x : X) → None ≡ Some x → P
none_some x e = absurd (cc)

module _ {X Y : Type 0} where
  -- the value that a successful step was applied to
  pub then_some : (o : Option X) (f : X → Option Y) (y : Y) → option_and_then f o ≡ Some y
      → (x : X) × (o ≡ Some x) × (f x ≡ Some y)
  then_some None f y e = none_some y e
  then_some (Some x) f y e = (x, refl, e)

  pub map_some : (o : Option X) (f : X → Y) (y : Y) → option_map f o ≡ Some y
      → (x : X) × (o ≡ Some x) × (f x ≡ y)
  map_some None f y e = none_some y e
  map_some (Some x) f y e = (x, refl, some_inj (f x) y e)

pub some_is : {X : Type 0} (o : Option X) → is_some o ≡ true → (x : X) × (o ≡ Some x)
some_is None e = absurd (cc)
some_is (Some x) e = (x, refl)

pub both : (a b : Bool) → (a && b) ≡ true → (a ≡ true) × (b ≡ true)
both true true e = (refl, refl)
both true false e = cc
both false b e = cc

-- ---- bytes that a text does not contain

-- the text does not contain the byte c
abbrev pub Lacks : ℕ → List ℕ → Type 0
Lacks c xs = All (λ x. x ≢ c) xs

pub lacks_tested : (c : ℕ) (xs : List ℕ) → list_all (λ x. not (eqb x c)) xs ≡ true → Lacks c xs
lacks_tested c [] e = All-nil (λ x. x ≢ c)
lacks_tested c (x ∷ xs) e =
    All-cons (λ y. y ≢ c) x xs (other (eqb x c) refl e) (lacks_tested c xs (rest (eqb x c) e))
  where
    other : (b : Bool) → eqb x c ≡ b → (not b && list_all (λ y. not (eqb y c)) xs) ≡ true → x ≢ c
    other true is e = absurd (cc)
    other false is e = eqb-false x c is

    rest : (b : Bool) → (not b && list_all (λ y. not (eqb y c)) xs) ≡ true
        → list_all (λ y. not (eqb y c)) xs ≡ true
    rest true e = absurd (cc)
    rest false e = e

-- ---- parts of a text

cut_parts : (c : ℕ) (text : List ℕ) (s : ℕ) → position (λ b. eqb b c) text ≡ Some s
    → text ≡ take s text ++ c ∷ drop (s + 1) text
cut_parts c text s here =
    let found = position-Some (λ b. eqb b c) text s 0 here in
    let next : s + 1 ≡ suc s = omega arith in
    let byte : get_or text s 0 ≡ c = eqb-true (get_or text s 0) c found.1 in
    sym (take-append-drop (s + 1) text)
    ∙ ap (λ l. l ++ drop (s + 1) text) (ap (λ k. take k text) next ∙ take-suc text s 0 found.0)
    ∙ append_assoc (take s text) (get_or text s 0 ∷ []) (drop (s + 1) text)
    ∙ ap (λ x. take s text ++ x ∷ drop (s + 1) text) byte

pub cut_sound : (c : ℕ) (text a b : List ℕ) → cut_at c text ≡ Some (a, b) → text ≡ a ++ c ∷ b
cut_sound c text a b e = at (position (λ x. eqb x c) text) refl e
  where
    at : (o : Option ℕ) → position (λ x. eqb x c) text ≡ o
        → option_map {U = List ℕ × List ℕ} (λ i. (take i text, drop (i + 1) text)) o ≡ Some (a, b)
        → text ≡ a ++ c ∷ b
    at None here e = none_some (a, b) e
    at (Some s) here e =
        cut_parts c text s here
        ∙ ap (λ p. p.0 ++ c ∷ p.1) (some_inj (take s text, drop (s + 1) text) (a, b) e)

-- the byte is found after a part that does not contain it
first_at : (c : ℕ) (a b : List ℕ) → Lacks c a
    → position_or_len (λ x. eqb x c) (a ++ c ∷ b) ≡ length a
first_at c [] b lacks = ap (λ t. cond (not t) (1 + position_or_len (λ x. eqb x c) b) 0) (same c)
  where
    same : (n : ℕ) → eqb n n ≡ true
    same n = search (arith)
first_at c (x ∷ xs) b lacks =
    ap (λ t. cond (not t) (1 + position_or_len (λ y. eqb y c) (xs ++ c ∷ b)) 0)
    (ne_eqb x c (All-head (λ y. y ≢ c) x xs lacks))
    ∙ omega (arith, first_at c xs b (All-tail (λ y. y ≢ c) x xs lacks))

pub cut_told : (c : ℕ) (a b : List ℕ) → Lacks c a → cut_at c (a ++ c ∷ b) ≡ Some (a, b)
cut_told c a b lacks =
    let at = first_at c a b lacks in
    let inside : position_or_len (λ x. eqb x c) (a ++ c ∷ b) < length (a ++ c ∷ b) =
    omega (arith, at, length-append a (c ∷ b)) in
    let found : position (λ x. eqb x c) (a ++ c ∷ b) ≡ Some (length a) =
    ap (λ t. cond t (Some (position_or_len (λ x. eqb x c) (a ++ c ∷ b))) None)
    (lt-ltb _ _ inside)
    ∙ ap Some at in
    ap (option_map (λ i. (take i (a ++ c ∷ b), drop (i + 1) (a ++ c ∷ b)))) found
    ∙ (λ i. Some (take-append_seam a (c ∷ b) i, drop-append-add a (c ∷ b) 1 i))

-- ---- items and tokens

-- the two facts of an item
pub item_parts : (xs : List ℕ) → is_item xs ≡ true → (lacks 10 xs ≡ true) × (lacks 32 xs ≡ true)
unfolding is_item
item_parts xs e = both (lacks 10 xs) (lacks 32 xs) e

-- the three facts of a token
pub token_parts : (xs : List ℕ) → is_token xs ≡ true
    → (lacks 10 xs ≡ true) × (lacks 32 xs ≡ true) × (lacks 58 xs ≡ true)
unfolding is_token
token_parts xs e =
    let first = both (lacks 10 xs && lacks 32 xs) (lacks 58 xs) e in
    let rest = both (lacks 10 xs) (lacks 32 xs) first.0 in
    (rest.0, rest.1, first.1)

pub token_item : (xs : List ℕ) → is_token xs ≡ true → is_item xs ≡ true
unfolding is_item
token_item xs e = let h = token_parts xs e in rw (h.0, h.1) refl
