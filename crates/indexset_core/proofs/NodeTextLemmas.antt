-- The text of a node, as it is written item by item.
use Rattle.std.proofs.Common.{◌≡◌, ℕ, zero, suc, ◌+◌, ◌==◌, Bool, true, false, if◌then◌else◌}
use Rattle.std.proofs.Common.{List, [], ◌∷◌, ◌++◌, take, get_or, length, ◌<◌, Option, None, Some}
use Rattle.std.proofs.Common.{codes, Result, Ok, refl, sym, ap, ◌∙◌, arith, subst, append_assoc}
use Rattle.std.specs.Fmt.{◌++?◌, DisplaysOnOk}
use Rattle.std.specs.declared.fmt.Error.{Error}
use Rattle.std.specs.declared.fmt.Formatter.{Formatter}
use Rattle.std.proofs.lemmas.Bool.{false≢true}
use Rattle.std.proofs.lemmas.Grind.{put_two}
use Rattle.std.proofs.lemmas.List.{append-nil}
use Rattle.indexset_core.specs.Text.{items_shown, rest_shown}

pub shown_assoc : (a b c : Option (List ℕ)) → (a ++? b) ++? c ≡ a ++? (b ++? c)
shown_assoc None b c = refl
shown_assoc (Some a) None c = refl
shown_assoc (Some a) (Some b) None = refl
shown_assoc (Some a) (Some b) (Some c) = ap Some (append_assoc a b c)

nothing_before : (a : Option (List ℕ)) → Some [] ++? a ≡ a
nothing_before None = refl
nothing_before (Some a) = refl

nothing_behind : (a : Option (List ℕ)) → a ++? Some [] ≡ a
nothing_behind None = refl
nothing_behind (Some a) = ap Some (append-nil a)

-- what is written before an item
abbrev pub before_item : Bool → Option (List ℕ)
before_item is_first = if is_first then Some [] else Some (codes ", ")

take_there : {T : Type 0} (l : List T) (i : ℕ) (x : T) → i < length l → x ≡ get_or l i x → take (suc i) l ≡ take i l ++ x ∷ []
take_there [] i x lt there = absurd (omega arith)
take_there (y ∷ l) zero x lt there = ap (λ z. z ∷ []) (sym there)
take_there (y ∷ l) (suc i) x lt there = ap (λ t. y ∷ t) (take_there l i x (omega arith) there)

module _ {T : Type 0} (shown : T → Option (List ℕ)) where
  rest_more : (l : List T) (x : T) → rest_shown shown (l ++ x ∷ []) ≡ rest_shown shown l ++? (Some (codes ", ") ++? shown x)
  rest_more [] x = ap (λ o. Some (codes ", ") ++? o) (nothing_behind (shown x)) ∙ sym (nothing_before (Some (codes ", ") ++? shown x))
  rest_more (y ∷ l) x =
      ap (λ o. Some (codes ", ") ++? (shown y ++? o)) (rest_more l x)
      ∙ (ap (λ o. Some (codes ", ") ++? o) (sym (shown_assoc (shown y) (rest_shown shown l) (Some (codes ", ") ++? shown x)))
      ∙ sym (shown_assoc (Some (codes ", ")) (shown y ++? rest_shown shown l) (Some (codes ", ") ++? shown x)))

  items_on : (l : List T) (i : ℕ) (x : T) → i < length l → x ≡ get_or l i x → items_shown shown (take (suc i) l) ≡ items_shown shown (take i l) ++? (before_item (i == 0) ++? shown x)
  items_on [] i x lt there = absurd (omega arith)
  items_on (y ∷ l) zero x lt there = nothing_behind (shown y) ∙ (ap shown (sym there) ∙ sym (nothing_before (Some [] ++? shown x) ∙ nothing_before (shown x)))
  items_on (y ∷ l) (suc i) x lt there =
      let later : (suc i == 0) ≡ false = grind arith in
      rw later (ap (λ t. shown y ++? rest_shown shown t) (take_there l i x (omega arith) there)
      ∙ (ap (λ o. shown y ++? o) (rest_more (take i l) x) ∙ sym (shown_assoc (shown y) (rest_shown shown (take i l)) (Some (codes ", ") ++? shown x))))

  -- the text with one item more, after a prefix
  pub items_more : (front : Option (List ℕ)) (l : List T) (i : ℕ) (x : T) → i < length l → x ≡ get_or l i x
      → (front ++? items_shown shown (take i l)) ++? (before_item (i == 0) ++? shown x)
      ≡ front ++? items_shown shown (take (i + 1) l)
  items_more front l i x lt there =
      let on : suc i ≡ i + 1 = omega arith in
      shown_assoc front (items_shown shown (take i l)) (before_item (i == 0) ++? shown x)
      ∙ ap (λ o. front ++? o) (sym (items_on l i x lt there) ∙ ap (λ n. items_shown shown (take n l)) on)

-- a second text is written
pub then_shown : {W : Type 0} (took : W → List ℕ → W → Type 0) (f g h : Formatter W) (r : Result (Unit {0}) Error)
    (a b : Option (List ℕ))
    → DisplaysOnOk took f (Ok tt) a g → DisplaysOnOk took g r b h → DisplaysOnOk took f r (a ++? b) h
then_shown took f g h r None b p q = tt
then_shown took f g h r (Some a) None p q = tt
then_shown took f g h r (Some a) (Some b) p q = λ plain ok. let x = p plain refl in put_two took f g h a b (a ++ b) x (q x.plain ok) refl

-- the text of an item, after a comma unless it is the first
module _ {W : Type 0} (took : W → List ℕ → W → Type 0) (f g h : Formatter W) where
  pub behind_comma : (is_first : Bool) (a : Option (List ℕ)) → is_first ≡ false
      → DisplaysOnOk took f (Ok tt) (Some (codes ", ")) g → DisplaysOnOk took g (Ok tt) a h
      → DisplaysOnOk took f (Ok tt) (before_item is_first ++? a) h
  behind_comma true a later p q = absurd (false≢true (sym later))
  behind_comma false a later p q = then_shown took f g h (Ok tt) (Some (codes ", ")) a p q

  pub behind_nothing : (is_first : Bool) (a : Option (List ℕ)) → is_first ≡ true → g ≡ f → DisplaysOnOk took g (Ok tt) a h → DisplaysOnOk took f (Ok tt) (before_item is_first ++? a) h
  behind_nothing true a first same q = subst (λ e. DisplaysOnOk took e (Ok tt) (Some [] ++? a) h) same (subst (λ o. DisplaysOnOk took g (Ok tt) o h) (sym (nothing_before a)) q)
  behind_nothing false a first same q = absurd (false≢true first)
