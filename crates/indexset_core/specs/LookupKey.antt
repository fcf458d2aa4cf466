-- Look-up keys: each compares with items as some item does.
use Rattle.std.specs.Prelude.{◌≡◌, ◌≤◌, true}
use Rattle.std.proofs.Common.{refl, sym, ap, ◌∙◌, ◌⊎◌, inl, inr, arith}
use Rattle.std.proofs.lemmas.Bool.{false≢true}
use Rattle.std.specs.Cmp.{IsTotalOrder, on_total, then_total}
use Rattle.std.specs.Ordering.{is_le, ordering_index, ordering_reverse, ordering_then}
use Rattle.indexset_core.specs.MultiPairs.{by_number}
use Rattle.std.specs.declared.cmp.Ordering.{Ordering}
use Rattle.std.specs.declared.cmp.Ordering.TheVariants.{Less, Equal, Greater}

-- the keys are look-up keys: cmp compares items, order an item with a key, and among compares keys.
-- Items in ascending order compare first Less, then Equal, then Greater; equal items compare alike;
-- keys compare with items as among orders them
pub record OrdersAsItem {T Q : Type 0} (cmp : T → T → Ordering) (order : T → Q → Ordering)
    (among : Q → Q → Ordering) : Type 0 where
  pub in_order : (q : Q) (x y : T) → cmp x y ≡ Less
      → ordering_index (order x q) ≤ ordering_index (order y q)
  pub alike : (q : Q) (x y : T) → cmp x y ≡ Equal → order x q ≡ order y q
  pub below : (x : T) (a b : Q) → order x a ≡ Less → is_le (among a b) ≡ true → order x b ≡ Less
  pub tied : (x : T) (a b : Q) → order x a ≡ Equal → order x b ≡ among a b

-- an item that compares Equal with a key compares with other items as the key does: there is at
-- most one
abbrev pub EqualsAtMostOne : {T Q : Type 0} → (T → T → Ordering) → (T → Q → Ordering) → Type 0
EqualsAtMostOne {T} {Q} cmp order = (q : Q) (x y : T) → order x q ≡ Equal → order y q ≡ cmp y x

-- items and keys are compared by their views f and g, in one order
module _ {C T Q : Type 0} (c : C → C → Ordering) (o : IsTotalOrder c) (f : T → C) (g : Q → C) where
  over : (u v w : C) → c u w ≡ Less → (r s : Ordering) → c u v ≡ r → c w v ≡ s
      → ordering_index r ≤ ordering_index s
  over u v w up Less s e h = omega arith
  over u v w up Equal s e h =
      let past : s ≡ Greater =
      sym h ∙ (o.antisymm w v ∙ ap ordering_reverse (sym (o.congr u v w e) ∙ up)) in
      rw past (omega arith)
  over u v w up Greater s e h =
      let low : c v u ≡ Less = o.antisymm v u ∙ ap ordering_reverse e in
      let past : s ≡ Greater =
      sym h ∙ (o.antisymm w v ∙ ap ordering_reverse (o.trans v u w low up)) in
      rw past (omega arith)

  one : (u v w : C) → c u v ≡ Equal → c w v ≡ c w u
  one u v w e =
      o.antisymm w v ∙ (ap ordering_reverse (sym (o.congr u v w e)) ∙ sym (o.antisymm w u))

  under : (u v w : C) (r : Ordering) → c v w ≡ r → c u v ≡ Less → is_le r ≡ true → c u w ≡ Less
  under u v w Less e less le = o.trans u v w less e
  under u v w Equal e less le = one v w u e ∙ less
  under u v w Greater e less le = absurd (false≢true le)

  pub acts_by : OrdersAsItem (λ x y. c (f x) (f y)) (λ x q. c (f x) (g q)) (λ a b. c (g a) (g b))
  acts_by = record {
    in_order = λ q x y up. over (f x) (g q) (f y) up _ _ refl refl;
    alike = λ q x y e. o.congr (f x) (f y) (g q) e;
    below = λ x a b less le. under (f x) (g a) (g b) _ refl less le;
    tied = λ x a b e. o.congr (f x) (g a) (g b) e;
  }

  pub one_by : EqualsAtMostOne (λ x y. c (f x) (f y)) (λ x q. c (f x) (g q))
  one_by q x y e = one (f x) (g q) (f y) e

-- an item is a look-up key of itself
module _ {T : Type 0} {cmp : T → T → Ordering} (o : IsTotalOrder cmp) where
  pub acts_as_itself : OrdersAsItem cmp cmp cmp
  acts_as_itself = acts_by cmp o (λ x. x) (λ x. x)

  pub one_as_itself : EqualsAtMostOne cmp cmp
  one_as_itself = one_by cmp o (λ x. x) (λ x. x)

-- pairs of parts compare by the first part, then by the second
abbrev pub then_both : {A B : Type 0} → (A → A → Ordering) → (B → B → Ordering) → A × B → A × B
    → Ordering
then_both first second x y = ordering_then (first x.0 y.0) (second x.1 y.1)

pub both_total : {A B : Type 0} {first : A → A → Ordering} {second : B → B → Ordering}
    → IsTotalOrder first → IsTotalOrder second → IsTotalOrder (then_both first second)
both_total o p = then_total (on_total (λ t. t.0) o) (on_total (λ t. t.1) p)

-- triples of parts compare by the first two parts, then by the third
abbrev pub then_three : {A B C : Type 0} → (A → A → Ordering) → (B → B → Ordering)
    → (C → C → Ordering) → A × B × C → A × B × C → Ordering
then_three first second third x y =
    ordering_then (ordering_then (first x.0 y.0) (second x.1 y.1)) (third x.2 y.2)

pub three_total : {A B C : Type 0} {first : A → A → Ordering} {second : B → B → Ordering}
    {third : C → C → Ordering}
    → IsTotalOrder first → IsTotalOrder second → IsTotalOrder third
    → IsTotalOrder (then_three first second third)
three_total o p r =
    then_total (then_total (on_total (λ t. t.0) o) (on_total (λ t. t.1) p)) (on_total (λ t. t.2) r)

-- a look-up key of a part of items is a look-up key of the items
module _ {X T Q : Type 0} {cmp : T → T → Ordering} {order : T → Q → Ordering} (f : X → T) where
  pub acts_on : {among : Q → Q → Ordering} → OrdersAsItem cmp order among
      → OrdersAsItem (λ x y. cmp (f x) (f y)) (λ x q. order (f x) q) among
  acts_on acts = record {
    in_order = λ q x y up. acts.in_order q (f x) (f y) up;
    alike = λ q x y e. acts.alike q (f x) (f y) e;
    below = λ x a b less le. acts.below (f x) a b less le;
    tied = λ x a b e. acts.tied (f x) a b e;
  }

  pub one_on : EqualsAtMostOne cmp order
      → EqualsAtMostOne (λ x y. cmp (f x) (f y)) (λ x q. order (f x) q)
  one_on acts q x y e = acts q (f x) (f y) e

first_less : (a b : Ordering) → ordering_then a b ≡ Less → (a ≡ Less) ⊎ (a ≡ Equal)
first_less Less b e = inl refl
first_less Equal b e = inr refl
first_less Greater b e = absurd (cc)

first_equal : (a b : Ordering) → ordering_then a b ≡ Equal → a ≡ Equal
first_equal Less b e = absurd (cc)
first_equal Equal b e = refl
first_equal Greater b e = absurd (cc)

-- a look-up key of keys is a look-up key of numbered pairs, of which several may have the key
module _ {K V Q : Type 0} {cmp : K → K → Ordering} {order : K → Q → Ordering} where
  pub acts_on_numbered : {among : Q → Q → Ordering} → OrdersAsItem cmp order among
      → OrdersAsItem (by_number {V = V} cmp) (λ p q. order p.key q) among
  acts_on_numbered acts = record {
    in_order = λ q x y up. elim (first_less _ _ up) [
      | inl less ↦ acts.in_order q x.key y.key less
      | inr same ↦ rw (acts.alike q x.key y.key same) (omega arith)
    ];
    alike = λ q x y e. acts.alike q x.key y.key (first_equal _ _ e);
    below = λ x a b less le. acts.below x.key a b less le;
    tied = λ x a b e. acts.tied x.key a b e;
  }
