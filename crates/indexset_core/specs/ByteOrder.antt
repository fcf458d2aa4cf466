-- Items that compare as a view of them does, such as the list of their bytes.
use Rattle.std.specs.Prelude.{◌≡◌, ℕ, List}
use Rattle.std.proofs.Common.{sym, ap, ◌∙◌}
use Rattle.std.specs.Cmp.{IsTotalOrder}
use Rattle.std.specs.Cmp.Lexicographic.{slice_cmp}
use Rattle.std.specs.Ordering.{nat_cmp, ordering_then}
use Rattle.std.specs.declared.cmp.Ordering.{Ordering}
use Rattle.indexset_core.specs.LookupKey.{OrdersAsItem, EqualsAtMostOne, acts_by, one_by}

-- items compare by cmp as their views do by among
abbrev pub IsOrderedBy : {T C : Type 0} → (T → T → Ordering) → (C → C → Ordering) → (T → C) → Type 0
IsOrderedBy {T} cmp among view = (x y : T) → cmp x y ≡ among (view x) (view y)

-- items compare as their bytes do
abbrev pub IsOrderedByBytes : {T : Type 0} → (T → T → Ordering) → (T → List ℕ) → Type 0
IsOrderedByBytes cmp bytes = IsOrderedBy cmp (slice_cmp nat_cmp) bytes

-- a key that is compared with the views of items is a look-up key of the items
module _ {T C Q : Type 0} {cmp : T → T → Ordering} {among : C → C → Ordering}
    (o : IsTotalOrder among) (view : T → C) (key : Q → C)
    (ordered : IsOrderedBy cmp among view) where
  pub acts_by_view : OrdersAsItem cmp (λ x q. among (view x) (key q)) (λ a b. among (key a) (key b))
  acts_by_view =
      let acts = acts_by among o view key in
      record {
        in_order = λ q x y up. acts.in_order q x y (sym (ordered x y) ∙ up);
        alike = λ q x y e. acts.alike q x y (sym (ordered x y) ∙ e);
        below = acts.below;
        tied = acts.tied;
      }

  pub one_by_view : EqualsAtMostOne cmp (λ x q. among (view x) (key q))
  one_by_view q x y e = one_by among o view key q x y e ∙ sym (ordered y x)

-- pairs compare as the pairs of their parts' views do
module _ {A B C D : Type 0} {first : A → A → Ordering} {second : B → B → Ordering}
    (c : C → C → Ordering) (d : D → D → Ordering) (f : A → C) (g : B → D) where
  pub both_ordered : IsOrderedBy first c f → IsOrderedBy second d g
      → (x y : A × B)
      → ordering_then (first x.0 y.0) (second x.1 y.1)
      ≡ ordering_then (c (f x.0) (f y.0)) (d (g x.1) (g y.1))
  both_ordered by also x y =
      ap (λ r. ordering_then r (second x.1 y.1)) (by x.0 y.0)
      ∙ ap (ordering_then (c (f x.0) (f y.0))) (also x.1 y.1)
