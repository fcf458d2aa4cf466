-- The items before a bound of comparators by the keys of another bound.
use Rattle.std.proofs.Common.{◌≡◌, ℕ, List, Ordering, refl, ap, ◌∙◌}
use Rattle.std.specs.List.{count_by}
use Rattle.std.specs.Range.Bound.{bound_map, IsExcludedAnd, IsIncludedAnd, MatchBound}
use Rattle.std.specs.declared.ops.Bound.{Bound}
use Rattle.std.specs.declared.ops.Bound.TheVariants.{Included, Excluded, Unbounded}
use Rattle.indexset_core.specs.KeyRange.{IfBounded, is_before, is_up_to_end}

module _ {A T Q X : Type 0} (cmp : T → Q → Ordering) (now : A → Q) (f : X → T) (l : List X) where
  -- each comparator is new, and compares with the key of the bound
  abbrev pub AreProbes : Bound A → Bound (Q × ℕ) → Type 0
  AreProbes b m = MatchBound b (λ x. IsIncludedAnd m (λ p. p ≡ (now x, 0))) (λ x. IsExcludedAnd m (λ p. p ≡ (now x, 0))) (m ≡ Unbounded)

  mapped : (b : Bound A) (m : Bound (Q × ℕ)) → AreProbes b m → m ≡ bound_map (λ x. (now x, 0)) b
  mapped (Included x) m h = h.2 ∙ ap Included h.1
  mapped (Excluded x) m h = h.2 ∙ ap Excluded h.1
  mapped Unbounded m h = h

  before : (b : Bound A) → count_by (is_before (λ x (p : Q × ℕ). cmp (f x) p.0) (bound_map (λ x. (now x, 0)) b)) l ≡ count_by (λ x. is_before cmp (bound_map now b) (f x)) l
  before (Included x) = refl
  before (Excluded x) = refl
  before Unbounded = refl

  up_to : (b : Bound A) → count_by (is_up_to_end (λ x (p : Q × ℕ). cmp (f x) p.0) (bound_map (λ x. (now x, 0)) b)) l ≡ count_by (λ x. is_up_to_end cmp (bound_map now b) (f x)) l
  up_to (Included x) = refl
  up_to (Excluded x) = refl
  up_to Unbounded = refl

  module _ (b : Bound A) (m : Bound (Q × ℕ)) (h : AreProbes b m) where
    pub probed_before : count_by (is_before (λ x (p : Q × ℕ). cmp (f x) p.0) m) l ≡ count_by (λ x. is_before cmp (bound_map now b) (f x)) l
    probed_before = ap (λ n. count_by (is_before (λ x (p : Q × ℕ). cmp (f x) p.0) n) l) (mapped b m h) ∙ before b

    pub probed_up_to : count_by (is_up_to_end (λ x (p : Q × ℕ). cmp (f x) p.0) m) l ≡ count_by (λ x. is_up_to_end cmp (bound_map now b) (f x)) l
    probed_up_to = ap (λ n. count_by (is_up_to_end (λ x (p : Q × ℕ). cmp (f x) p.0) n) l) (mapped b m h) ∙ up_to b

-- what holds of each comparator holds of those of a bound
pub each_bounded : {Q : Type 0} (P : Q → Type 0) → ((q : Q) → P q) → (b : Bound Q) → IfBounded P b
each_bounded P h (Included q) = h q
each_bounded P h (Excluded q) = h q
each_bounded P h Unbounded = tt
