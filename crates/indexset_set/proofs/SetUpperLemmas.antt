-- The first element above a value.
use Rattle.std.proofs.Common.{◌≡◌, ℕ, zero, suc, Bool, not, List, [], ◌∷◌, Ordering, slice_get, refl, sym, arith}
use Rattle.std.specs.List.{count_by, find}
use Rattle.std.specs.Ordering.{is_gt, is_le}
use Rattle.std.specs.declared.cmp.Ordering.TheVariants.{Less, Equal, Greater}
use Rattle.indexset_core.specs.Parted.{IsParted}
use Rattle.indexset_core.proofs.CallerLemmas.{Parts, count_parts, front-is_le}
use Rattle.indexset_set.specs.SetRanges.{upper_element}

module _ {X : Type 0} where
  -- the first that passes q, if those that pass p come first and no other passes p
  find_parts : (p q : X → Bool) → ((x : X) → q x ≡ not (p x)) → (l : List X) (i : ℕ) → Parts p l i → find q l ≡ slice_get l i
  find_parts p q other [] zero ps = refl
  find_parts p q other [] (suc i) ps = let h = ps.inside in absurd (omega (arith, h))
  find_parts p q other (x ∷ l) zero ps = rw (other x, ps.after 0 x (omega arith) (omega arith)) refl
  find_parts p q other (x ∷ l) (suc i) ps =
      let inside = ps.inside in
      let rest : Parts p l i = record {
        inside = omega (arith, inside);
        before = λ k d low high. ps.before (suc k) d (omega arith) (omega arith);
        after = λ k d low high. ps.after (suc k) d (omega arith) (omega arith);
      } in
      rw (other x, ps.before 0 x (omega arith) (omega arith)) (find_parts p q other l i rest)

not_le : (a : Ordering) → is_gt a ≡ not (is_le a)
not_le Less = refl
not_le Equal = refl
not_le Greater = refl

module _ {T Q : Type 0} (cmp : T → Q → Ordering) (l : List T) (v : Q) (parted : IsParted (λ x. cmp x v) l) where
  -- the element after those that are not above v
  pub slice_get-not_above : slice_get l (count_by (λ x. is_le (cmp x v)) l) ≡ upper_element cmp l v
  slice_get-not_above =
      sym (find_parts (λ x. is_le (cmp x v)) (λ x. is_gt (cmp x v)) (λ x. not_le (cmp x v)) l _ (count_parts is_le front-is_le (λ x. cmp x v) l parted))
