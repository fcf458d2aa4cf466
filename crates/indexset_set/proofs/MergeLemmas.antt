-- The lists that are read from two merged lists.
use Rattle.std.proofs.Common.{◌≡◌, ℕ, zero, suc, ◌+◌, ◌<◌, ◌↔◌, Bool, false, IsTrue, Option, None, Some, List, [], ◌∷◌, length, map, Ordering, refl, ap, sym, ◌∙◌, arith}
use Rattle.std.specs.declared.cmp.Ordering.TheVariants.{Less, Equal, Greater}
use Rattle.std.specs.Ordering.{match_ordering}
use Rattle.std.specs.List.{cons_option}
use Rattle.std.proofs.lemmas.Bool.{false≢true}
use Rattle.indexset_set.specs.declared.algebra.merge.MergeItem.{MergeItem}
use Rattle.indexset_set.specs.declared.algebra.merge.MergeItem.TheVariants.{Left, Right, Both}
use Rattle.indexset_set.specs.Merge.{read, merged, merged_from, of_left, of_right, of_either, of_both, of_left_alone}

-- a property of merged lists, if either has ended, and if an item comes before merged ones
module _ {T : Type 0} (cmp : T → T → Ordering) (P : List T → List T → List (MergeItem T) → Type 0)
    (left_ended : (r : List T) → P [] r (map Right r)) (right_ended : (l : List T) → P l [] (map Left l))
    (less : (x : T) (xs : List T) (y : T) (ys : List T) (m : List (MergeItem T)) → cmp x y ≡ Less → P xs (y ∷ ys) m
    → P (x ∷ xs) (y ∷ ys) (Left x ∷ m))
    (equal : (x : T) (xs : List T) (y : T) (ys : List T) (m : List (MergeItem T)) → cmp x y ≡ Equal → P xs ys m
    → P (x ∷ xs) (y ∷ ys) (Both x y ∷ m))
    (greater : (x : T) (xs : List T) (y : T) (ys : List T) (m : List (MergeItem T)) → cmp x y ≡ Greater
    → P (x ∷ xs) ys m → P (x ∷ xs) (y ∷ ys) (Right y ∷ m)) where
  by_first : (x : T) (xs : List T) → ((r : List T) → P xs r (merged cmp xs r)) → (r : List T) → P (x ∷ xs) r (merged cmp (x ∷ xs) r)
  by_first x xs rest [] = right_ended (x ∷ xs)
  by_first x xs rest (y ∷ ys) =
      elim (cmp x y)
      as (λ a. cmp x y ≡ a
      → P (x ∷ xs) (y ∷ ys)
      (match_ordering a (Left x ∷ merged cmp xs (y ∷ ys)) (Both x y ∷ merged cmp xs ys)
      (Right y ∷ merged_from cmp x xs (merged cmp xs) ys))) [
        | Less ↦ λ e. less x xs y ys _ e (rest (y ∷ ys))
        | Equal ↦ λ e. equal x xs y ys _ e (rest ys)
        | Greater ↦ λ e. greater x xs y ys _ e (by_first x xs rest ys)
      ] refl

  pub merged_by : (l r : List T) → P l r (merged cmp l r)
  merged_by [] r = left_ended r
  merged_by (x ∷ xs) r = by_first x xs (merged_by xs) r

module _ {T : Type 0} where
  pub read_all : (f : MergeItem T → Option T) (side : T → MergeItem T) → ((x : T) → f (side x) ≡ Some x) → (l : List T) → read f (map side l) ≡ l
  read_all f side each [] = refl
  read_all f side each (x ∷ xs) = rw (each x) (ap (λ l. x ∷ l) (read_all f side each xs))

  pub read_none : (f : MergeItem T → Option T) (side : T → MergeItem T) → ((x : T) → f (side x) ≡ None) → (l : List T) → read f (map side l) ≡ []
  read_none f side each [] = refl
  read_none f side each (x ∷ xs) = rw (each x) (read_none f side each xs)

  -- if f reads nothing, g reads nothing
  module _ (f g : MergeItem T → Option T) (within : (s : MergeItem T) → f s ≡ None → g s ≡ None) where
    none_here : (a b : Option T) (l k : List T) → (a ≡ None → b ≡ None) → (length l ≡ 0 → k ≡ []) → length (cons_option a l) ≡ 0 → cons_option b k ≡ []
    none_here None b l k here rest none = rw (here refl) (rest none)
    none_here (Some x) b l k here rest none = absurd (omega arith)

    none_read : (m : List (MergeItem T)) → length (read f m) ≡ 0 → read g m ≡ []
    none_read [] none = refl
    none_read (s ∷ m) none = none_here (f s) (g s) (read f m) (read g m) (within s) (none_read m) none

    not_some : (b : Bool) (n : ℕ) → (IsTrue b ↔ (0 < n)) → b ≡ false → n ≡ 0
    not_some b zero h unset = refl
    not_some b (suc n) h unset = absurd (false≢true (sym unset ∙ h.1 (omega arith)))

    ended : (m : List (MergeItem T)) (b : Bool) → (IsTrue b ↔ (0 < length (read f m))) → b ≡ false → read g m ≡ []
    ended m b h unset = none_read m (not_some b (length (read f m)) h unset)

  module _ (m : List (MergeItem T)) (b : Bool) where
    pub left_ended_alone : (IsTrue b ↔ (0 < length (read of_left m))) → b ≡ false → read of_left_alone m ≡ []
    left_ended_alone = ended of_left of_left_alone (elim [ Left x ↦ λ h. h | Right y ↦ λ h. refl | Both x y ↦ λ h. refl ]) m b

    pub left_ended_both : (IsTrue b ↔ (0 < length (read of_left m))) → b ≡ false → read of_both m ≡ []
    left_ended_both = ended of_left of_both (elim [ Left x ↦ λ h. refl | Right y ↦ λ h. refl | Both x y ↦ λ h. h ]) m b

    pub right_ended_both : (IsTrue b ↔ (0 < length (read of_right m))) → b ≡ false → read of_both m ≡ []
    right_ended_both = ended of_right of_both (elim [ Left x ↦ λ h. refl | Right y ↦ λ h. refl | Both x y ↦ λ h. absurd (cc) ]) m b

  -- either and both are as many as left and right
  pub read_counts : (m : List (MergeItem T)) → length (read of_either m) + length (read of_both m) ≡ length (read of_left m) + length (read of_right m)
  read_counts [] = refl
  read_counts (Left x ∷ m) = omega (arith, read_counts m)
  read_counts (Right y ∷ m) = omega (arith, read_counts m)
  read_counts (Both x y ∷ m) = omega (arith, read_counts m)

-- each list is read from the merged one
module _ {T : Type 0} (cmp : T → T → Ordering) where
  pub lefts_merged : (l r : List T) → read of_left (merged cmp l r) ≡ l
  lefts_merged =
      merged_by cmp (λ l r m. read of_left m ≡ l) (λ r. read_none of_left Right (λ x. refl) r)
      (λ l. read_all of_left Left (λ x. refl) l) (λ x xs y ys m e h. ap (λ l. x ∷ l) h)
      (λ x xs y ys m e h. ap (λ l. x ∷ l) h) (λ x xs y ys m e h. h)

  pub rights_merged : (l r : List T) → read of_right (merged cmp l r) ≡ r
  rights_merged =
      merged_by cmp (λ l r m. read of_right m ≡ r) (λ r. read_all of_right Right (λ x. refl) r)
      (λ l. read_none of_right Left (λ x. refl) l) (λ x xs y ys m e h. h) (λ x xs y ys m e h. ap (λ l. y ∷ l) h)
      (λ x xs y ys m e h. ap (λ l. y ∷ l) h)
