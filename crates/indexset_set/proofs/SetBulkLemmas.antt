-- Ascending lists after a call that changes many elements.
use Rattle.std.proofs.Common.{◌≡◌, ℕ, zero, suc, Bool, true, false, not, cond, List, [], ◌∷◌, ◌++◌, length, take, drop, Ordering, Some, slice_get, refl, ap, sym, ◌∙◌, subst, arith}
use Rattle.std.specs.declared.cmp.Ordering.TheVariants.{Less}
use Rattle.std.specs.Cmp.{IsTotalOrder}
use Rattle.std.specs.List.{All, AllPairs, fold, items_where_true}
use Rattle.std.specs.List.Retain.{RetainsInTurn, IsFiltered}
use Rattle.std.specs.Ordering.{is_lt}
use Rattle.std.proofs.lemmas.List.{take-append-drop, drop_at, take_at}
use Rattle.std.proofs.lemmas.List.Elements.{filter_passes}
use Rattle.std.proofs.lemmas.List.Kept.{AllPairs-cons}
use Rattle.indexset_core.specs.Order.{IsAscending, below, rank, put}
use Rattle.indexset_core.specs.Parted.{IsParted}
use Rattle.indexset_spine.specs.Edits.{FoldsPrefix}
use Rattle.indexset_spine.proofs.CallerLemmas.{takes_all}
use Rattle.indexset_set.specs.SetAlgebra.{put_all, MovesPrefix}
use Rattle.indexset_set.specs.SetRanges.{not_below}
use Rattle.indexset_core.proofs.CallerLemmas.{parted_by_item, Parts, count_parts, front-is_lt, filter_front, filter_back}

-- an ascending list, split at the insertion point of v
module _ {T Q : Type 0} (cmp : T → Q → Ordering) (l : List T) (v : Q) (parted : IsParted (λ x. cmp x v) l) (i : ℕ) (place : i ≡ rank cmp l v) where
  parts : Parts (λ x. is_lt (cmp x v)) l i
  parts = rw place (count_parts is_lt front-is_lt (λ x. cmp x v) l parted)

  pub take_below : take i l ≡ below cmp l v
  take_below = sym (filter_front (λ x. is_lt (cmp x v)) l i parts.inside parts.before parts.after)

  pub drop_not_below : drop i l ≡ not_below cmp l v
  drop_not_below = sym (filter_back (λ x. not (is_lt (cmp x v))) l i parts.inside (λ k d low high. ap not (parts.before k d low high)) (λ k d low high. ap not (parts.after k d low high)))

-- some elements of an ascending list
module _ {T : Type 0} where
  picked_all : (P : T → Type 0) (bs : List Bool) (xs : List T) → All P xs → All P (items_where_true bs xs)
  picked_all P [] xs h k d lt = absurd (omega arith)
  picked_all P (b ∷ bs) [] h k d lt = absurd (omega arith)
  picked_all P (true ∷ bs) (x ∷ xs) h zero d lt = h 0 d (omega arith)
  picked_all P (true ∷ bs) (x ∷ xs) h (suc k) d lt = picked_all P bs xs (λ j e le. h (suc j) e (omega arith)) k d (omega arith)
  picked_all P (false ∷ bs) (x ∷ xs) h k d lt = picked_all P bs xs (λ j e le. h (suc j) e (omega arith)) k d lt

  picked_pairs : (R : T → T → Type 0) (bs : List Bool) (xs : List T) → AllPairs R xs → AllPairs R (items_where_true bs xs)
  picked_pairs R [] xs h = λ i j d lt inside. absurd (omega arith)
  picked_pairs R (b ∷ bs) [] h = λ i j d lt inside. absurd (omega arith)
  picked_pairs R (true ∷ bs) (x ∷ xs) h =
      AllPairs-cons R x (items_where_true bs xs)
      (picked_all (R x) bs xs (λ k d lt. h 0 (suc k) d (omega arith) (omega arith)))
      (picked_pairs R bs xs (λ i j d lt inside. h (suc i) (suc j) d (omega arith) (omega arith)))
  picked_pairs R (false ∷ bs) (x ∷ xs) h = picked_pairs R bs xs (λ i j d lt inside. h (suc i) (suc j) d (omega arith) (omega arith))

  module _ {F : Type 0} (Q : F → T → Bool → F → Type 0) where
    pub filtered_ascending : (cmp : T → T → Ordering) (f : F) (xs ys : List T) → IsFiltered Q f xs ys → IsAscending cmp xs → IsAscending cmp ys
    filtered_ascending cmp f xs ys h up = subst (IsAscending cmp) (sym h.4) (picked_pairs (λ x y. cmp x y ≡ Less) h.0 xs up)

    -- a closure that was called in order through another, which wrote nothing
    module _ {S : Type 0} (now : S → F) (R : S → T → Bool → S → T → Type 0) (says : (s : S) (x : T) (b : Bool) (t : S) (y : T) → R s x b t y → Q (now s) x b (now t) × (y ≡ x)) where
      picked : (b : Bool) (x y : T) (bs : List Bool) (xs zs ys : List T) → y ≡ x → zs ≡ items_where_true bs xs → ys ≡ cond b (y ∷ zs) zs → ys ≡ items_where_true (b ∷ bs) (x ∷ xs)
      picked true x y bs xs zs ys same rest is = is ∙ (ap (λ z. z ∷ zs) same ∙ ap (λ l. x ∷ l) rest)
      picked false x y bs xs zs ys same rest is = is ∙ rest

      pub filtered_through : (s : S) (xs ys : List T) → RetainsInTurn R s xs ys → IsFiltered Q (now s) xs ys
      filtered_through s [] ys h = ([], now s, refl, refl, h)
      filtered_through s (x ∷ xs) ys h =
          let told = says s x h.0 h.1 h.2 h.3 in
          let rest = filtered_through h.1 xs h.4 h.5 in
          (h.0 ∷ rest.0, rest.1, ap suc rest.2, (now h.1, told.0, rest.3), picked h.0 x h.2 rest.0 xs h.4 ys told.1 rest.4 h.6)

-- all but the first
pub rest_ascending : {T : Type 0} (cmp : T → T → Ordering) (l : List T) → IsAscending cmp l → IsAscending cmp (drop 1 l)
rest_ascending cmp [] up i j d lt inside = absurd (omega arith)
rest_ascending cmp (x ∷ xs) up i j d lt inside = up (suc i) (suc j) d (omega arith) (omega arith)

-- elements that are inserted one after another
module _ {T : Type 0} (cmp : T → T → Ordering) where
  pub moves_some : (l xs m rest : List T) → FoldsPrefix (put cmp) l xs m rest → MovesPrefix cmp l xs m rest
  unfolding put_all
  moves_some l xs m rest (front, is, made) = (
    length front,
    made ∙ ap (fold (put cmp) l) (sym (ap (take (length front)) is ∙ take_at front rest (length front) refl)),
    sym (ap (drop (length front)) is ∙ drop_at front rest (length front) refl),
  )

  pub moved_all : (l xs m rest : List T) → FoldsPrefix (put cmp) l xs m rest → rest ≡ [] → m ≡ put_all cmp l xs
  unfolding put_all
  moved_all l xs m rest h none = takes_all (put cmp) l m xs rest h none

-- one read twice
pub item_is : {T : Type 0} (l : List T) (i : ℕ) (x y : T) → slice_get l i ≡ Some x → slice_get l i ≡ Some y → x ≡ y
item_is l i x y a b = cc

-- a split loses nothing
module _ {T : Type 0} (cmp : T → T → Ordering) where
  pub cut_parts : IsTotalOrder cmp → (l : List T) → IsAscending cmp l → (v : T) → below cmp l v ++ not_below cmp l v ≡ l
  cut_parts o l up v =
      let i = rank cmp l v in
      let parted = parted_by_item cmp o l up v in
      rw (sym (take_below cmp l v parted i refl), sym (drop_not_below cmp l v parted i refl)) (take-append-drop i l)

-- the elements on either side of a split
module _ {T Q : Type 0} (cmp : T → Q → Ordering) where
  pub below_all : (l : List T) (v : Q) → All (λ x. is_lt (cmp x v) ≡ true) (below cmp l v)
  below_all l v = filter_passes (λ x. is_lt (cmp x v)) l

  not_true : (b : Bool) → not b ≡ true → b ≡ false
  not_true true h = sym h
  not_true false h = refl

  pub not_below_all : (l : List T) (v : Q) → All (λ x. is_lt (cmp x v) ≡ false) (not_below cmp l v)
  not_below_all l v = λ k d lt. not_true _ (filter_passes (λ x. not (is_lt (cmp x v))) l k d lt)
