-- What an insertion and a removal in order do to a sum over the items, to their number,
-- and to what holds of each.
use Rattle.std.proofs.Common.{◌≡◌, ℕ, ◌+◌, true, false, List, ◌∷◌, length, get_or, Ordering, refl, ap, sym, ◌∙◌, arith, length-set}
use Rattle.std.specs.Cmp.{IsTotalOrder}
use Rattle.std.specs.List.{All, sum_by}
use Rattle.std.specs.Option.{option_map, unwrap_or}
use Rattle.std.proofs.lemmas.Bool.{false≢true}
use Rattle.std.proofs.lemmas.List.Edits.{length-insert, length-remove}
use Rattle.std.proofs.lemmas.List.Elements.{All-append, All-cons, All-filter}
use Rattle.std.proofs.lemmas.List.Sums.{sum_by-insert, sum_by-remove, sum_by-set}
use Rattle.std.proofs.lemmas.Option.{slice_get-get_or}
use Rattle.indexset_core.specs.Order.{IsAscending, IsFoundAt, IsGapFor, above, below, equal_element, has_equal, put, rank, without, unequal}
use Rattle.indexset_core.specs.Nodes.{equal_at}
use Rattle.indexset_core.proofs.CallerLemmas.{found_equal, found_has_equal, found_put, found_without, gap_equal, gap_has_equal, gap_put, gap_without, located_found, located_gap, parted_by_item}

module _ {T : Type 0} (cmp : T → T → Ordering) (o : IsTotalOrder cmp) (l : List T) (up : IsAscending cmp l) (v : T) where
  -- a case distinction: an equal element is at the rank, or not
  by_place : {P : Type 0} → (IsFoundAt cmp l v (rank cmp l v) → P) → (IsGapFor cmp l v (rank cmp l v) → P) → P
  by_place {P} found gap = elim (equal_at (λ x. cmp x v) l (rank cmp l v)) as (λ b. equal_at (λ x. cmp x v) l (rank cmp l v) ≡ b → P) [
    | true ↦ λ e. found (located_found cmp l v (rank cmp l v) (parted_by_item cmp o l up v) refl e)
    | false ↦ λ e. gap (located_gap cmp l v (rank cmp l v) (parted_by_item cmp o l up v) refl e)
  ] refl

  module _ (f : T → ℕ) where
    -- what the equal element adds to a sum
    abbrev equal_part : ℕ
    equal_part = unwrap_or (option_map f (equal_element cmp l v)) 0

    found_part : IsFoundAt cmp l v (rank cmp l v) → equal_part ≡ f (get_or l (rank cmp l v) v)
    found_part found = ap (λ e. unwrap_or (option_map f e) 0) (found_equal cmp l v (rank cmp l v) found ∙ slice_get-get_or l (rank cmp l v) v found.inside)

    gap_part : IsGapFor cmp l v (rank cmp l v) → equal_part ≡ 0
    gap_part gap = ap (λ e. unwrap_or (option_map f e) 0) (gap_equal cmp l v (rank cmp l v) gap)

    pub sum_by_put : sum_by f (put cmp l v) + equal_part ≡ sum_by f l + f v
    sum_by_put = by_place
        (λ found. rw (found_part found, found_put cmp l v (rank cmp l v) o up found) (sum_by-set f l (rank cmp l v) v v found.inside))
        (λ gap. rw (gap_part gap, gap_put cmp l v (rank cmp l v) gap) (omega (arith, sum_by-insert f l (rank cmp l v) v)))

    pub sum_by_without : sum_by f (without cmp l v) + equal_part ≡ sum_by f l
    sum_by_without = by_place
        (λ found. rw (found_part found, found_without cmp l v (rank cmp l v) o up found) (sum_by-remove f l (rank cmp l v) v found.inside))
        (λ gap. rw (gap_part gap, gap_without cmp l v (rank cmp l v) gap) (omega arith))

  pub length_put : has_equal cmp l v ≡ false → length (put cmp l v) ≡ length l + 1
  length_put none = by_place
      (λ found. absurd (false≢true (sym none ∙ found_has_equal cmp l v (rank cmp l v) found)))
      (λ gap. ap (λ r. length r) (gap_put cmp l v (rank cmp l v) gap) ∙ length-insert l (rank cmp l v) v gap.inside)

  pub length_put_equal : has_equal cmp l v ≡ true → length (put cmp l v) ≡ length l
  length_put_equal some = by_place
      (λ found. ap (λ r. length r) (found_put cmp l v (rank cmp l v) o up found) ∙ length-set l (rank cmp l v) v)
      (λ gap. absurd (false≢true (sym (gap_has_equal cmp l v (rank cmp l v) gap) ∙ some)))

  pub length_without : has_equal cmp l v ≡ true → length (without cmp l v) + 1 ≡ length l
  length_without some = by_place
      (λ found. ap (λ r. length r + 1) (found_without cmp l v (rank cmp l v) o up found) ∙ length-remove l (rank cmp l v) found.inside)
      (λ gap. absurd (false≢true (sym (gap_has_equal cmp l v (rank cmp l v) gap) ∙ some)))

module _ {T : Type 0} (cmp : T → T → Ordering) (P : T → Type 0) (l : List T) (v : T) where
  pub all_put : All P l → P v → All P (put cmp l v)
  unfolding put
  all_put all holds = All-append P (below cmp l v) (v ∷ above cmp l v) (All-filter _ P l all) (All-cons P v (above cmp l v) holds (All-filter _ P l all))

  pub all_without : All P l → All P (without cmp l v)
  unfolding unequal
  all_without all = All-filter _ P l all
