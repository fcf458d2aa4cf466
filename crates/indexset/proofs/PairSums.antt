-- What an insertion and a removal of a key do to a sum over the values.
use Rattle.std.proofs.Common.{◌≡◌, ℕ, ◌+◌, true, false, List, [], ◌∷◌, Ordering, Option, Some, None, if◌then◌else◌, refl, ap, sym, ◌∙◌}
use Rattle.std.specs.Cmp.{IsTotalOrder}
use Rattle.std.specs.List.{sum_by}
use Rattle.std.specs.Option.{option_map, unwrap_or}
use Rattle.std.specs.Ordering.{is_eq}
use Rattle.std.proofs.lemmas.List.Sums.{sum_by-cons}
use Rattle.indexset_core.specs.declared.pair.Pair.{Pair}
use Rattle.indexset_core.specs.Order.{IsAscending, put, unequal}
use Rattle.indexset_core.specs.Pairs.{by_key, has_key, pair, pair_of, pair_values, put_value, set_value, value_of, without_key}
use Rattle.indexset_core.proofs.CallerLemmas.{is_some-find, pairs_total, some_held, without-pair}
use Rattle.indexset.proofs.ListSums.{sum_by_put, sum_by_without}
use Rattle.indexset.proofs.Entries.{sum_by_set_value}

module _ {K V : Type 0} (f : V → ℕ) where
  over_pairs : (l : List (Pair K V)) → sum_by f (pair_values l) ≡ sum_by (λ p. f p.value) l
  over_pairs [] = refl
  over_pairs (p ∷ l) = sum_by-cons f p.value (pair_values l) ∙ (ap (λ n. f p.value + n) (over_pairs l) ∙ sym (sum_by-cons (λ (q : Pair K V). f q.value) p l))

  of_pair : (q : Option (Pair K V)) → unwrap_or (option_map f (option_map (λ p. p.value) q)) 0 ≡ unwrap_or (option_map (λ p. f p.value) q) 0
  of_pair None = refl
  of_pair (Some p) = refl

  module _ (cmp : K → K → Ordering) (o : IsTotalOrder cmp) where
    pub sum_by_without_key : (l : List (Pair K V)) → IsAscending (by_key cmp) l → (k : K)
        → sum_by f (pair_values (without_key cmp l k)) + unwrap_or (option_map f (value_of cmp l k)) 0
        ≡ sum_by f (pair_values l)
    unfolding unequal
    sum_by_without_key [] up k = refl
    sum_by_without_key (p ∷ l) up k =
        let all : List (Pair K V) = p ∷ l in
        ap (λ n. n + unwrap_or (option_map f (value_of cmp all k)) 0) (over_pairs (without_key cmp all k))
        ∙ (ap (λ n. sum_by (λ p. f p.value) (without_key cmp all k) + n) (of_pair (pair_of cmp all k))
        ∙ (ap (λ r. sum_by (λ p. f p.value) r + unwrap_or (option_map (λ p. f p.value) (pair_of cmp all k)) 0) (sym (without-pair cmp all k p.value))
        ∙ (sum_by_without (by_key cmp) (pairs_total cmp o) all up (pair k p.value) (λ p. f p.value) ∙ sym (over_pairs all))))

    pub sum_by_put_value : (l : List (Pair K V)) → IsAscending (by_key cmp) l → (k : K) (w : V)
        → sum_by f (pair_values (put_value cmp l k w)) + unwrap_or (option_map f (value_of cmp l k)) 0
        ≡ sum_by f (pair_values l) + f w
    unfolding put_value
    sum_by_put_value l up k w =
        elim (has_key cmp l k)
        as (λ b. has_key cmp l k ≡ b
        → sum_by f (pair_values (if b then set_value cmp l k w else put (by_key cmp) l (pair k w)))
        + unwrap_or (option_map f (value_of cmp l k)) 0
        ≡ sum_by f (pair_values l) + f w) [
          | true ↦ λ e.
              let there = some_held (pair_of cmp l k) (is_some-find (λ p. is_eq (cmp p.key k)) l ∙ e) in
              let is : value_of cmp l k ≡ Some there.0.value = ap (option_map (λ p. p.value)) there.1 in
              ap (λ q. sum_by f (pair_values (set_value cmp l k w)) + unwrap_or (option_map f q) 0) is ∙ sum_by_set_value cmp k w f l there.0.value is
          | false ↦ λ e.
              ap (λ n. n + unwrap_or (option_map f (value_of cmp l k)) 0) (over_pairs (put (by_key cmp) l (pair k w)))
              ∙ (ap (λ n. sum_by (λ p. f p.value) (put (by_key cmp) l (pair k w)) + n) (of_pair (pair_of cmp l k))
              ∙ (sum_by_put (by_key cmp) (pairs_total cmp o) l up (pair k w) (λ p. f p.value) ∙ ap (λ n. n + f w) (sym (over_pairs l))))
        ] refl
