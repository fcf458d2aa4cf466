-- The pairs of a list, split at the rank of a key.
use Rattle.std.proofs.Common.{◌≡◌, ◌∙◌, ℕ, Bool, true, false, not, cond, List, [], ◌∷◌, take, drop, filter, Ordering, refl, ap, sym, subst}
use Rattle.std.specs.List.{All}
use Rattle.std.specs.Ordering.{is_lt}
use Rattle.indexset_core.specs.declared.pair.Pair.{Pair}
use Rattle.indexset_core.specs.Order.{IsAscending}
use Rattle.indexset_core.specs.LookupKey.{OrdersAsItem}
use Rattle.indexset_core.specs.Pairs.{by_key, key_rank, pair_keys, pairs_below, pairs_from}
use Rattle.indexset_core.proofs.CallerLemmas.{parted_by_sought_key}
use Rattle.indexset_set.proofs.CallerLemmas.{below_all, drop_not_below, not_below_all, take_below}

-- the pairs, split at the rank of the key
module _ {K V Q : Type 0} {cmp : K → K → Ordering} {among : Q → Q → Ordering} (order : K → Q → Ordering)
    (acts : OrdersAsItem cmp order among) (l : List (Pair K V)) (up : IsAscending (by_key cmp) l) (k : Q) (i : ℕ)
    (place : i ≡ key_rank order l k) where
  pub cut_below : take i l ≡ pairs_below order l k
  cut_below = take_below (λ (p : Pair K V). order p.key) l k (parted_by_sought_key acts l up k) i place

  pub cut_from : drop i l ≡ pairs_from order l k
  cut_from = drop_not_below (λ (p : Pair K V). order p.key) l k (parted_by_sought_key acts l up k) i place

-- the keys of the pairs whose keys pass a test
module _ {K V : Type 0} (p : K → Bool) where
  key_passing : (b : Bool) (q : Pair K V) (l : List (Pair K V)) (m : List K) → pair_keys l ≡ m → pair_keys (cond b (q ∷ l) l) ≡ cond b (q.key ∷ m) m
  key_passing true q l m is = ap (λ t. q.key ∷ t) is
  key_passing false q l m is = is

  keys_passing : (l : List (Pair K V)) → pair_keys (filter (λ q. p q.key) l) ≡ filter p (pair_keys l)
  keys_passing [] = refl
  keys_passing (q ∷ l) = key_passing (p q.key) q (filter (λ q. p q.key) l) (filter p (pair_keys l)) (keys_passing l)

  -- no key passes if no pair does
  pub no_keys_passing : (l : List (Pair K V)) → filter (λ q. p q.key) l ≡ [] → filter p (pair_keys l) ≡ []
  no_keys_passing l none = sym (keys_passing l) ∙ ap pair_keys none

-- how the keys on each side compare with the key
module _ {K V Q : Type 0} (cmp : K → Q → Ordering) (l m : List (Pair K V)) (k : Q) where
  pub keys_all_below : m ≡ pairs_below cmp l k → All (λ x. is_lt (cmp x k) ≡ true) (pair_keys m)
  keys_all_below is = subst (All (λ x. is_lt (cmp x k) ≡ true)) (sym (ap pair_keys is ∙ keys_passing (λ x. is_lt (cmp x k)) l)) (below_all cmp (pair_keys l) k)

  pub keys_all_from : m ≡ pairs_from cmp l k → All (λ x. is_lt (cmp x k) ≡ false) (pair_keys m)
  keys_all_from is = subst (All (λ x. is_lt (cmp x k) ≡ false)) (sym (ap pair_keys is ∙ keys_passing (λ x. not (is_lt (cmp x k))) l)) (not_below_all cmp (pair_keys l) k)
