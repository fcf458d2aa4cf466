-- Pairs as the entries of std's map, so that std's lemmas serve,
-- and what a written value does to sums, `All` and look-ups.
use Rattle.std.proofs.Common.{◌≡◌, ℕ, ◌+◌, true, false, List, [], ◌∷◌, length, map, Ordering, Some, None, refl, ap, subst, sym, ◌∙◌}
use Rattle.std.specs.Cmp.{IsTotalOrder}
use Rattle.std.specs.List.{All, sum_by}
use Rattle.std.specs.Map.{keys_of, lookup, values_of}
use Rattle.std.specs.Map as entries
use Rattle.std.specs.Ordering.{is_eq}
use Rattle.std.proofs.lemmas.List.{length-map}
use Rattle.std.proofs.lemmas.Map as maps
use Rattle.std.proofs.lemmas.Map.Entries as sums
use Rattle.std.proofs.lemmas.Map.Views.{All-values-set_value}
use Rattle.std.specs.declared.cmp.Ordering.TheVariants.{Equal}
use Rattle.std.proofs.lemmas.Bool.{false≢true}
use Rattle.std.proofs.lemmas.Cmp.{alike_right, tied_back}
use Rattle.indexset_core.proofs.CallerLemmas.{equal_from}
use Rattle.indexset_core.specs.declared.pair.Pair.{Pair}
use Rattle.indexset_core.specs.Pairs.{entry_of, has_key, pair_keys, pair_values, put_value, set_value, value_of, set_found}

module _ {K V : Type 0} where
  pub values_entries : (l : List (Pair K V)) → values_of (map entry_of l) ≡ pair_values l
  values_entries [] = refl
  values_entries (p ∷ l) = ap (λ vs. p.value ∷ vs) (values_entries l)

  pub keys_entries : (l : List (Pair K V)) → keys_of (map entry_of l) ≡ pair_keys l
  keys_entries [] = refl
  keys_entries (p ∷ l) = ap (λ ks. p.key ∷ ks) (keys_entries l)

  module _ (cmp : K → K → Ordering) (k : K) where
    pub lookup_entries : (l : List (Pair K V)) → lookup (λ q. is_eq (cmp q k)) (map entry_of l) ≡ value_of cmp l k
    lookup_entries [] = refl
    lookup_entries (p ∷ l) = elim (is_eq (cmp p.key k)) as (λ b. is_eq (cmp p.key k) ≡ b → lookup (λ q. is_eq (cmp q k)) (map entry_of (p ∷ l)) ≡ value_of cmp (p ∷ l) k) [
      | true ↦ λ e. rw e refl
      | false ↦ λ e. rw e (lookup_entries l)
    ] refl

    module _ (w : V) where
      pub set_value_entries : (l : List (Pair K V)) → entries.set_value (λ q. is_eq (cmp q k)) (map entry_of l) w ≡ map entry_of (set_value cmp l k w)
      unfolding set_found
      set_value_entries [] = refl
      set_value_entries (p ∷ l) =
          elim (is_eq (cmp p.key k))
          as (λ b. is_eq (cmp p.key k) ≡ b
          → entries.set_value (λ q. is_eq (cmp q k)) (map entry_of (p ∷ l)) w
          ≡ map entry_of (set_value cmp (p ∷ l) k w)) [
            | true ↦ λ e. rw e refl
            | false ↦ λ e. rw e (ap (λ es. entry_of p ∷ es) (set_value_entries l))
          ] refl

      -- the values, once w is the value of k
      written : (l : List (Pair K V)) → values_of (entries.set_value (λ q. is_eq (cmp q k)) (map entry_of l) w) ≡ pair_values (set_value cmp l k w)
      written l = ap values_of (set_value_entries l) ∙ values_entries (set_value cmp l k w)

      pub sum_by_set_value : (f : V → ℕ) (l : List (Pair K V)) (v : V) → value_of cmp l k ≡ Some v → sum_by f (pair_values (set_value cmp l k w)) + f v ≡ sum_by f (pair_values l) + f w
      sum_by_set_value f l v is =
          ap (λ vs. sum_by f vs + f v) (sym (written l))
          ∙ (sums.sum_by-set_value f (λ q. is_eq (cmp q k)) (map entry_of l) v w (lookup_entries l ∙ is)
          ∙ ap (λ vs. sum_by f vs + f w) (values_entries l))

      pub all_set_value : (P : V → Type 0) (l : List (Pair K V)) → All P (pair_values l) → P w → All P (pair_values (set_value cmp l k w))
      all_set_value P l all holds =
          subst (All P) (written l) (All-values-set_value (λ q. is_eq (cmp q k)) P (map entry_of l) w (subst (All P) (sym (values_entries l)) all) holds)

      -- an absent key has no value to write
      pub set_value_absent : (l : List (Pair K V)) → value_of cmp l k ≡ None → set_value cmp l k w ≡ l
      unfolding set_found
      set_value_absent [] none = refl
      set_value_absent (p ∷ l) none = elim (is_eq (cmp p.key k)) as (λ b. is_eq (cmp p.key k) ≡ b → set_value cmp (p ∷ l) k w ≡ p ∷ l) [
        | true ↦ λ e. let some : Some p.value ≡ None = rw e at none in absurd (cc)
        | false ↦ λ e. rw e (ap (λ rest. p ∷ rest) (set_value_absent l (rw e at none)))
      ] refl

      -- an insertion of a present key writes its value
      pub put_value_there : (l : List (Pair K V)) (v : V) → value_of cmp l k ≡ Some v → put_value cmp l k w ≡ set_value cmp l k w
      unfolding put_value
      put_value_there l v is = let there : has_key cmp l k ≡ true = found l is in rw there refl where
        found : (l : List (Pair K V)) → value_of cmp l k ≡ Some v → has_key cmp l k ≡ true
        found [] is = absurd (cc)
        found (p ∷ l) is = elim (is_eq (cmp p.key k)) as (λ b. is_eq (cmp p.key k) ≡ b → has_key cmp (p ∷ l) k ≡ true) [
          | true ↦ λ e. rw e refl
          | false ↦ λ e. rw e (found l (rw e at is))
        ] refl

      pub keys_set_value : (l : List (Pair K V)) → pair_keys (set_value cmp l k w) ≡ pair_keys l
      keys_set_value l = sym (ap keys_of (set_value_entries l) ∙ keys_entries (set_value cmp l k w)) ∙ (maps.keys-set_value (λ q. is_eq (cmp q k)) (map entry_of l) w ∙ keys_entries l)

      pub length_set_value : (l : List (Pair K V)) → length (set_value cmp l k w) ≡ length l
      length_set_value l =
          sym (length-map (set_value cmp l k w) entry_of)
          ∙ (ap (λ es. length es) (sym (set_value_entries l))
          ∙ (maps.length-set_value (λ q. is_eq (cmp q k)) (map entry_of l) w ∙ length-map l entry_of))

      -- the value of k, and of another key
      pub value_set_value : (l : List (Pair K V)) (v : V) → value_of cmp l k ≡ Some v → value_of cmp (set_value cmp l k w) k ≡ Some w
      unfolding set_found
      value_set_value [] v is = absurd (cc)
      value_set_value (p ∷ l) v is = elim (is_eq (cmp p.key k)) as (λ b. is_eq (cmp p.key k) ≡ b → value_of cmp (set_value cmp (p ∷ l) k w) k ≡ Some w) [
        | true ↦ λ e. rw (e, e) refl
        | false ↦ λ e. rw (e, e) (value_set_value l v (rw e at is))
      ] refl

      pub value_set_value_other : IsTotalOrder cmp → (q : K) → is_eq (cmp q k) ≡ false → (l : List (Pair K V)) → value_of cmp (set_value cmp l k w) q ≡ value_of cmp l q
      unfolding set_found
      value_set_value_other o q other [] = refl
      value_set_value_other o q other (p ∷ l) = elim (is_eq (cmp p.key k)) as (λ b. is_eq (cmp p.key k) ≡ b → value_of cmp (set_value cmp (p ∷ l) k w) q ≡ value_of cmp (p ∷ l) q) [
        | true ↦ λ e. let apart : is_eq (cmp p.key q) ≡ false = not_equal o p.key q e other in rw (e, apart) refl
        | false ↦ λ e. rw e (elim (is_eq (cmp p.key q)) as (λ b. is_eq (cmp p.key q) ≡ b → value_of cmp (p ∷ set_value cmp l k w) q ≡ value_of cmp (p ∷ l) q) [
          | true ↦ λ h. rw h refl
          | false ↦ λ h. rw h (value_set_value_other o q other l)
        ] refl)
      ] refl where
        not_equal : IsTotalOrder cmp → (p q : K) → is_eq (cmp p k) ≡ true → is_eq (cmp q k) ≡ false → is_eq (cmp p q) ≡ false
        not_equal o p q same other = elim (is_eq (cmp p q)) as (λ b. is_eq (cmp p q) ≡ b → b ≡ false) [
          | false ↦ λ h. refl
          | true ↦ λ h.
              let back : cmp k q ≡ Equal = sym (alike_right o p q k (equal_from _ h)) ∙ tied_back o p k (equal_from _ same) in
              absurd (false≢true (sym other ∙ ap is_eq (tied_back o k q back)))
        ] refl
