-- Whether a value has an equal element, or a key a pair, after an insertion or a removal.
use Rattle.std.proofs.Common.{◌≡◌, ℕ, Bool, true, false, not, ◌||◌, List, [], ◌∷◌, ◌++◌, Ordering, if◌then◌else◌, Option, Some, None, find, is_some, refl, ap, sym, ◌∙◌}
use Rattle.std.specs.Cmp.{IsTotalOrder}
use Rattle.std.specs.List.{filter, list_any}
use Rattle.std.proofs.lemmas.Bool.{false≢true}
use Rattle.std.specs.Ordering.{is_eq, is_lt, ordering_reverse}
use Rattle.std.specs.declared.cmp.Ordering.TheVariants.{Less, Equal, Greater}
use Rattle.std.proofs.lemmas.List.Folds.{list_any-append}
use Rattle.std.proofs.lemmas.Map.Views.{any-filter_same}
use Rattle.std.specs.Option.{option_map}
use Rattle.indexset_core.specs.declared.pair.Pair.{Pair}
use Rattle.indexset_core.specs.Order.{IsGapFor, above, below, has_equal, keep, put, without, unequal}
use Rattle.indexset_core.specs.Pairs.{by_key, has_key, pair, pair_of, value_of, without_key}
use Rattle.indexset_core.proofs.AscendingLemmas.{is_some-find}
use Rattle.indexset_core.proofs.OrderLemmas.{gap_has_equal}

own_reverse : (a : Ordering) → a ≡ ordering_reverse a → is_eq a ≡ true
own_reverse Less h = absurd (cc)
own_reverse Equal h = refl
own_reverse Greater h = absurd (cc)

or_true : (a : Bool) → (a || true) ≡ true
or_true true = refl
or_true false = refl

module _ {T : Type 0} (cmp : T → T → Ordering) (l : List T) (v : T) where
  pub has_put : IsTotalOrder cmp → has_equal cmp (put cmp l v) v ≡ true
  unfolding put
  has_put o =
      let p : T → Bool = λ x. is_eq (cmp x v) in
      let here : list_any p (v ∷ above cmp l v) ≡ true = ap (λ b. b || list_any p (above cmp l v)) (own_reverse (cmp v v) (o.antisymm v v)) in
      list_any-append p (below cmp l v) (v ∷ above cmp l v) ∙ (ap (λ b. list_any p (below cmp l v) || b) here ∙ or_true (list_any p (below cmp l v)))

  pub has_kept : IsTotalOrder cmp → has_equal cmp (keep cmp l v) v ≡ true
  unfolding keep
  has_kept o = elim (has_equal cmp l v) as (λ b. has_equal cmp l v ≡ b → has_equal cmp (if b then l else put cmp l v) v ≡ true) [
    | true ↦ λ e. e
    | false ↦ λ e. has_put o
  ] refl

module _ {T Q : Type 0} (cmp : T → Q → Ordering) (l : List T) (v : Q) where
  -- v has a gap, so no element equals it
  pub gap_no_equal : {X : Type 0} (i : ℕ) → IsGapFor cmp l v i → has_equal cmp l v ≡ true → X
  gap_no_equal i gap has = absurd (false≢true (sym (gap_has_equal cmp l v i gap) ∙ has))

  pub has_none : has_equal cmp (without cmp l v) v ≡ false
  unfolding unequal
  has_none = any-filter_same (λ x. is_eq (cmp x v)) (λ x. not (is_eq (cmp x v))) false (λ x e. ap not e) l

no_part : {X Y : Type 0} (f : X → Y) (o : Option X) → is_some o ≡ false → option_map f o ≡ None
no_part f None h = refl
no_part f (Some x) h = absurd (false≢true (sym h))

module _ {K V : Type 0} (cmp : K → K → Ordering) where
  -- the pairs before a key are not its own
  pair_past : (l more : List (Pair K V)) (k : K) → pair_of cmp (filter (λ p. is_lt (cmp p.key k)) l ++ more) k ≡ pair_of cmp more k
  pair_past [] more k = refl
  pair_past (p ∷ l) more k =
      elim (cmp p.key k) as (λ o. cmp p.key k ≡ o → pair_of cmp ((if is_lt o then p ∷ filter (λ q. is_lt (cmp q.key k)) l else filter (λ q. is_lt (cmp q.key k)) l) ++ more) k ≡ pair_of cmp more k) [
        | Less ↦ λ e. rw e (pair_past l more k)
        | Equal ↦ λ e. pair_past l more k
        | Greater ↦ λ e. pair_past l more k
      ] refl

  pub value_put : IsTotalOrder cmp → (l : List (Pair K V)) (k : K) (w : V) → value_of cmp (put (by_key cmp) l (pair k w)) k ≡ Some w
  unfolding put
  value_put o l k w =
      let same : is_eq (cmp k k) ≡ true = own_reverse (cmp k k) (o.antisymm k k) in
      ap (option_map (λ p. p.value)) (pair_past l (pair k w ∷ above (by_key cmp) l (pair k w)) k) ∙ rw same refl

module _ {K V Q : Type 0} (cmp : K → Q → Ordering) (l : List (Pair K V)) (k : Q) where
  pub key_gone : has_key cmp (without_key cmp l k) k ≡ false
  unfolding unequal
  key_gone = any-filter_same (λ p. is_eq (cmp p.key k)) (λ p. not (is_eq (cmp p.key k))) false (λ x e. ap not e) l

  pub no_value : has_key cmp l k ≡ false → value_of cmp l k ≡ None
  no_value h =
      let own : Pair K V → Bool = λ p. is_eq (cmp p.key k) in
      no_part (λ p. p.value) (find own l) (is_some-find own l ∙ h)
