-- The value of a key after an insertion or a removal of that key or of another.
use Rattle.std.proofs.Common.{◌≡◌, Bool, true, false, cond, not, ◌||◌, List, [], ◌∷◌, filter, find, if◌then◌else◌, Option, Ordering, Some, None, refl, ap, sym, ◌∙◌}
use Rattle.std.specs.Cmp.{IsTotalOrder}
use Rattle.std.specs.Option.{option_map, option_or}
use Rattle.std.specs.Ordering.{is_eq, is_gt, is_lt, ordering_reverse}
use Rattle.std.specs.declared.cmp.Ordering.TheVariants.{Less, Equal, Greater}
use Rattle.std.proofs.lemmas.Bool.{false≢true}
use Rattle.std.proofs.lemmas.Cmp.{tied_itself}
use Rattle.std.proofs.lemmas.List.Folds.{find-append}
use Rattle.indexset_core.specs.declared.pair.Pair.{Pair}
use Rattle.indexset_core.specs.Order.{above, below, put, unequal}
use Rattle.indexset_core.proofs.CallerLemmas.{equal_from, value_put}
use Rattle.indexset_core.specs.LookupKey.{EqualsAtMostOne}
use Rattle.indexset_core.specs.Pairs.{by_key, has_key, pair, pair_of, put_value, set_value, value_of, valued, without_key, set_found}

module _ {K V : Type 0} (cmp : K → K → Ordering) where
  written : (l : List (Pair K V)) (k : K) (w : V) → has_key cmp l k ≡ true → value_of cmp (set_value cmp l k w) k ≡ Some w
  unfolding set_found
  written [] k w h = absurd (false≢true h)
  written (p ∷ l) k w h =
      let is : Bool = is_eq (cmp p.key k) in
      elim is as (λ b. is ≡ b → (b || has_key cmp l k) ≡ true → value_of cmp (if b then valued p w ∷ l else p ∷ set_value cmp l k w) k ≡ Some w) [
        | true ↦ λ e g. rw e refl
        | false ↦ λ e g. rw e (written l k w g)
      ] refl h

  pub value_there : IsTotalOrder cmp → (l : List (Pair K V)) (k : K) (w : V) → value_of cmp (put_value cmp l k w) k ≡ Some w
  unfolding put_value
  value_there o l k w =
      elim (has_key cmp l k) as (λ b. has_key cmp l k ≡ b → value_of cmp (if b then set_value cmp l k w else put (by_key cmp) l (pair k w)) k ≡ Some w) [
        | true ↦ λ e. written l k w e
        | false ↦ λ e. value_put cmp o l k w
      ] refl

-- a filter that keeps all items that a test finds, or drops all of them
module _ {X : Type 0} (own p : X → Bool) where
  found_kept : ((x : X) → own x ≡ true → p x ≡ true) → (l : List X) → find own (filter p l) ≡ find own l
  found_kept keeps [] = refl
  found_kept keeps (x ∷ l) =
      elim (own x) as (λ d. own x ≡ d → find own (cond (p x) (x ∷ filter p l) (filter p l)) ≡ cond d (Some x) (find own l)) [
        | true ↦ λ e. rw (keeps x e, e) refl
        | false ↦ λ e. elim (p x) as (λ d. find own (cond d (x ∷ filter p l) (filter p l)) ≡ find own l) [
          | true ↦ rw e (found_kept keeps l)
          | false ↦ found_kept keeps l
        ]
      ] refl

  found_lost : ((x : X) → own x ≡ true → p x ≡ false) → (l : List X) → find own (filter p l) ≡ None
  found_lost loses [] = refl
  found_lost loses (x ∷ l) =
      elim (own x) as (λ d. own x ≡ d → find own (cond (p x) (x ∷ filter p l) (filter p l)) ≡ None) [
        | true ↦ λ e. rw (loses x e) (found_lost loses l)
        | false ↦ λ e. elim (p x) as (λ d. find own (cond d (x ∷ filter p l) (filter p l)) ≡ None) [
          | true ↦ rw e (found_lost loses l)
          | false ↦ found_lost loses l
        ]
      ] refl

module _ {K : Type 0} (cmp : K → K → Ordering) (o : IsTotalOrder cmp) (k other : K) (apart : is_eq (cmp other k) ≡ false) where
  -- an item equal to the other key compares with the one key as the other key does
  beside : (x : K) → is_eq (cmp x other) ≡ true → cmp x k ≡ cmp other k
  beside x e = o.congr x other k (equal_from _ e)

  not_other : (x : K) → is_eq (cmp x k) ≡ true → is_eq (cmp x other) ≡ false
  not_other x e = ap is_eq (o.congr x k other (equal_from _ e)) ∙ (ap is_eq (o.antisymm k other) ∙ (reversed (cmp other k) ∙ apart)) where
    reversed : (a : Ordering) → is_eq (ordering_reverse a) ≡ is_eq a
    reversed Less = refl
    reversed Equal = refl
    reversed Greater = refl

-- the value of another key is unchanged by an insertion
module _ {K V : Type 0} (cmp : K → K → Ordering) (o : IsTotalOrder cmp) (k other : K) (apart : is_eq (cmp other k) ≡ false) where
  set_beside : (l : List (Pair K V)) (w : V) → value_of cmp (set_value cmp l k w) other ≡ value_of cmp l other
  unfolding set_found
  set_beside [] w = refl
  set_beside (p ∷ l) w =
      elim (is_eq (cmp p.key k)) as (λ b. is_eq (cmp p.key k) ≡ b → value_of cmp (if b then valued p w ∷ l else p ∷ set_value cmp l k w) other ≡ value_of cmp (p ∷ l) other) [
        | true ↦ λ e. rw (not_other cmp o k other apart p.key e) refl
        | false ↦
            λ e.
            elim (is_eq (cmp p.key other))
            as (λ d. option_map (λ q. q.value) (cond d (Some p) (pair_of cmp (set_value cmp l k w) other))
            ≡ option_map (λ q. q.value) (cond d (Some p) (pair_of cmp l other))) [
              | true ↦ refl
              | false ↦ set_beside l w
            ]
      ] refl

  put_beside : (l : List (Pair K V)) (w : V) → value_of cmp (put (by_key cmp) l (pair k w)) other ≡ value_of cmp l other
  unfolding put
  put_beside l w =
      ap (option_map (λ p. p.value))
      (find-append own below_k (pair k w ∷ above_k)
      ∙ (rw new
      (elim (cmp other k) as (λ a. cmp other k ≡ a → option_or (find own below_k) (find own above_k) ≡ find own l) [
        | Less ↦
            λ e.
            rw (
              found_kept own (λ p. is_lt (cmp p.key k)) (λ p h. ap is_lt (beside cmp o k other apart p.key h ∙ e)) l,
              found_lost own (λ p. is_gt (cmp p.key k)) (λ p h. ap is_gt (beside cmp o k other apart p.key h ∙ e)) l,
            )
            (or_none (find own l))
        | Equal ↦ λ e. absurd (false≢true (sym apart ∙ ap is_eq e))
        | Greater ↦
            λ e.
            rw (
              found_lost own (λ p. is_lt (cmp p.key k)) (λ p h. ap is_lt (beside cmp o k other apart p.key h ∙ e)) l,
              found_kept own (λ p. is_gt (cmp p.key k)) (λ p h. ap is_gt (beside cmp o k other apart p.key h ∙ e)) l,
            )
            refl
      ] refl))) where
        own : Pair K V → Bool
        own p = is_eq (cmp p.key other)

        below_k : List (Pair K V)
        below_k = below (by_key cmp) l (pair k w)

        above_k : List (Pair K V)
        above_k = above (by_key cmp) l (pair k w)

        new : is_eq (cmp k other) ≡ false
        new = not_other cmp o k other apart k (ap is_eq (tied_itself o k))

        or_none : (r : Option (Pair K V)) → option_or r None ≡ r
        or_none (Some p) = refl
        or_none None = refl

  pub value_beside : (l : List (Pair K V)) (w : V) → value_of cmp (put_value cmp l k w) other ≡ value_of cmp l other
  unfolding put_value
  value_beside l w = elim (has_key cmp l k) as (λ b. value_of cmp (if b then set_value cmp l k w else put (by_key cmp) l (pair k w)) other ≡ value_of cmp l other) [
    | true ↦ set_beside l w
    | false ↦ put_beside l w
  ]

-- the value of another key is unchanged by a removal
pub without_beside : {K V Q : Type 0} {cmp : K → K → Ordering} (order : K → Q → Ordering) → IsTotalOrder cmp
    → EqualsAtMostOne cmp order → (k : Q) (other : K) → is_eq (order other k) ≡ false → (l : List (Pair K V))
    → value_of cmp (without_key order l k) other ≡ value_of cmp l other
unfolding unequal
without_beside {cmp = cmp} order o one k other apart l =
    ap (option_map (λ p. p.value))
    (found_kept (λ p. is_eq (cmp p.key other)) (λ p. not (is_eq (order p.key k)))
    (λ p e. stays p.key (order p.key k) refl (equal_from _ e)) l) where
      stays : (x : _) (a : Ordering) → order x k ≡ a → cmp x other ≡ Equal → not (is_eq a) ≡ true
      stays x Less e same = refl
      stays x Greater e same = refl
      stays x Equal e same =
          let there : order other k ≡ Equal = one k x other e ∙ (o.antisymm other x ∙ ap ordering_reverse same) in
          absurd (false≢true (sym apart ∙ ap is_eq there))
