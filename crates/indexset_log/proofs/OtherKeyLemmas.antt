-- The values of other keys after an insertion or a removal of a pair.
use Rattle.std.proofs.Common.{◌≡◌, Bool, true, false, cond, not, List, [], ◌∷◌, filter, find, Option, Ordering, Some, None, IfSome, is_none, refl, ap, sym, ◌∙◌}
use Rattle.std.specs.Cmp.{IsTotalOrder}
use Rattle.std.specs.Option.{option_map, option_or}
use Rattle.std.specs.Ordering.{is_eq, is_gt, is_lt, ordering_reverse}
use Rattle.std.specs.declared.cmp.Ordering.TheVariants.{Less, Equal, Greater}
use Rattle.std.proofs.lemmas.Bool.{false≢true}
use Rattle.std.proofs.lemmas.List.Folds.{find-append}
use Rattle.indexset_core.specs.declared.pair.Pair.{Pair}
use Rattle.indexset_core.specs.Nodes.{concat}
use Rattle.indexset_core.specs.Order.{above, below, keep, put, unequal}
use Rattle.indexset_core.specs.Pairs.{by_key, has_key, pair, value_of, without_key}
use Rattle.indexset_core.specs.LookupKey.{OrdersAsItem}
use Rattle.indexset_core.proofs.CallerLemmas.{equal_from, value_put}
use Rattle.indexset_log.specs.Keys.{KeepsOthers}

-- p answers b at all items that the test own finds
abbrev AnswersAt : {X : Type 0} → (X → Bool) → (X → Bool) → Bool → Type 0
AnswersAt {X} own p b = (x : X) → own x ≡ true → p x ≡ b

module _ {X : Type 0} (own p : X → Bool) where
  find_kept : AnswersAt own p true → (l : List X) → find own (filter p l) ≡ find own l
  find_kept keeps [] = refl
  find_kept keeps (x ∷ l) =
      elim (own x) as (λ d. own x ≡ d → find own (cond (p x) (x ∷ filter p l) (filter p l)) ≡ cond d (Some x) (find own l)) [
        | true ↦ λ e. rw (keeps x e, e) refl
        | false ↦ λ e. elim (p x) as (λ d. find own (cond d (x ∷ filter p l) (filter p l)) ≡ find own l) [
          | true ↦ rw e (find_kept keeps l)
          | false ↦ find_kept keeps l
        ]
      ] refl

  find_lost : AnswersAt own p false → (l : List X) → find own (filter p l) ≡ None
  find_lost loses [] = refl
  find_lost loses (x ∷ l) =
      elim (own x) as (λ d. own x ≡ d → find own (cond (p x) (x ∷ filter p l) (filter p l)) ≡ None) [
        | true ↦ λ e. rw (loses x e) (find_lost loses l)
        | false ↦ λ e. elim (p x) as (λ d. find own (cond d (x ∷ filter p l) (filter p l)) ≡ None) [
          | true ↦ rw e (find_lost loses l)
          | false ↦ find_lost loses l
        ]
      ] refl

option_or_none : {X : Type 0} (r : Option X) → option_or r None ≡ r
option_or_none (Some x) = refl
option_or_none None = refl

reversed_is_eq : (a : Ordering) → is_eq (ordering_reverse a) ≡ is_eq a
reversed_is_eq Less = refl
reversed_is_eq Equal = refl
reversed_is_eq Greater = refl

apart_back : {K : Type 0} (cmp : K → K → Ordering) → IsTotalOrder cmp → (k other : K) → is_eq (cmp other k) ≡ false → is_eq (cmp k other) ≡ false
apart_back cmp o k other apart = ap is_eq (o.antisymm k other) ∙ (reversed_is_eq (cmp other k) ∙ apart)

module _ {K V : Type 0} (cmp : K → K → Ordering) (o : IsTotalOrder cmp) (k other : K) (apart : is_eq (cmp other k) ≡ false) where
  own : Pair K V → Bool
  own p = is_eq (cmp p.key other)

  -- a pair of the other key compares with k as the other key does
  like_other : (p : Pair K V) → own p ≡ true → cmp p.key k ≡ cmp other k
  unfolding own
  like_other p e = o.congr p.key other k (equal_from _ e)

  beside_put : (l : List (Pair K V)) (w : V) → value_of cmp (put (by_key cmp) l (pair k w)) other ≡ value_of cmp l other
  unfolding put own
  beside_put l w =
      ap (option_map (λ p. p.value))
      (find-append own low (pair k w ∷ high)
      ∙ (rw (apart_back cmp o k other apart)
      (elim (cmp other k) as (λ a. cmp other k ≡ a → option_or (find own low) (find own high) ≡ find own l) [
        | Less ↦
            λ e.
            rw (
              find_kept own (λ p. is_lt (cmp p.key k)) (λ p h. ap is_lt (like_other p h ∙ e)) l,
              find_lost own (λ p. is_gt (cmp p.key k)) (λ p h. ap is_gt (like_other p h ∙ e)) l,
            )
            (option_or_none (find own l))
        | Equal ↦ λ e. absurd (false≢true (sym apart ∙ ap is_eq e))
        | Greater ↦ λ e. rw (find_lost own (λ p. is_lt (cmp p.key k)) (λ p h. ap is_lt (like_other p h ∙ e)) l, find_kept own (λ p. is_gt (cmp p.key k)) (λ p h. ap is_gt (like_other p h ∙ e)) l) refl
      ] refl))) where
        low : List (Pair K V)
        low = below (by_key cmp) l (pair k w)

        high : List (Pair K V)
        high = above (by_key cmp) l (pair k w)

module _ {K V Q : Type 0} {cmp : K → K → Ordering} {order : K → Q → Ordering} {among : Q → Q → Ordering}
    (acts : OrdersAsItem cmp order among) (k : Q) (other : K) (apart : is_eq (order other k) ≡ false) where
  beside_removed : (l : List (Pair K V)) → value_of cmp (without_key order l k) other ≡ value_of cmp l other
  unfolding unequal
  beside_removed l =
      ap (option_map (λ p. p.value))
      (find_kept (λ p. is_eq (cmp p.key other)) (λ p. not (is_eq (order p.key k)))
      (λ p e. ap not (ap is_eq (acts.alike k p.key other (equal_from _ e)) ∙ apart)) l)

-- an insertion or a removal of a pair keeps the values of the other keys
module _ {K V : Type 0} {cmp : K → K → Ordering} (before after : List (List (Pair K V))) where
  pub others_put : IsTotalOrder cmp → (k : K) (w : V) → concat after ≡ put (by_key cmp) (concat before) (pair k w) → KeepsOthers cmp cmp before after k
  others_put o k w made other apart = ap (λ l. value_of cmp l other) made ∙ beside_put cmp o k other apart (concat before) w

  pub others_removed : {Q : Type 0} {order : K → Q → Ordering} {among : Q → Q → Ordering}
      → OrdersAsItem cmp order among → (k : Q) → concat after ≡ without_key order (concat before) k
      → KeepsOthers cmp order before after k
  others_removed acts k made other apart = ap (λ l. value_of cmp l other) made ∙ beside_removed acts k other apart (concat before)

-- a pair inserted only if its key was absent
module _ {K V : Type 0} {cmp : K → K → Ordering} (o : IsTotalOrder cmp) (l m : List (Pair K V)) (k : K) (w : V) where
  added_new : false ≡ has_key cmp l k → m ≡ keep (by_key cmp) l (pair k w) → value_of cmp m k ≡ Some w
  unfolding keep
  added_new absent made = ap (λ l. value_of cmp l k) (rw (← absent) at made) ∙ value_put cmp o l k w

  pub added_written : {A : Type 0} (added : Option A) → is_none added ≡ has_key cmp l k → m ≡ keep (by_key cmp) l (pair k w) → IfSome added (λ _. value_of cmp m k ≡ Some w)
  added_written None there made = tt
  added_written (Some x) absent made = added_new absent made
