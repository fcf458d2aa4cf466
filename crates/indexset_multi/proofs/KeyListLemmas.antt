-- The pairs of a key after insertions and removals.
use Rattle.std.proofs.Common.{◌≡◌, ℕ, ◌<◌, ◌||◌, Bool, true, false, not, cond, List, [], ◌∷◌, ◌++◌, drop, filter, find, Option, Some, None, is_none, is_some, Ordering, refl, ap, sym, ◌∙◌, subst}
use Rattle.std.specs.Cmp.{IsTotalOrder}
use Rattle.std.specs.List.{list_any}
use Rattle.std.specs.Option.{unwrap_or}
use Rattle.std.specs.Ordering.{is_eq, is_gt, is_lt, nat_cmp, ordering_reverse, ordering_then}
use Rattle.std.specs.declared.cmp.Ordering.TheVariants.{Less, Equal, Greater}
use Rattle.std.proofs.lemmas.Bool.{false≢true, true≢false}
use Rattle.std.proofs.lemmas.Cmp.{alike_right, nat_cmp_total, tied_itself}
use Rattle.std.proofs.lemmas.List.Elements.{filter-append}
use Rattle.std.proofs.lemmas.List.Folds.{find-append}
use Rattle.std.proofs.lemmas.Option.{none-some, same_Some}
use Rattle.indexset_core.specs.declared.multipair.MultiPair.{MultiPair}
use Rattle.indexset_core.specs.declared.pair.Pair.{Pair}
use Rattle.indexset_core.specs.MultiPairs.{by_number}
use Rattle.indexset_core.specs.Nodes.{concat, IsLawful}
use Rattle.indexset_core.specs.Order.{IsAscending, put, without, unequal}
use Rattle.indexset_core.specs.LookupKey.{OrdersAsItem}
use Rattle.indexset_core.proofs.CallerLemmas.{equal_from, is_some-find}
use Rattle.indexset_events.proofs.CallerLemmas.{Each, all_each, around, each-map, lawful_ascends, parts-put, parts-without, rises}
use Rattle.indexset_multi.specs.Keys.{AreNumberedBelow, entries, equal_pair, first_pair, has_pair_of, kept_number, pairs_of, without_first, without_pairs_of, without_named}
use Rattle.indexset_multi.specs.Tree.{MultiTree, inserted_pair, takes_number}
use Rattle.indexset_multi.proofs.NumberedPairLemmas.{below_less, numbers_total}

less_equal : (let a : Ordering = Less in a) ≡ Equal → ⊥
less_equal e = cc

not_tied : (a : Ordering) → (a ≡ Equal → ⊥) → not (is_eq a) ≡ true
not_tied Less h = refl
not_tied Equal h = absurd (h refl)
not_tied Greater h = refl

not_equal : (a : Ordering) → is_eq a ≡ false → a ≡ Equal → ⊥
not_equal a e same = true≢false (sym (ap is_eq same) ∙ e)

pub any_each : {X : Type 0} (l : List X) → Each (λ x. Unit {0}) l
any_each [] = tt
any_each (x ∷ l) = (tt, any_each l)

module _ {X : Type 0} (p q : X → Bool) where
  -- two filters, of which the first passes all or no items that the second passes
  nested_all : (l : List X) → Each (λ x. p x ≡ true → q x ≡ true) l → filter p (filter q l) ≡ filter p l
  nested_all [] h = refl
  nested_all (x ∷ l) h =
      let rest = nested_all l h.1 in
      elim (p x) as (λ b. p x ≡ b → filter p (cond (q x) (x ∷ filter q l) (filter q l)) ≡ cond b (x ∷ filter p l) (filter p l)) [
        | true ↦ λ e. rw (h.0 e, e, rest) refl
        | false ↦ λ e. elim (q x) as (λ c. filter p (cond c (x ∷ filter q l) (filter q l)) ≡ filter p l) [
          | true ↦ rw e rest
          | false ↦ rest
        ]
      ] refl

  nested_none : (l : List X) → Each (λ x. p x ≡ true → q x ≡ false) l → filter p (filter q l) ≡ []
  nested_none [] h = refl
  nested_none (x ∷ l) h =
      let rest = nested_none l h.1 in
      elim (p x) as (λ b. p x ≡ b → filter p (cond (q x) (x ∷ filter q l) (filter q l)) ≡ []) [
        | true ↦ λ e. rw (h.0 e) rest
        | false ↦ λ e. elim (q x) as (λ c. filter p (cond c (x ∷ filter q l) (filter q l)) ≡ []) [
          | true ↦ rw e rest
          | false ↦ rest
        ]
      ] refl

  -- an item that is found is in the list, and passes
  found_each : (P : X → Type 0) (l : List X) (x : X) → Each P l → find q (filter p l) ≡ Some x → P x × (p x ≡ true)
  found_each P [] x h e = absurd (none-some x e)
  found_each P (y ∷ l) x h e =
      elim (p y) as (λ b. p y ≡ b → find q (cond b (y ∷ filter p l) (filter p l)) ≡ Some x → P x × (p x ≡ true)) [
        | true ↦ λ passes e. elim (q y) as (λ c. cond c (Some y) (find q (filter p l)) ≡ Some x → P x × (p x ≡ true)) [
          | true ↦ λ e. let same = same_Some y x e in (subst P same h.0, ap p (sym same) ∙ passes)
          | false ↦ λ e. found_each P l x h.1 e
        ] e
        | false ↦ λ _ e. found_each P l x h.1 e
      ] refl e

module _ {X : Type 0} (q : X → Bool) where
  -- the first item that passes follows items that do not
  first_after : (l : List X) (x : X) (r : List X) → find q l ≡ None → q x ≡ true → without_first q (l ++ x ∷ r) ≡ l ++ r
  first_after [] x r none passes = rw passes refl
  first_after (y ∷ l) x r none passes =
      elim (q y) as (λ b. cond b (Some y) (find q l) ≡ None → cond b (l ++ x ∷ r) (y ∷ without_first q (l ++ x ∷ r)) ≡ y ∷ l ++ r) [
        | true ↦ λ e. absurd (none-some y (sym e))
        | false ↦ λ e. ap (λ m. y ∷ m) (first_after l x r e passes)
      ] none

  none_first : (l : List X) → find q l ≡ None → without_first q l ≡ l
  none_first [] none = refl
  none_first (y ∷ l) none =
      elim (q y) as (λ b. cond b (Some y) (find q l) ≡ None → cond b l (y ∷ without_first q l) ≡ y ∷ l) [
        | true ↦ λ e. absurd (none-some y (sym e))
        | false ↦ λ e. ap (λ m. y ∷ m) (none_first l e)
      ] none

  found_left : (l r : List X) (x : X) → find q l ≡ Some x → find q (l ++ r) ≡ Some x
  found_left l r x e = find-append q l r ∙ rw e refl

  found_right : (l r : List X) → find q l ≡ None → find q (l ++ r) ≡ find q r
  found_right l r e = find-append q l r ∙ rw e refl

-- the first item of a filtered list
pub first_filtered : {X : Type 0} (p : X → Bool) (l : List X) → find p l ≡ find (λ _. true) (filter p l)
first_filtered p [] = refl
first_filtered p (x ∷ l) =
    elim (p x) as (λ b. cond b (Some x) (find p l) ≡ find (λ _. true) (cond b (x ∷ filter p l) (filter p l))) [
      | true ↦ refl
      | false ↦ first_filtered p l
    ]

pub any_first : {X : Type 0} (l : List X) → without_first (λ _. true) l ≡ drop 1 l
any_first [] = refl
any_first (x ∷ l) = refl

module _ {K V : Type 0} (cmp : K → K → Ordering) (o : IsTotalOrder cmp) where
  keys_tied : (p v : MultiPair K V) → by_number cmp p v ≡ Equal → cmp p.key v.key ≡ Equal
  keys_tied p v e = first_equal (cmp p.key v.key) (nat_cmp p.discriminator v.discriminator) e
    where
      first_equal : (a b : Ordering) → ordering_then a b ≡ Equal → a ≡ Equal
      first_equal Less b e = e
      first_equal Equal b e = refl
      first_equal Greater b e = e

  module _ (k : K) (v : MultiPair K V) (at : cmp v.key k ≡ Equal) where
    -- the pairs of a key are ordered by their numbers
    by_numbers : (p : MultiPair K V) → is_eq (cmp p.key k) ≡ true → by_number cmp p v ≡ nat_cmp p.discriminator v.discriminator
    by_numbers p e =
        let tied : cmp p.key v.key ≡ Equal = alike_right o v.key k p.key at ∙ equal_from (cmp p.key k) e in
        ap (λ a. ordering_then a (nat_cmp p.discriminator v.discriminator)) tied

    here : is_eq (cmp v.key k) ≡ true
    here = ap is_eq at

    -- a pair whose number is above all others is put last
    pub put_last : (l : List (MultiPair K V)) → AreNumberedBelow v.discriminator l → pairs_of cmp (put (by_number cmp) l v) k ≡ pairs_of cmp l k ++ v ∷ []
    unfolding put
    put_last l low =
        let p : MultiPair K V → Bool = λ x. is_eq (cmp x.key k) in
        let is_low : MultiPair K V → Bool = λ x. is_lt (by_number cmp x v) in
        let is_high : MultiPair K V → Bool = λ x. is_gt (by_number cmp x v) in
        let less : Each (λ x. p x ≡ true → by_number cmp x v ≡ Less) l =
        each-map _ _ (λ x lt e. by_numbers x e ∙ below_less x.discriminator v.discriminator lt) l
        (all_each (λ x. x.discriminator < v.discriminator) l low) in
        let before : filter p (filter is_low l) ≡ filter p l = nested_all p is_low l (each-map _ _ (λ x h e. ap is_lt (h e)) l less) in
        let behind : filter p (filter is_high l) ≡ [] = nested_none p is_high l (each-map _ _ (λ x h e. ap is_gt (h e)) l less) in
        filter-append p (filter is_low l) (v ∷ filter is_high l) ∙ rw (before, here, behind) refl

    -- the pairs of other keys are unchanged
    pub put_others : (l : List (MultiPair K V)) → IsAscending (by_number cmp) l → (other : K) → is_eq (cmp other k) ≡ false → pairs_of cmp (put (by_number cmp) l v) other ≡ pairs_of cmp l other
    put_others l up other ne =
        let p : MultiPair K V → Bool = λ x. is_eq (cmp x.key other) in
        let out : (x : MultiPair K V) → cmp x.key v.key ≡ Equal → p x ≡ false = λ x e.
        ap is_eq (o.congr x.key v.key other e ∙ o.congr v.key k other at) ∙ turned other ne in
        around (by_number cmp) (numbers_total cmp o) v (λ l. filter p (put (by_number cmp) l v) ≡ filter p l)
        (λ l r low high. rw (parts-put (by_number cmp) (numbers_total cmp o) l [] r v low tt high, filter-append p l (v ∷ r), out v (tied_itself o v.key)) (sym (filter-append p l r)))
        (λ l x r low same high.
        rw (
          parts-put (by_number cmp) (numbers_total cmp o) l (x ∷ []) r v low (same, tt) high,
          filter-append p l (v ∷ r),
          out v (tied_itself o v.key),
          filter-append p l (x ∷ r),
          out x (keys_tied x v same),
        )
        refl)
        l (rises (by_number cmp) l up)
      where
        turned : (other : K) → is_eq (cmp other k) ≡ false → is_eq (cmp k other) ≡ false
        turned other ne = rw (o.antisymm k other) (back (cmp other k) ne)
          where
            back : (a : Ordering) → is_eq a ≡ false → is_eq (ordering_reverse a) ≡ false
            back Less e = refl
            back Equal e = e
            back Greater e = refl

    -- the first pair with an equal value is the pair that was put, if it has the number of such a
    -- pair
    module _ (q : MultiPair K V → Bool) (passes : q v ≡ true) where
      none_before : (l : List (MultiPair K V)) → Each (λ x. by_number cmp x v ≡ Less) l
          → ((x : MultiPair K V) → find q (pairs_of cmp l k) ≡ Some x → x.discriminator ≡ v.discriminator)
          → find q (pairs_of cmp l k) ≡ None
      none_before l low number =
          elim (find q (pairs_of cmp l k)) as (λ f. find q (pairs_of cmp l k) ≡ f → f ≡ None) [
            | None ↦ λ e. refl
            | Some x ↦ λ e.
                let found = found_each (λ p. is_eq (cmp p.key k)) q (λ p. by_number cmp p v ≡ Less) l x low e in
                let same : nat_cmp x.discriminator v.discriminator ≡ Equal = rw (number x e) (tied_itself nat_cmp_total v.discriminator) in
                absurd (less_equal (sym found.0 ∙ (by_numbers x found.1 ∙ same)))
          ] refl

      put_found : (l r : List (MultiPair K V)) → Each (λ x. by_number cmp x v ≡ Less) l
          → ((x : MultiPair K V) → find q (pairs_of cmp l k) ≡ Some x → x.discriminator ≡ v.discriminator)
          → find q (pairs_of cmp (l ++ v ∷ r) k) ≡ Some v
      put_found l r low number =
          let p : MultiPair K V → Bool = λ x. is_eq (cmp x.key k) in
          let next : filter p (v ∷ r) ≡ v ∷ filter p r = rw here refl in
          rw (filter-append p l (v ∷ r), next) (found_right q (filter p l) (v ∷ filter p r) (none_before l low number) ∙ rw passes refl)

      pub put_there : (l : List (MultiPair K V)) → IsAscending (by_number cmp) l
          → ((x : MultiPair K V) → find q (pairs_of cmp l k) ≡ Some x → x.discriminator ≡ v.discriminator)
          → find q (pairs_of cmp (put (by_number cmp) l v) k) ≡ Some v
      put_there l up =
          let p : MultiPair K V → Bool = λ x. is_eq (cmp x.key k) in
          let front : (l r : List (MultiPair K V)) (x : MultiPair K V) → find q (filter p l) ≡ Some x
          → find q (filter p (l ++ r)) ≡ Some x =
          λ l r x e. rw (filter-append p l r) (found_left q (filter p l) (filter p r) x e) in
          around (by_number cmp) (numbers_total cmp o) v
          (λ l. ((x : MultiPair K V) → find q (filter p l) ≡ Some x → x.discriminator ≡ v.discriminator)
          → find q (filter p (put (by_number cmp) l v)) ≡ Some v)
          (λ l r low high number. rw (parts-put (by_number cmp) (numbers_total cmp o) l [] r v low tt high) (put_found l r low (λ x e. number x (front l r x e))))
          (λ l y r low same high number. rw (parts-put (by_number cmp) (numbers_total cmp o) l (y ∷ []) r v low (same, tt) high) (put_found l r low (λ x e. number x (front l (y ∷ r) x e))))
          l (rises (by_number cmp) l up)

-- a removal by a look-up key
module _ {K V Q : Type 0} {cmp : K → K → Ordering} (o : IsTotalOrder cmp) {order : K → Q → Ordering} {among : Q → Q → Ordering} (acts : OrdersAsItem cmp order among) where
  -- pairs that compare equal have keys that compare alike with the look-up key
  alike : (k : Q) (p x : MultiPair K V) → by_number cmp p x ≡ Equal → order p.key k ≡ order x.key k
  alike k p x tied = acts.alike k p.key x.key (keys_tied cmp o p x tied)

  -- the removal of the pair x of the key, the first that passes
  module _ (k : Q) (q : MultiPair K V → Bool) (x : MultiPair K V) where
    same : by_number cmp x x ≡ Equal
    same = tied_itself (numbers_total cmp o) x

    not_below : (l : List (MultiPair K V)) → Each (λ y. by_number cmp y x ≡ Less) l → find q (pairs_of order l k) ≡ Some x → ⊥
    not_below l low e =
        let found = found_each (λ p. is_eq (order p.key k)) q (λ y. by_number cmp y x ≡ Less) l x low e in
        less_equal (sym found.0 ∙ same)

    not_above : (r : List (MultiPair K V)) → Each (λ y. by_number cmp x y ≡ Less) r → find q (pairs_of order r k) ≡ Some x → ⊥
    not_above r high e =
        let found = found_each (λ p. is_eq (order p.key k)) q (λ y. by_number cmp x y ≡ Less) r x high e in
        less_equal (sym found.0 ∙ same)

    first_gone : (l : List (MultiPair K V)) (y : MultiPair K V) (r : List (MultiPair K V))
        → Each (λ y. by_number cmp y x ≡ Less) l → by_number cmp y x ≡ Equal → Each (λ y. by_number cmp x y ≡ Less) r
        → find q (pairs_of order (l ++ y ∷ r) k) ≡ Some x
        → pairs_of order (l ++ r) k ≡ without_first q (pairs_of order (l ++ y ∷ r) k)
    first_gone l y r low tied high e =
        let p : MultiPair K V → Bool = λ z. is_eq (order z.key k) in
        let parts = filter-append p l (y ∷ r) in
        let keyed : p y ≡ true =
        let found = found_each p q (λ z. Unit {0}) (l ++ y ∷ r) x (any_each (l ++ y ∷ r)) e in
        ap is_eq (alike k y x tied) ∙ found.1 in
        let next : filter p (y ∷ r) ≡ y ∷ filter p r = rw keyed refl in
        let seen : find q (filter p l ++ y ∷ filter p r) ≡ Some x = rw (parts, next) at e in
        let none : find q (filter p l) ≡ None =
        elim (find q (filter p l)) as (λ f. find q (filter p l) ≡ f → f ≡ None) [
          | None ↦ λ _. refl
          | Some z ↦ λ g. absurd (not_below l low (g ∙ (sym (found_left q (filter p l) (y ∷ filter p r) z g) ∙ seen)))
        ] refl in
        let rest : find q (y ∷ filter p r) ≡ Some x = sym (found_right q (filter p l) (y ∷ filter p r) none) ∙ seen in
        let passes : q y ≡ true =
        elim (q y) as (λ b. cond b (Some y) (find q (filter p r)) ≡ Some x → b ≡ true) [
          | true ↦ λ _. refl
          | false ↦ λ g. absurd (not_above r high g)
        ] rest in
        rw (parts, next, filter-append p l r) (sym (first_after q (filter p l) y (filter p r) none passes))

    gone : (l : List (MultiPair K V)) → IsAscending (by_number cmp) l → find q (pairs_of order l k) ≡ Some x → pairs_of order (without (by_number cmp) l x) k ≡ without_first q (pairs_of order l k)
    gone l up =
        let p : MultiPair K V → Bool = λ z. is_eq (order z.key k) in
        around (by_number cmp) (numbers_total cmp o) x (λ l. find q (filter p l) ≡ Some x → filter p (without (by_number cmp) l x) ≡ without_first q (filter p l))
        (λ l r low high e. absurd (elim (find q (filter p l)) as (λ f. find q (filter p l) ≡ f → ⊥) [
          | None ↦ λ g. not_above r high (sym (found_right q (filter p l) (filter p r) g) ∙ rw filter-append at e)
          | Some z ↦ λ g. not_below l low (g ∙ (sym (found_left q (filter p l) (filter p r) z g) ∙ rw filter-append at e))
        ] refl))
        (λ l y r low tied high e. rw (parts-without (by_number cmp) (numbers_total cmp o) l (y ∷ []) r x low (tied, tt) high) (first_gone l y r low tied high e))
        l (rises (by_number cmp) l up)

  -- the pairs of a key after the removal of the first that passes, if any
  pub pair_gone : (k : Q) (q : MultiPair K V → Bool) (l : List (MultiPair K V)) → IsAscending (by_number cmp) l
      → pairs_of order (without_named cmp l (find q (pairs_of order l k))) k ≡ without_first q (pairs_of order l k)
  pair_gone k q l up =
      elim (find q (pairs_of order l k)) as (λ f. find q (pairs_of order l k) ≡ f → pairs_of order (without_named cmp l f) k ≡ without_first q (pairs_of order l k)) [
        | None ↦ λ e. sym (none_first q (pairs_of order l k) e)
        | Some x ↦ λ e. gone k q x l up e
      ] refl

  pub first_pair_gone : (k : Q) (l : List (MultiPair K V)) → IsAscending (by_number cmp) l → pairs_of order (without_named cmp l (first_pair order l k)) k ≡ drop 1 (pairs_of order l k)
  first_pair_gone k l up = ap (λ f. pairs_of order (without_named cmp l f) k) (first_filtered (λ p. is_eq (order p.key k)) l) ∙ (pair_gone k (λ _. true) l up ∙ any_first (pairs_of order l k))

  -- the pairs of other keys are unchanged
  module _ (k : Q) (q : MultiPair K V → Bool) (l : List (MultiPair K V)) (other : K) (ne : is_eq (order other k) ≡ false) where
    pair_left : (x : MultiPair K V) → find q (pairs_of order l k) ≡ Some x → pairs_of cmp (without (by_number cmp) l x) other ≡ pairs_of cmp l other
    unfolding unequal
    pair_left x e =
        let found = found_each (λ p. is_eq (order p.key k)) q (λ z. Unit {0}) l x (any_each l) e in
        nested_all (λ p. is_eq (cmp p.key other)) (λ p. not (is_eq (by_number cmp p x))) l (each-map (λ z. Unit {0}) _ (λ p _ keyed. not_tied (by_number cmp p x) (λ tied.
        let here : cmp p.key other ≡ Equal = equal_from (cmp p.key other) keyed in
        let same : cmp x.key other ≡ Equal = sym (o.congr p.key x.key other (keys_tied cmp o p x tied)) ∙ here in
        not_equal (order other k) ne (sym (acts.alike k x.key other same) ∙ equal_from (order x.key k) found.1))) l (any_each l))

    pub others_left : pairs_of cmp (without_named cmp l (find q (pairs_of order l k))) other ≡ pairs_of cmp l other
    others_left =
        elim (find q (pairs_of order l k)) as (λ f. find q (pairs_of order l k) ≡ f → pairs_of cmp (without_named cmp l f) other ≡ pairs_of cmp l other) [
          | None ↦ λ e. refl
          | Some x ↦ λ e. pair_left x e
        ] refl

  pub others_left_first : (k : Q) (l : List (MultiPair K V)) (other : K) → is_eq (order other k) ≡ false → pairs_of cmp (without_named cmp l (first_pair order l k)) other ≡ pairs_of cmp l other
  others_left_first k l other ne = ap (λ f. pairs_of cmp (without_named cmp l f) other) (first_filtered (λ p. is_eq (order p.key k)) l) ∙ others_left k (λ _. true) l other ne

  -- all of them are unchanged, in order
  module _ (k : Q) (l : List (MultiPair K V)) where
    rest_left : (x : MultiPair K V) → find (λ _. true) (pairs_of order l k) ≡ Some x → without_pairs_of order (without (by_number cmp) l x) k ≡ without_pairs_of order l k
    unfolding unequal
    rest_left x e =
        let found = found_each (λ p. is_eq (order p.key k)) (λ _. true) (λ z. Unit {0}) l x (any_each l) e in
        nested_all (λ p. not (is_eq (order p.key k))) (λ p. not (is_eq (by_number cmp p x))) l (each-map (λ z. Unit {0}) _ (λ p _ other. not_tied (by_number cmp p x) (λ tied.
        let here : is_eq (order p.key k) ≡ true = ap is_eq (alike k p x tied) ∙ found.1 in
        false≢true (ap not (sym here) ∙ other))) l (any_each l))

    pub rest_left_first : without_pairs_of order (without_named cmp l (first_pair order l k)) k ≡ without_pairs_of order l k
    rest_left_first =
        ap (λ f. without_pairs_of order (without_named cmp l f) k) (first_filtered (λ p. is_eq (order p.key k)) l)
        ∙ elim (find (λ _. true) (pairs_of order l k)) as (λ f. find (λ _. true) (pairs_of order l k) ≡ f → without_pairs_of order (without_named cmp l f) k ≡ without_pairs_of order l k) [
          | None ↦ λ e. refl
          | Some x ↦ λ e. rest_left x e
        ] refl

-- an insertion into a multimap
module _ {K V : Type 0} (cmp : K → K → Ordering) (o : IsTotalOrder cmp) (eq : V → V → Bool) (m : MultiTree K V) (k : K) (w : V) where
  keyed : cmp k k ≡ Equal
  keyed = tied_itself o k

  inserted_there : ((x : V) → eq x x ≡ true) → IsAscending (by_number cmp) (concat m.nodes)
      → equal_pair cmp eq (put (by_number cmp) (concat m.nodes) (inserted_pair cmp eq m k w)) k w
      ≡ Some (inserted_pair cmp eq m k w)
  inserted_there same up = put_there cmp o k (inserted_pair cmp eq m k w) keyed (λ p. eq p.value w) (same w) (concat m.nodes) up (λ x e. rw e refl)

  pub inserted_last : AreNumberedBelow m.pair_next (concat m.nodes) → takes_number cmp eq m k w ≡ true
      → pairs_of cmp (put (by_number cmp) (concat m.nodes) (inserted_pair cmp eq m k w)) k
      ≡ pairs_of cmp (concat m.nodes) k ++ inserted_pair cmp eq m k w ∷ []
  inserted_last low new =
      let number : unwrap_or (kept_number cmp eq (concat m.nodes) k w) m.pair_next ≡ m.pair_next = no_other (kept_number cmp eq (concat m.nodes) k w) new in
      put_last cmp o k (inserted_pair cmp eq m k w) keyed (concat m.nodes) (subst (λ n. AreNumberedBelow n (concat m.nodes)) (sym number) low)
    where
      no_other : (n : Option ℕ) → is_none n ≡ true → unwrap_or n m.pair_next ≡ m.pair_next
      no_other None e = refl
      no_other (Some n) e = absurd (false≢true e)

  pub inserted_others : IsAscending (by_number cmp) (concat m.nodes) → (other : K) → is_eq (cmp other k) ≡ false
      → pairs_of cmp (put (by_number cmp) (concat m.nodes) (inserted_pair cmp eq m k w)) other
      ≡ pairs_of cmp (concat m.nodes) other
  inserted_others up other ne = put_others cmp o k (inserted_pair cmp eq m k w) keyed (concat m.nodes) up other ne

  -- the pairs after an insertion, for a caller
  pub record Inserted (after : List (MultiPair K V)) : Type 0 where
    pub contains : equal_pair cmp eq after k w ≡ Some (inserted_pair cmp eq m k w)
    pub last : takes_number cmp eq m k w ≡ true → pairs_of cmp after k ≡ pairs_of cmp (concat m.nodes) k ++ inserted_pair cmp eq m k w ∷ []
    pub others : (other : K) → is_eq (cmp other k) ≡ false → pairs_of cmp after other ≡ pairs_of cmp (concat m.nodes) other

  pub inserted : ((x : V) → eq x x ≡ true) → IsLawful (by_number cmp) m.size m.nodes
      → AreNumberedBelow m.pair_next (concat m.nodes)
      → {ns : List (List (MultiPair K V))} {pair : MultiPair K V} {after : List (MultiPair K V)} → ns ≡ m.nodes
      → pair ≡ inserted_pair cmp eq m k w → after ≡ put (by_number cmp) (concat ns) pair → Inserted after
  inserted same law low {ns = ns} nodes pair made =
      let up = lawful_ascends (by_number cmp) m.size m.nodes law in
      let is = made ∙ (ap (put (by_number cmp) (concat ns)) pair ∙ ap (λ q. put (by_number cmp) (concat q) (inserted_pair cmp eq m k w)) nodes) in
      record { contains = rw is (inserted_there same up); last = rw is (inserted_last low); others = rw is (inserted_others up) }

-- a pair that is found has the key, and its value is among those of the key
module _ {K V : Type 0} (cmp : K → K → Ordering) (eq : V → V → Bool) (l : List (MultiPair K V)) (k : K) (w : V) {x : MultiPair K V} where
  pub found_keyed : equal_pair cmp eq l k w ≡ Some x → has_pair_of cmp l k ≡ true
  found_keyed e = any_of l e
    where
      any_of : (l : List (MultiPair K V)) → equal_pair cmp eq l k w ≡ Some x → has_pair_of cmp l k ≡ true
      any_of [] e = absurd (none-some x e)
      any_of (p ∷ l) e =
          elim (is_eq (cmp p.key k)) as (λ b. find (λ y. eq y.value w) (cond b (p ∷ pairs_of cmp l k) (pairs_of cmp l k)) ≡ Some x → (b || has_pair_of cmp l k) ≡ true) [
            | true ↦ λ _. refl
            | false ↦ λ e. any_of l e
          ] e

  pub found_value : equal_pair cmp eq l k w ≡ Some x → list_any (λ p. eq p.value w) (entries (pairs_of cmp l k)) ≡ true
  found_value e = any_entry (pairs_of cmp l k) ∙ (sym (is_some-find (λ p. eq p.value w) (pairs_of cmp l k)) ∙ ap is_some e)
    where
      any_entry : (l : List (MultiPair K V)) → list_any (λ (p : Pair K V). eq p.value w) (entries l) ≡ list_any (λ p. eq p.value w) l
      any_entry [] = refl
      any_entry (p ∷ l) = ap (λ b. eq p.value w || b) (any_entry l)
