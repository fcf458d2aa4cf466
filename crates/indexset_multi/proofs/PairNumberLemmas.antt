-- The numbers of pairs stay below the next one.
use Rattle.std.proofs.Common.{◌≡◌, ℕ, zero, suc, ◌<◌, ◌≤◌, true, false, cond, Bool, List, [], ◌∷◌, ◌++◌, find, Ordering, Some, None, insert, refl, subst, arith}
use Rattle.std.specs.Option.{option_map}
use Rattle.std.specs.Ordering.{is_eq, is_gt, is_lt}
use Rattle.std.proofs.lemmas.List.Elements.{All-append, All-cons, All-filter, All-head, All-nil, All-tail, All-weaker}
use Rattle.std.proofs.lemmas.Option.{none-some, same_Some}
use Rattle.indexset_core.specs.declared.multipair.MultiPair.{MultiPair}
use Rattle.indexset_core.specs.Nodes.{concat}
use Rattle.indexset_core.specs.Order.{above, below, put, without, unequal}
use Rattle.indexset_multi.specs.Attach.{free_number}
use Rattle.indexset_multi.specs.Keys.{AreNumberedBelow, equal_pair, kept_number, pairs_of}

module _ {K V : Type 0} where
  pub below_more : (m n : ℕ) → m ≤ n → (l : List (MultiPair K V)) → AreNumberedBelow m l → AreNumberedBelow n l
  below_more m n le l h = All-weaker (λ (p : MultiPair K V). p.discriminator < m) (λ p. p.discriminator < n) (λ p lt. omega arith) l h

  pub below_put : (cmp : MultiPair K V → MultiPair K V → Ordering) (n : ℕ) (l : List (MultiPair K V))
      (v : MultiPair K V)
      → AreNumberedBelow n l → v.discriminator < n → AreNumberedBelow n (put cmp l v)
  unfolding put
  below_put cmp n l v h lt =
      let P : MultiPair K V → Type 0 = λ p. p.discriminator < n in
      All-append P (below cmp l v) (v ∷ above cmp l v) (All-filter (λ x. is_lt (cmp x v)) P l h) (All-cons P v (above cmp l v) lt (All-filter (λ x. is_gt (cmp x v)) P l h))

  pub below_without : (cmp : MultiPair K V → MultiPair K V → Ordering) (n : ℕ) (l : List (MultiPair K V)) (v : MultiPair K V) → AreNumberedBelow n l → AreNumberedBelow n (without cmp l v)
  unfolding unequal
  below_without cmp n l v h = All-filter _ (λ p. p.discriminator < n) l h

  pub below_free : (l : List (MultiPair K V)) → AreNumberedBelow (free_number l) l
  below_free [] = All-nil (λ p. p.discriminator < 0)
  below_free (p ∷ l) = All-cons (λ q. q.discriminator < free_number (p ∷ l)) p l (omega arith) (below_more (free_number l) (free_number (p ∷ l)) (omega arith) l (below_free l))

  -- for nodes with an inserted node
  pub below_insert : (n : ℕ) (ns : List (List (MultiPair K V))) (i : ℕ) (m : List (MultiPair K V)) → AreNumberedBelow n (concat ns) → AreNumberedBelow n m → AreNumberedBelow n (concat (insert ns i m))
  below_insert n ns zero m h g = All-append (λ p. p.discriminator < n) m (concat ns) g h
  below_insert n [] (suc i) m h g = All-append (λ p. p.discriminator < n) m [] g h
  below_insert n (l ∷ ns) (suc i) m h g =
      let P : MultiPair K V → Type 0 = λ p. p.discriminator < n in
      All-append P l (concat (insert ns i m)) (left l (concat ns) h) (below_insert n ns i m (right l (concat ns) h) g)
    where
      left : (a b : List (MultiPair K V)) → AreNumberedBelow n (a ++ b) → AreNumberedBelow n a
      left [] b h = All-nil (λ p. p.discriminator < n)
      left (x ∷ a) b h = All-cons (λ p. p.discriminator < n) x a (All-head (λ p. p.discriminator < n) x (a ++ b) h) (left a b (All-tail (λ p. p.discriminator < n) x (a ++ b) h))

      right : (a b : List (MultiPair K V)) → AreNumberedBelow n (a ++ b) → AreNumberedBelow n b
      right [] b h = h
      right (x ∷ a) b h = right a b (All-tail (λ p. p.discriminator < n) x (a ++ b) h)

  found_below : (q : MultiPair K V → Bool) (n : ℕ) (l : List (MultiPair K V)) (x : MultiPair K V) → AreNumberedBelow n l → find q l ≡ Some x → x.discriminator < n
  found_below q n [] x h e = absurd (none-some x e)
  found_below q n (p ∷ l) x h e =
      elim (q p) as (λ b. cond b (Some p) (find q l) ≡ Some x → x.discriminator < n) [
        | true ↦ λ e. subst (λ (y : MultiPair K V). y.discriminator < n) (same_Some p x e) (All-head (λ y. y.discriminator < n) p l h)
        | false ↦ λ e. found_below q n l x (All-tail (λ y. y.discriminator < n) p l h) e
      ] e

  module _ (cmp : K → K → Ordering) (eq : V → V → Bool) (n : ℕ) (l : List (MultiPair K V)) (h : AreNumberedBelow n l) (k : K) (w : V) where
    -- a number that is kept is below the next one
    pub kept_below : (i : ℕ) → kept_number cmp eq l k w ≡ Some i → i < n
    kept_below i e =
        elim (equal_pair cmp eq l k w) as (λ r. equal_pair cmp eq l k w ≡ r → option_map (λ p. p.discriminator) r ≡ Some i → i < n) [
          | None ↦ λ _ g. absurd (none-some i g)
          | Some x ↦ λ f g.
              let lt = found_below (λ p. eq p.value w) n (pairs_of cmp l k) x (All-filter (λ p. is_eq (cmp p.key k)) (λ p. p.discriminator < n) l h) f in
              subst (λ j. j < n) (same_Some x.discriminator i g) lt
        ] refl e
