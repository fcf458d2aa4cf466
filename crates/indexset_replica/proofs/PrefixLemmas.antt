-- The prefix of a log that a replica has applied, for any delivery, and all of it.
use Rattle.std.proofs.Common.{◌≡◌, ℕ, zero, suc, ◌+◌, ◌-◌, ◌≤◌, List, [], ◌∷◌, length, map, Some, Ordering, unwrap_or, inl, inr, ap, subst, refl, arith, ◌∙◌}
use Rattle.std.specs.Cmp.{IsTotalOrder}
use Rattle.std.specs.List.{All, Contains}
use Rattle.std.proofs.lemmas.List.{take_all}
use Rattle.indexset_core.specs.declared.refusal.Refusal.{Refusal}
use Rattle.indexset_core.specs.declared.refusal.Refusal.TheVariants.{Memory}
use Rattle.indexset_events.specs.Replay.{event_number, replay}
use Rattle.indexset_events.specs.declared.change.ChangeEvent.{ChangeEvent}
use Rattle.indexset_replica.specs.Delivery.{CopiesAll, CopiesPrefix, FailsWith, IsCaughtUp, IsPrefix, IsDelivery, IsEventLog, IsOffered, IsSubsequence, numbers_from, offered}
use Rattle.indexset_replica.specs.Replica.{ReplicaState}
use Rattle.indexset_replica.proofs.CopyDeliveryLemmas.{alike_fits, alike_offered}
use Rattle.indexset_replica.proofs.DeliveryLemmas.{place_of, reached, subsequence_more}
use Rattle.indexset_replica.proofs.OfferLemmas.{prefix_after}

-- ---- the list of all places

subsequence_itself : {A : Type 0} (xs : List A) → IsSubsequence xs xs
subsequence_itself [] = tt
subsequence_itself (x ∷ xs) = inl (refl, subsequence_itself xs)

later_places : (d i n j m : ℕ) → j ≡ i + d → m ≡ d + n → IsSubsequence (numbers_from j n) (numbers_from i m)
later_places zero i n j m from all =
    let start : i ≡ j = omega (arith, from) in
    let count : n ≡ m = omega (arith, all) in
    subst (λ k. IsSubsequence (numbers_from k n) (numbers_from i m)) start (subst (λ k. IsSubsequence (numbers_from i n) (numbers_from i k)) count (subsequence_itself (numbers_from i n)))
later_places (suc d) i n j zero from all = absurd (omega (arith, all))
later_places (suc d) i n j (suc m) from all =
    subsequence_more (numbers_from j n) (numbers_from (i + 1) m) i (later_places d (i + 1) n j m (omega (arith, from)) (omega (arith, all)))

-- it has the places from any j on in order
pub all_places : (j n : ℕ) → IsSubsequence (numbers_from j (n - j)) (numbers_from 0 n)
all_places j n = by (n - j) refl
  where
    by : (k : ℕ) → n - j ≡ k → IsSubsequence (numbers_from j k) (numbers_from 0 n)
    by zero e = tt
    by (suc k) e = later_places j 0 (suc k) j n (omega arith) (omega (arith, e))

-- ---- events that are offered

module _ {T : Type 0} (cmp : T → T → Ordering) (C : T → T → Type 0) where
  -- the expected number never decreases
  next_one : (x y : ReplicaState T) (e : ChangeEvent T) → IsDelivery cmp C x e y → x.next ≤ y.next
  next_one x y e d =
      elim d [
        | inl past ↦ omega (arith, ap (λ r. r.next) past.1)
        | inr here ↦ omega (arith, here.2)
      ]

  pub next_grows : (r q : ReplicaState T) (es : List (ChangeEvent T)) → IsOffered cmp C r es q → r.next ≤ q.next
  next_grows r q [] d = omega (arith, ap (λ t. t.next) d)
  next_grows r q (e ∷ es) d = omega (arith, next_one r d.0 e d.1, next_grows d.0 q es d.2)

module _ {T : Type 0} (cmp : T → T → Ordering) (s : ℕ) (ns : List (List T)) (es : List (ChangeEvent T)) where
  pub all_held : (r : ReplicaState T) → IsPrefix cmp s ns es r → r.next ≡ s + length es → IsCaughtUp cmp s ns es r
  all_held r at end = record {
    nodes = subst (λ l. replay cmp ns l ≡ Some r.nodes) (take_all (r.next - s) es (omega (arith, end))) at.nodes;
    next = end;
  }

  pub copied_held : (C : T → T → Type 0) (q : ReplicaState T) → CopiesPrefix cmp C s ns es q → q.next ≡ s + length es → CopiesAll cmp C s ns es q
  copied_held C q at end = (at.0, all_held at.0 at.1 (omega (arith, at.2.next, end)), at.2)

  module _ (feed : IsEventLog cmp s ns es) where
    pub all_after : (arriving : List (ChangeEvent T)) (r q : ReplicaState T) → All (Contains es) arriving → IsPrefix cmp s ns es r
        → IsSubsequence (numbers_from r.next (s + length es - r.next)) (map event_number arriving) → offered cmp r arriving ≡ Some q → IsCaughtUp cmp s ns es q
    all_after arriving r q of at came done =
        let all = prefix_after cmp s ns es feed arriving r q of at done in
        let start : r.next ≤ s + length es = omega (arith, at.next, at.within) in
        let most = (reached r.next (map event_number arriving)).greatest (s + length es) start came in
        all_held q all.0 (omega (arith, all.1, all.0.next, all.0.within, most))

    -- the same for copies
    module _ (o : IsTotalOrder cmp) (C : T → T → Type 0) where
      pub copied_prefix : (arriving : List (ChangeEvent T)) (r q : ReplicaState T) → All (Contains es) arriving → CopiesPrefix cmp C s ns es r
          → IsOffered cmp C r arriving q → CopiesPrefix cmp C s ns es q
      copied_prefix arriving r q of at d =
          let near = alike_offered cmp o C s ns es feed arriving at.0 r q of at.1 at.2 d in
          (near.0, (prefix_after cmp s ns es feed arriving at.0 near.0 of at.1 near.1).0, near.2)

      pub copied_all : (arriving : List (ChangeEvent T)) (r q : ReplicaState T) → All (Contains es) arriving → CopiesPrefix cmp C s ns es r
          → IsSubsequence (numbers_from r.next (s + length es - r.next)) (map event_number arriving) → IsOffered cmp C r arriving q → CopiesAll cmp C s ns es q
      copied_all arriving r q of at came d =
          let near = alike_offered cmp o C s ns es feed arriving at.0 r q of at.1 at.2 d in
          let all = subst (λ n. IsSubsequence (numbers_from n (s + length es - n)) (map event_number arriving)) at.2.next came in
          (near.0, all_after arriving at.0 near.0 of at.1 all near.1, near.2)

      -- the next event of the log fails only for memory
      pub memory_alone : (r : ReplicaState T) (e : ChangeEvent T) (cause : Refusal) → CopiesPrefix cmp C s ns es r → Contains es e → FailsWith cmp r e cause → cause ≡ Memory
      memory_alone r e cause at of failed =
          let p = place_of cmp s ns es feed e of in
          let fits = alike_fits cmp o C s ns es feed (at.0.next - s) at.0 r p.0 e at.1 at.2 p.1 failed.0 in
          failed.1 ∙ ap (λ o. unwrap_or o Memory) fits
