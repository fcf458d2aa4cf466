-- Events that are offered to a replica that holds copies of the tree's items.
use Rattle.std.proofs.Common.{◌≡◌, ◌==◌, ℕ, ◌+◌, ◌-◌, ◌<◌, List, [], ◌∷◌, slice_get, Option, Some, None, Ordering, refl, ap, sym, ◌∙◌, inl, inr, subst, arith}
use Rattle.std.below.core.specs.declared.int.u64.TheConstants.{MAX}
use Rattle.std.specs.Cmp.{IsTotalOrder}
use Rattle.std.specs.List.{All, Contains}
use Rattle.std.proofs.lemmas.List.Elements.{All-head, All-tail}
use Rattle.indexset_core.proofs.CallerLemmas.{some_held}
use Rattle.indexset_events.specs.Replay.{event_number, step, step_plain, unassigned}
use Rattle.indexset_events.specs.declared.change.ChangeEvent.{ChangeEvent}
use Rattle.indexset_replica.specs.Copies.{AreCopies, IsCopy}
use Rattle.indexset_replica.specs.Delivery.{IsAlike, IsAt, IsDelivery, IsEventLog, IsOffered, IsPrefix, awaited, delivered, offered}
use Rattle.indexset_replica.specs.Replica.{ReplicaState, apply_refusal}
use Rattle.indexset_replica.proofs.RelatedNodeLemmas.{AreAlike, adds_alike, event_itself, step_alike}
use Rattle.indexset_replica.proofs.CopyLemmas.{copies_itself, copy_equal, copy_itself, copy_on}
use Rattle.indexset_replica.proofs.DeliveryLemmas.{at_more, begun, nothing_fatal, number_at, passed_over, place_of, read_at, steps_on, taken_in}
use Rattle.indexset_replica.proofs.StepLemmas.{misfit_refused, step_fits}

other_some : {X : Type 0} (R : X → X → Type 0) (x : X) (o : Option X) → AreAlike R (Some x) o → (y : X) × (o ≡ Some y)
other_some R x None h = absurd h
other_some R x (Some y) h = (y, refl)

module _ {T : Type 0} (cmp : T → T → Ordering) (o : IsTotalOrder cmp) (C : T → T → Type 0) where
  abbrev AreNodesAlike : List (List T) → List (List T) → Type 0
  AreNodesAlike = AreCopies cmp C

  pub alike_itself : (r : ReplicaState T) → IsAlike cmp C r r
  alike_itself r = record { nodes = copies_itself cmp C r.nodes; next = refl }

  module _ (s : ℕ) (ns : List (List T)) (es : List (ChangeEvent T)) (feed : IsEventLog cmp s ns es) where
    -- the event that a replica expects is a step
    stepped : (j : ℕ) (x : ReplicaState T) (p : ℕ) (e : ChangeEvent T) → IsAt cmp s ns es j x
        → slice_get es p ≡ Some e → event_number e ≡ x.next
        → (after : List (List T)) × (step cmp x.nodes e ≡ Some after)
    stepped j x p e at told number =
        let same : p ≡ j = omega (arith, number_at cmp s ns es feed p e told, number, at.next) in
        some_held (step cmp x.nodes e) (steps_on cmp s ns es feed j x e at (subst (λ i. slice_get es i ≡ Some e) same told))

    pub alike_fits : (j : ℕ) (x r : ReplicaState T) (p : ℕ) (e : ChangeEvent T) → IsAt cmp s ns es j x
        → IsAlike cmp C x r → slice_get es p ≡ Some e → event_number e ≡ r.next
        → apply_refusal cmp r.nodes r.next e ≡ None
    alike_fits j x r p e at like told number =
        let there : event_number e ≡ x.next = number ∙ like.next in
        let same : p ≡ j = omega (arith, number_at cmp s ns es feed p e told, there, at.next) in
        let more : x.next < MAX = omega (arith, at.next, feed.fits, (read_at es p e told).0, same) in
        let made = stepped j x p e at told there in
        let both =
        step_alike cmp o (IsCopy cmp C) (copy_equal cmp C o) x.nodes r.nodes like.nodes (unassigned e)
        (unassigned e)
        (event_itself cmp o (IsCopy cmp C) (copy_equal cmp C o) (copy_itself cmp C) (unassigned e)) in
        let mine = other_some AreNodesAlike made.0 (step_plain cmp r.nodes (unassigned e)) (subst (λ t. AreAlike AreNodesAlike t (step_plain cmp r.nodes (unassigned e))) made.1 both) in
        misfit_refused cmp r.nodes r.next e number (λ last. omega (arith, last, like.next, more)) ∙ step_fits cmp r.nodes (unassigned e) mine.0 mine.1

    alike_more : (j : ℕ) (x r q : ReplicaState T) (p : ℕ) (e : ChangeEvent T) → IsAt cmp s ns es j x
        → IsAlike cmp C x r → slice_get es p ≡ Some e → IsDelivery cmp C r e q
        → (y : ReplicaState T) × (delivered cmp x e ≡ Some y) × IsAlike cmp C y q
    alike_more j x r q p e at like told d =
        elim d [
          | inl past ↦ (x, passed_over cmp x e (λ same. past.0 (same ∙ sym like.next)), subst (IsAlike cmp C x) (sym past.1) like)
          | inr here ↦
              let number : event_number e ≡ x.next = here.0 ∙ like.next in
              let made = stepped j x p e at told number in
              let y : ReplicaState T = record { nodes = made.0; next = x.next + 1 } in
              let both =
              step_alike cmp o (IsCopy cmp C) (copy_equal cmp C o) x.nodes r.nodes like.nodes (unassigned e)
              here.3.event
              (adds_alike cmp o (IsCopy cmp C) (copy_equal cmp C o) C (copy_on cmp C) (unassigned e) (unassigned e)
              here.3.event
              (event_itself cmp o (IsCopy cmp C) (copy_equal cmp C o) (copy_itself cmp C) (unassigned e))
              here.3.adds) in
              let near : AreNodesAlike made.0 q.nodes = subst (λ t. AreAlike AreNodesAlike t (Some q.nodes)) made.1 (subst (λ t. AreAlike AreNodesAlike (step cmp x.nodes e) t) here.3.made both) in
              (y, taken_in cmp x y e (nothing_fatal cmp s ns es feed j x p e at told number) made.1 refl, record { nodes = near; next = here.2 ∙ ap (λ n. n + 1) like.next })
        ]

    pub alike_offered : (arriving : List (ChangeEvent T)) (x r q : ReplicaState T) → All (Contains es) arriving
        → IsPrefix cmp s ns es x → IsAlike cmp C x r → IsOffered cmp C r arriving q
        → (y : ReplicaState T) × (offered cmp x arriving ≡ Some y) × IsAlike cmp C y q
    alike_offered [] x r q of at like d = (x, refl, subst (IsAlike cmp C x) (sym d) like)
    alike_offered (e ∷ arriving) x r q of at like d =
        let j = x.next - s in
        let p = place_of cmp s ns es feed e (All-head (Contains es) e arriving of) in
        let first = alike_more j x r d.0 p.0 e at like p.1 d.1 in
        let on = at_more cmp s ns es feed j p.0 (p.0 == j) x first.0 e refl at p.1 first.1 in
        let rest = alike_offered arriving first.0 d.0 q (All-tail (Contains es) e arriving of) (begun cmp s ns es feed (awaited j p.0) first.0 on) first.2 d.2 in
        (rest.0, rw first.1 rest.1, rest.2)
