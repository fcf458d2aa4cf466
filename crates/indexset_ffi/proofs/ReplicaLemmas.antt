-- The effect of a record on a replica.
use Rattle.std.proofs.Common.{◌≡◌, ℕ, zero, suc, ◌+◌, ◌<◌, ◌≤◌, List, [], ◌∷◌, take, slice_get, Option, Some, None, refl, sym, ap, ◌∙◌, arith, add-one, option_and_then}
use Rattle.std.proofs.lemmas.Bool.{le-ltb, lt-ltb}
use Rattle.std.proofs.lemmas.Option.{same_Some}
use Rattle.std.specs.Option.{option_map, unwrap_or}
use Rattle.std.specs.Ordering.{nat_cmp}
use Rattle.indexset_core.specs.declared.pair.Pair.{Pair}
use Rattle.indexset_core.specs.declared.refusal.Refusal.{Refusal}
use Rattle.indexset_core.specs.declared.refusal.Refusal.TheVariants as refusals
use Rattle.indexset_core.specs.Pairs.{by_key}
use Rattle.indexset_events.specs.declared.change.ChangeEvent.{ChangeEvent}
use Rattle.indexset_events.specs.Replay.{event_number, step}
use Rattle.indexset_replica.specs.Replica.{ReplicaState, apply_refusal}
use Rattle.indexset_replica.proofs.CallerLemmas.{passed_over, taken_in, turn_taken}
use Rattle.indexset_ffi.specs.declared.event.Event.{Event}
use Rattle.indexset_ffi.specs.declared.status.TheConstants.{MEMORY, NO, NONE, UNFIT}
use Rattle.indexset_ffi.specs.Events.{event_of}
use Rattle.indexset_ffi.specs.Replicas.{applied, applied_all, refused, status_of}

abbrev State : Type 0
State = ReplicaState (Pair ℕ ℕ)

mapped_or : (o : Option Refusal) → unwrap_or (option_map status_of o) MEMORY ≡ status_of (unwrap_or o refusals.Memory)
mapped_or None = refl
mapped_or (Some x) = refl

-- the status of a refusal is not `NONE`
pub not_none : (cause : Refusal) → status_of cause ≡ NONE → ⊥
not_none refusals.Memory h = omega (arith, h)
not_none refusals.Numbers h = omega (arith, h)
not_none refusals.Empty h = omega (arith, h)
not_none refusals.TooLarge h = omega (arith, h)
not_none refusals.Unsorted h = omega (arith, h)
not_none refusals.Overlaps h = omega (arith, h)
not_none refusals.PairNumber h = omega (arith, h)
not_none refusals.Gap h = omega (arith, h)
not_none refusals.NoSuchNode h = omega (arith, h)
not_none refusals.IndexOutside h = omega (arith, h)
not_none refusals.ValueDiffers h = omega (arith, h)
not_none refusals.WouldBeEmpty h = omega (arith, h)
not_none refusals.OutOfOrder h = omega (arith, h)
not_none refusals.BadSplit h = omega (arith, h)
not_none refusals.NotNeighbours h = omega (arith, h)

module _ (r : State) (e : Event) where
  -- a record whose kind is unknown
  pub kind_unfit : event_of e ≡ None → refused r e ≡ Some UNFIT
  unfolding refused
  kind_unfit none = rw none refl

  module _ (c : ChangeEvent (Pair ℕ ℕ)) (is : event_of e ≡ Some c) where
    -- an event that came before
    pub before_refused : event_number c < r.next → refused r e ≡ Some NO
    unfolding refused
    before_refused less = rw (is, lt-ltb (event_number c) r.next less) refl

    pub before_applied : event_number c < r.next → applied r e ≡ Some r
    unfolding applied
    before_applied less = rw (is, le-ltb r.next (event_number c) (omega (arith, less))) (passed_over (by_key nat_cmp) r c (λ same. omega (arith, same, less)))

    -- any other event
    pub turn_refused : r.next ≤ event_number c → refused r e ≡ option_map status_of (apply_refusal (by_key nat_cmp) r.nodes r.next c)
    unfolding refused
    turn_refused turn = rw (is, le-ltb (event_number c) r.next turn) refl

    pub turn_cause : r.next ≤ event_number c → unwrap_or (refused r e) MEMORY ≡ status_of (unwrap_or (apply_refusal (by_key nat_cmp) r.nodes r.next c) refusals.Memory)
    turn_cause turn = ap (λ o. unwrap_or o MEMORY) (turn_refused turn) ∙ mapped_or (apply_refusal (by_key nat_cmp) r.nodes r.next c)

    pub turn_applied : (new : State) → apply_refusal (by_key nat_cmp) r.nodes r.next c ≡ None → step (by_key nat_cmp) r.nodes c ≡ Some new.nodes → new.next ≡ r.next + 1 → applied r e ≡ Some new
    unfolding applied
    turn_applied new fits made next =
        let number = turn_taken (by_key nat_cmp) r.nodes r.next c fits in
        rw (is, le-ltb r.next (event_number c) (omega (arith, number))) (taken_in (by_key nat_cmp) r new c fits made next)

-- another record is applied
then_more : (o : Option State) (es : List Event) (n : ℕ) (e : Event) → ((r : State) → option_and_then (λ s. applied s e) (applied_all r (take n es)) ≡ applied_all r (take (suc n) es))
    → option_and_then (λ s. applied s e) (option_and_then (λ r. applied_all r (take n es)) o) ≡ option_and_then (λ r. applied_all r (take (suc n) es)) o
then_more None es n e more = refl
then_more (Some r) es n e more = more r

and_some : (o : Option State) → option_and_then (λ s. Some s) o ≡ o
and_some None = refl
and_some (Some s) = refl

more_at : (r : State) (es : List Event) (n : ℕ) (e : Event) → slice_get es n ≡ Some e → option_and_then (λ s. applied s e) (applied_all r (take n es)) ≡ applied_all r (take (suc n) es)
more_at r [] n e h = grind arith
more_at r (x ∷ es) zero e h = ap (applied r) (sym (same_Some x e h)) ∙ sym (and_some (applied r x))
more_at r (x ∷ es) (suc n) e h = then_more (applied r x) es n e (λ s. more_at s es n e h)

pub applied_more : (r held new : State) (es : List Event) (n : ℕ) (e : Event) → slice_get es n ≡ Some e
    → applied_all r (take n es) ≡ Some held → applied held e ≡ Some new → applied_all r (take (n + 1) es) ≡ Some new
applied_more r held new es n e h so now = ap (λ m. applied_all r (take m es)) (add-one n) ∙ sym (more_at r es n e h) ∙ ap (λ o. option_and_then (λ s. applied s e) o) so ∙ now
