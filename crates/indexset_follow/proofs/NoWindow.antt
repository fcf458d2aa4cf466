-- A follower without a window applies only the awaited event.
use Rattle.std.proofs.Common.{◌≡◌, ◌≢◌, ◌+◌, ◌<◌, ◌==◌, Bool, true, false, if◌then◌else◌, List, [], ◌∷◌, Option, None, Some, option_map, refl, ap, sym, ◌∙◌, arith}
use Rattle.std.below.core.specs.declared.int.u64.TheConstants.{MAX}
use Rattle.std.proofs.lemmas.Bool.{eq-eqb, eqb-false, le-ltb, lt-leb, lt-ltb, ne_eqb}
use Rattle.std.specs.Prelude.{unwrap_or}
use Rattle.indexset_core.specs.Pairs.{by_key, pair}
use Rattle.indexset_core.specs.declared.pair.Pair.{Pair}
use Rattle.indexset_core.specs.declared.refusal.Refusal.{Refusal}
use Rattle.indexset_events.specs.Replay.{event_number, step, unassigned}
use Rattle.indexset_replica.specs.Delivery.{delivered}
use Rattle.indexset_replica.specs.Replica.{apply_refusal}
use Rattle.indexset_replica.proofs.CallerLemmas.{misfit_refused, step_fits}
use Rattle.indexset_follow.specs.Copy.{Copy, copy}
use Rattle.indexset_follow.specs.Early.{caught_up, copy_after, taken}
use Rattle.indexset_follow.specs.EventLine.{Event}
use Rattle.indexset_follow.specs.Follow.{State, event_taken}
use Rattle.indexset_follow.specs.declared.reason.Reason.TheVariants.{Refused}
use Rattle.indexset_follow.specs.declared.reply.Reply.TheVariants as reply
use Rattle.indexset_follow.proofs.Ahead.{equals, higher, lower, side}
use Rattle.std.specs.declared.cmp.Ordering.{Ordering}

none_some_apart : {X : Type 0} (o : Option X) (x : X) → o ≡ None → o ≡ Some x → ⊥
none_some_apart None x is other = absurd (cc)
none_some_apart (Some y) x is other = absurd (cc)

module _ {T : Type 0} (cmp : T → T → Ordering) where
  -- a refused event changes nothing
  unchanged : (c : Copy T) (e : Event T) (cause : Refusal) → event_number e ≡ c.next → apply_refusal (by_key cmp) c.nodes c.next e ≡ Some cause → copy_after cmp c e ≡ c
  unfolding delivered
  unchanged c e cause here refused = rw (eq-eqb (event_number e) c.next here) (at (c.next == MAX) refl (step (by_key cmp) c.nodes e) refl)
    where
      at : (b : Bool) → (c.next == MAX) ≡ b → (o : Option (List (List (Pair T T)))) → step (by_key cmp) c.nodes e ≡ o
          → unwrap_or (if b then None else option_map {U = Copy T} (λ ns. copy ns (c.next + 1)) o) c ≡ c
      at true last o made = refl
      at false more None made = refl
      at false more (Some after) made =
          let none = misfit_refused (by_key cmp) c.nodes c.next e here (eqb-false c.next MAX more) ∙ step_fits (by_key cmp) c.nodes (unassigned e) after made in
          absurd (none_some_apart (apply_refusal (by_key cmp) c.nodes c.next e) cause none refused)

  -- another event changes nothing
  other_unchanged : (c : Copy T) (e : Event T) → event_number e ≢ c.next → c ≡ copy_after cmp c e
  unfolding delivered
  other_unchanged c e other = rw (ne_eqb (event_number e) c.next other) refl

  module _ (r : State T) (e : Event T) where
    -- the case of the awaited event
    module _ (here : event_number e ≡ r.held.next) (none : r.early ≡ []) where
      awaited : event_taken cmp r e ≡ caught_up cmp r.held (pair (event_number e) e ∷ [])
      awaited =
          let chosen : event_taken cmp r e ≡ caught_up cmp r.held (pair (event_number e) e ∷ r.early) = rw (eq-eqb (event_number e) r.held.next here) refl in
          chosen ∙ ap (λ early. caught_up cmp r.held (pair (event_number e) e ∷ early)) none

      pub fitting : apply_refusal (by_key cmp) r.held.nodes r.held.next e ≡ None → event_taken cmp r e ≡ taken (copy_after cmp r.held e) [] (reply.Next (copy_after cmp r.held e).next)
      unfolding caught_up
      fitting fits = awaited ∙ rw (eq-eqb (event_number e) r.held.next here, fits) refl

      refused : (cause : Refusal) → apply_refusal (by_key cmp) r.held.nodes r.held.next e ≡ Some cause → event_taken cmp r e ≡ taken r.held [] (reply.Unfit r.held.next (Refused cause))
      unfolding caught_up
      refused cause is = awaited ∙ rw (eq-eqb (event_number e) r.held.next here, is) refl

      pub taken_alone : ((event_taken cmp r e).early ≡ []) × ((event_taken cmp r e).held ≡ copy_after cmp r.held e)
      taken_alone = by (apply_refusal (by_key cmp) r.held.nodes r.held.next e) refl
        where
          by : (o : Option Refusal) → apply_refusal (by_key cmp) r.held.nodes r.held.next e ≡ o → ((event_taken cmp r e).early ≡ []) × ((event_taken cmp r e).held ≡ copy_after cmp r.held e)
          by None fits = (ap (λ t. t.early) (fitting fits), ap (λ t. t.held) (fitting fits))
          by (Some cause) is = (ap (λ t. t.early) (refused cause is), ap (λ t. t.held) (refused cause is) ∙ sym (unchanged r.held e cause here is))

    module _ (zero_window : r.window ≡ 0) where
      pub gap_told : r.held.next < event_number e → event_taken cmp r e ≡ taken r.held r.early (reply.Gap r.held.next)
      gap_told lt =
          let other : event_number e ≢ r.held.next = λ eq. omega (arith, lt, eq) in
          let beyond : r.held.next + r.window < event_number e = omega (arith, lt, zero_window) in
          rw (ne_eqb (event_number e) r.held.next other, le-ltb (event_number e) r.held.next (omega (arith, lt)), lt-leb (event_number e) (r.held.next + r.window) beyond) refl

      pub alone : r.early ≡ [] → ((event_taken cmp r e).early ≡ []) × ((event_taken cmp r e).held ≡ copy_after cmp r.held e)
      alone none = elim (side (event_number e) r.held.next) [
        | equals here ↦ taken_alone here none
        | lower lt ↦
            let other : event_number e ≢ r.held.next = λ eq. omega (arith, lt, eq) in
            let had : event_taken cmp r e ≡ taken r.held r.early (reply.Had r.held.next) = rw (ne_eqb (event_number e) r.held.next other, lt-ltb (event_number e) r.held.next lt) refl in
            (ap (λ t. t.early) had ∙ none, ap (λ t. t.held) had ∙ other_unchanged r.held e other)
        | higher lt ↦
            let other : event_number e ≢ r.held.next = λ eq. omega (arith, lt, eq) in
            (ap (λ t. t.early) (gap_told lt) ∙ none, ap (λ t. t.held) (gap_told lt) ∙ other_unchanged r.held e other)
      ]
