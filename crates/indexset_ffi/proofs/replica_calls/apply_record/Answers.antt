use Rattle.std.proofs.Common.{◌≡◌, ◌≤◌, unwrap_or, refl, ap, sym, ◌∙◌, arith}
use Rattle.indexset_events.specs.Replay.{event_number}
use Rattle.indexset_ffi.specs.declared.status.TheConstants.{MEMORY}
use Rattle.indexset_ffi.specs.Replicas.{status_of}
use Rattle.indexset_ffi.proofs.ReplicaLemmas.{before_applied, before_refused, kind_unfit, not_none, turn_applied, turn_cause, turn_refused}
use Rattle.indexset_ffi.proofs.replica_calls.apply_record.Goals as goal

pub returns-in_default-clause-refusal : goal.returns-in_default-clause-refusal
returns-in_default-clause-refusal c other = ap (λ o. unwrap_or o MEMORY) (sym (kind_unfit c.args.replica.now c.args.event.now (sym c.in_default.ensures)))

pub returns-then-inner-next-clause-ok : goal.returns-then-inner-next-clause-ok
returns-then-inner-next-clause-ok c at =
    let change = c.in-Some.change in
    let number : c.inner.result ≡ event_number change = c.inner.ensures ∙ ap (λ i. i.0) c.id.ensures in
    before_applied c.args.replica.now c.args.event.now change (sym c.in-Some.ensures) (omega (arith, number, c.if-inner-next.true, c.next.ensures))

pub returns-then-inner-next-clause-refusal : goal.returns-then-inner-next-clause-refusal
returns-then-inner-next-clause-refusal c other =
    let change = c.in-Some.change in
    let number : c.inner.result ≡ event_number change = c.inner.ensures ∙ ap (λ i. i.0) c.id.ensures in
    ap (λ o. unwrap_or o MEMORY) (sym (before_refused c.args.replica.now c.args.event.now change (sym c.in-Some.ensures) (omega (arith, number, c.if-inner-next.true, c.next.ensures))))

pub returns-in-Ok-clause-ok : goal.returns-in-Ok-clause-ok
returns-in-Ok-clause-ok c at =
    let change = c.in-Some.change in let r = c.args.replica.now in
    let number : c.inner.result ≡ event_number change = c.inner.ensures ∙ ap (λ i. i.0) c.id.ensures in
    turn_applied r c.args.event.now change (sym c.in-Some.ensures) c.apply.new.self c.in-Ok.ensures.fits
    (c.in-Ok.ensures.step (λ x y h. λ i. record { key = h.0 i; value = h.1 i })) c.in-Ok.ensures.next

pub returns-in-Ok-clause-fits : goal.returns-in-Ok-clause-fits
returns-in-Ok-clause-fits c at =
    let change = c.in-Some.change in let r = c.args.replica.now in
    let number : c.inner.result ≡ event_number change = c.inner.ensures ∙ ap (λ i. i.0) c.id.ensures in
    let turn : r.next ≤ event_number change = omega (arith, number, c.if-inner-next.false, c.next.ensures) in
    rw (turn_refused r c.args.event.now change (sym c.in-Some.ensures) turn, c.in-Ok.ensures.fits) refl

pub returns-in-Err-clause-refusal : goal.returns-in-Err-clause-refusal
returns-in-Err-clause-refusal c other =
    let change = c.in-Some.change in let r = c.args.replica.now in
    let number : c.inner.result ≡ event_number change = c.inner.ensures ∙ ap (λ i. i.0) c.id.ensures in
    let turn : r.next ≤ event_number change = omega (arith, number, c.if-inner-next.false, c.next.ensures) in
    c.status_of.ensures ∙ ap status_of c.in-Err.ensures.refusal ∙ sym (turn_cause r c.args.event.now change (sym c.in-Some.ensures) turn)

pub returns-in-Err-clause-some : goal.returns-in-Err-clause-some
returns-in-Err-clause-some c h = not_none c.in-Err.cause (sym c.status_of.ensures ∙ h)
