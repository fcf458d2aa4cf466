use Rattle.std.proofs.Common.{◌≡◌, ap, refl, inl, ◌∙◌, arith, subst, OnOk}
use Rattle.indexset_events.specs.Replay.{event_number}
use Rattle.indexset_replica.specs.Delivery.{IsDelivery}
use Rattle.indexset_replica.proofs.CloneLemmas.{delivered_same, delivery_where_ok}
use Rattle.indexset_replica.proofs.Replica.offer.Goals as goal

-- an event of another number changes nothing
pub returns-then-number-self-clause-cloned : goal.returns-then-number-self-clause-cloned
returns-then-number-self-clause-cloned g c =
    let next = ap (λ t. t.next) c.self.view_is in
    let number : c.inner-number.result ≡ event_number c.args.event.now = c.inner-number.ensures ∙ ap (λ i. i.0) c.id.ensures in
    let low = c.if-number-self.true in
    inl ((λ same. omega (arith, same, next, number, low)), refl)

pub returns-then-number-self-clause-delivered : goal.returns-then-number-self-clause-delivered
returns-then-number-self-clause-delivered g c = λ same.
    delivered_same g.T.Ord.cmp g.T.Clone.is_clone same c.args.self.now c.args.self.now c.args.event.now
    (returns-then-number-self-clause-cloned g c)

pub returns-then-number-self-2-clause-cloned : goal.returns-then-number-self-2-clause-cloned
returns-then-number-self-2-clause-cloned g c =
    let next = ap (λ t. t.next) c.self.view_is in
    let number : c.inner-number.result ≡ event_number c.args.event.now = c.inner-number.ensures ∙ ap (λ i. i.0) c.id.ensures in
    let high = c.if-number-self-2.true in
    inl ((λ same. omega (arith, same, next, number, high)), refl)

pub returns-then-number-self-2-clause-delivered : goal.returns-then-number-self-2-clause-delivered
returns-then-number-self-2-clause-delivered g c = λ same.
    delivered_same g.T.Ord.cmp g.T.Clone.is_clone same c.args.self.now c.args.self.now c.args.event.now
    (returns-then-number-self-2-clause-cloned g c)

pub returns-clause-cloned : goal.returns-clause-cloned
returns-clause-cloned g c =
    let next = ap (λ t. t.next) c.self.view_is in
    let number : c.inner-number.result ≡ event_number c.args.event.now = c.inner-number.ensures ∙ ap (λ i. i.0) c.id.ensures in
    let turn : event_number c.args.event.now ≡ c.args.self.now.next = omega (arith, next, number, c.if-number-self.false, c.if-number-self-2.false) in
    subst (λ o. OnOk o (IsDelivery g.T.Ord.cmp g.T.Clone.is_clone c.args.self.now c.args.event.now c.apply.new.self)) c.in_ok-apply.was
    (delivery_where_ok g.T.Ord.cmp g.T.Clone.is_clone c.apply.result c.args.self.now c.apply.new.self c.args.event.now
    turn c.apply.ensures.fits c.apply.ensures.next c.apply.ensures.cloned)

pub returns-clause-delivered : goal.returns-clause-delivered
returns-clause-delivered g c = λ same.
    delivered_same g.T.Ord.cmp g.T.Clone.is_clone same c.args.self.now c.apply.new.self c.args.event.now
    (returns-clause-cloned g c)
