use Rattle.std.proofs.Common.{◌≡◌, ◌<◌, ◌≤◌, suc, ◌+◌, get_or, take, ap, sym, subst, refl, ◌∙◌, arith, length}
use Rattle.std.specs.List.{Contains}
use Rattle.std.proofs.lemmas.List.{take_all}
use Rattle.std.proofs.lemmas.List.Elements.{All-take}
use Rattle.std.proofs.lemmas.Option.{slice_get-get_or, slice_get_read}
use Rattle.std.proofs.lemmas.Result.{err_from_is_err_and}
use Rattle.indexset_replica.specs.Delivery.{events_at, offered, CopiesPrefix, HasStopped, IsDelivered, IsOffered, IsPrefix}
use Rattle.indexset_replica.proofs.CloneLemmas.{offered_same}
use Rattle.indexset_replica.proofs.CopyDeliveryLemmas.{alike_itself}
use Rattle.indexset_replica.proofs.DeliveryLemmas.{begun, read_at}
use Rattle.indexset_replica.proofs.OfferLemmas.{contained, delivered_after, get-events_at, offered_on, prefix_after, take-events_at}
use Rattle.indexset_replica.proofs.PrefixLemmas.{copied_prefix, memory_alone}
use Rattle.indexset_replica.proofs.Replica.follow.Goals as goal

pub loop-place-preserved : goal.loop-place-preserved
loop-place-preserved g c =
    let order = c.args.order.now in
    let events = c.args.events.now in
    let i = c.loop-place.place-index in
    let inside : i < length order = omega arith in
    let p = get_or order i 0 in
    let told = slice_get_read events (length events) p c.index-events-place.result refl (c.requires.inside i 0 inside) c.index-events-place.is in
    let event = get-events_at events i p order c.requires.inside (slice_get-get_or order i 0 inside) ∙ told in
    let next : i + 1 ≡ suc i = omega arith in
    subst (λ n. IsOffered g.T.Ord.cmp g.T.Clone.is_clone c.args.self.now (take n (events_at events order)) c.offer.new.self) (sym next)
    (offered_on g.T.Ord.cmp g.T.Clone.is_clone c.args.self.now c.loop-place.self c.offer.new.self
    c.index-events-place.result (events_at events order) i event c.loop-place.invariant c.in_ok-offer.ensures.cloned)

pub returns-clause-offered : goal.returns-clause-offered
returns-clause-offered g c =
    let order = c.args.order.now in
    let events = c.args.events.now in
    let i = c.loop-place.place-index in
    let all : take i order ≡ order = take_all i order (omega arith) in
    let whole : take i (events_at events order) ≡ events_at events order =
    sym (take-events_at events i order c.requires.inside) ∙ ap (events_at events) all in
    rw whole at c.loop-place.invariant

pub returns-clause-delivery : goal.returns-clause-delivery
returns-clause-delivery g c = λ same s j ns feed at.
    let done = offered_same g.T.Ord.cmp g.T.Clone.is_clone same c.args.self.now c.loop-place.self _ (returns-clause-offered g c) in
    delivered_after g.T.Ord.cmp s ns c.args.events.now feed c.args.order.now j c.args.self.now c.loop-place.self c.requires.inside at done

pub returns-in_err-offer-clause-partly : goal.returns-in_err-offer-clause-partly
returns-in_err-offer-clause-partly g c = λ same s j ns feed at.
    let cmp = g.T.Ord.cmp in
    let order = c.args.order.now in
    let events = c.args.events.now in
    let i = c.loop-place.place-index in
    let most : i ≤ length order = omega arith in
    let parts = take-events_at events i order c.requires.inside in
    let done = offered_same cmp g.T.Clone.is_clone same c.args.self.now c.loop-place.self _ c.loop-place.invariant in
    let part =
    delivered_after cmp s ns events feed (take i order) j c.args.self.now c.loop-place.self
    (All-take (λ p. p < length events) i order c.requires.inside) at (ap (offered cmp c.args.self.now) parts ∙ done) in
    let cause = err_from_is_err_and c.from_residual.result c.from_residual.ensures.1 in
    rw cause.1 (i, most, subst (λ r. IsDelivered cmp s ns events j (take i order) r) (sym c.in_err-offer.ensures.unchanged) part)

pub returns-in_err-offer-clause-stopped : goal.returns-in_err-offer-clause-stopped
returns-in_err-offer-clause-stopped g c =
    let order = c.args.order.now in
    let events = c.args.events.now in
    let i = c.loop-place.place-index in
    let inside : i < length order = omega arith in
    let p = get_or order i 0 in
    let told = slice_get_read events (length events) p c.index-events-place.result refl (c.requires.inside i 0 inside) c.index-events-place.is in
    let event = get-events_at events i p order c.requires.inside (slice_get-get_or order i 0 inside) ∙ told in
    let cause = err_from_is_err_and c.from_residual.result c.from_residual.ensures.1 in
    rw cause.1 (subst (HasStopped g.T.Ord.cmp g.T.Clone.is_clone c.args.self.now (events_at events order) _) (sym c.in_err-offer.ensures.unchanged)
    (record { count = i; before = c.loop-place.invariant; at = rw event (c.in_err-offer.ensures.refusal.0, cause.2 ∙ c.in_err-offer.ensures.refusal.1) }))

pub returns-in_err-offer-clause-memory_alone : goal.returns-in_err-offer-clause-memory_alone
returns-in_err-offer-clause-memory_alone g c = λ s j ns feed at.
    let cmp = g.T.Ord.cmp in
    let C = g.T.Clone.is_clone in
    let order = c.args.order.now in
    let events = c.args.events.now in
    let i = c.loop-place.place-index in
    let inside : i < length order = omega arith in
    let p = get_or order i 0 in
    let told = slice_get_read events (length events) p c.index-events-place.result refl (c.requires.inside i 0 inside) c.index-events-place.is in
    let read = read_at events p c.index-events-place.result told in
    let before : CopiesPrefix cmp C s ns events c.args.self.now = (c.args.self.now, begun cmp s ns events feed j c.args.self.now at, alike_itself cmp g.met.T.Ord.total C c.args.self.now) in
    let here =
    copied_prefix cmp s ns events feed g.met.T.Ord.total C (take i (events_at events order)) c.args.self.now
    c.loop-place.self (All-take (Contains events) i (events_at events order) (contained events order)) before c.loop-place.invariant in
    let cause = err_from_is_err_and c.from_residual.result c.from_residual.ensures.1 in
    rw cause.1 (cause.2 ∙ memory_alone cmp s ns events feed g.met.T.Ord.total C c.loop-place.self c.index-events-place.result _ here (p, read.0, read.1) c.in_err-offer.ensures.refusal)

-- from a prefix to a longer one
pub returns-clause-prefix : goal.returns-clause-prefix
returns-clause-prefix g c = λ same s ns feed at.
    let cmp = g.T.Ord.cmp in
    let events = c.args.events.now in
    let done = offered_same cmp g.T.Clone.is_clone same c.args.self.now c.loop-place.self _ (returns-clause-offered g c) in
    (prefix_after cmp s ns events feed (events_at events c.args.order.now) c.args.self.now c.loop-place.self
    (contained events c.args.order.now) at done).0

pub returns-in_err-offer-clause-prefix : goal.returns-in_err-offer-clause-prefix
returns-in_err-offer-clause-prefix g c = λ same s ns feed at.
    let cmp = g.T.Ord.cmp in
    let events = c.args.events.now in
    let order = c.args.order.now in
    let i = c.loop-place.place-index in
    let done = offered_same cmp g.T.Clone.is_clone same c.args.self.now c.loop-place.self _ c.loop-place.invariant in
    subst (IsPrefix cmp s ns events) (sym c.in_err-offer.ensures.unchanged)
    (prefix_after cmp s ns events feed (take i (events_at events order)) c.args.self.now c.loop-place.self
    (All-take (Contains events) i (events_at events order) (contained events order)) at done).0
