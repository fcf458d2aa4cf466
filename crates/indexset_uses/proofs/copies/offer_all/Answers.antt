use Rattle.std.proofs.Common.{◌≡◌, [], ◌∷◌, ◌+◌, ◌++◌, map, take, add-one, ap, sym, subst, arith, ◌∙◌}
use Rattle.std.proofs.Math.Seq.{take-suc}
use Rattle.std.proofs.lemmas.List.{take_all}
use Rattle.std.proofs.lemmas.Option.{same_Some}
use Rattle.indexset.specs.Words.{event_number, IsDeliveredUpTo, IsOffered, IsPrefix}
use Rattle.indexset_uses.proofs.copies.offer_all.Goals as goal

pub loop-event-preserved : goal.loop-event-preserved
loop-event-preserved g c =
    let cmp = g.T.Ord.cmp in
    let C = g.T.Clone.is_clone in
    let events = c.args.arriving.now in
    let i = c.loop-event.event-index in
    let before = take i events in
    let one = c.event-item.result ∷ [] in
    let more : take (i + 1) events ≡ before ++ one =
    rw (add-one, take-suc events i c.event-item.result c.loop-event-test.true)
    (ap (λ e. before ++ (e ∷ [])) (sym c.event-item.is)) in
    let fold = c.follow_is_a_fold_of_offers.ensures in
    let last = (fold.one c.loop-event.copy c.offer.new.self c.event-item.result).1 c.in_ok-offer.ensures.cloned in
    subst (λ es. IsOffered cmp C c.args.copy.now es c.offer.new.self) (sym more)
    ((fold.parts c.args.copy.now c.offer.new.self before one).1 (c.loop-event.copy, c.loop-event.invariant, last))

pub returns : goal.returns
returns g c = λ same s ns log feed at of.
    let events = c.args.arriving.now in
    let all : take c.loop-event.event-index events ≡ events = take_all c.loop-event.event-index events (omega arith) in
    let made = c.offers_of_identical_clones.ensures same c.args.copy.now c.loop-event.copy events (rw all at c.loop-event.invariant) in
    let law = c.offers_leave_a_prefix.ensures s ns log events c.args.copy.now feed at of in
    let end : law.0 ≡ c.loop-event.copy = same_Some law.0 c.loop-event.copy (sym law.1 ∙ made) in
    subst (λ r. IsPrefix g.T.Ord.cmp s ns log r × ((m : _) → IsDeliveredUpTo c.args.copy.now.next (map event_number events) m → r.next ≡ m)) end (law.2, law.3)
