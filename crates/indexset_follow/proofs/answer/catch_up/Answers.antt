use Rattle.std.proofs.Common.{Some, ◌≡◌, ◌∙◌, ◌∷◌, ap, refl, sym}
use Rattle.indexset_core.specs.Pairs.{pair}
use Rattle.indexset_follow.specs.Early.{caught_up, taken}
use Rattle.indexset_follow.specs.declared.reply.Reply.TheVariants as reply
use Rattle.indexset_follow.proofs.Taking.{first_taken, none_due, pair_identical, refused_reply}
use Rattle.indexset_follow.proofs.answer.catch_up.Goals as goal

pub returns-in-Err-clause-taken : goal.returns-in-Err-clause-taken
returns-in-Err-clause-taken g c =
    let r = c.loop-event.nodes in
    let from : caught_up g.T.Ord.cmp c.args.nodes.now c.args.early.now
    ≡ caught_up g.T.Ord.cmp r (pair r.next c.in-Some.event ∷ c.pop.new.self) =
    c.loop-event.invariant ∙ ap (caught_up g.T.Ord.cmp r) c.in-Some.ensures.first
    ∙ ap (λ n. caught_up g.T.Ord.cmp r (pair n c.in-Some.event ∷ c.pop.new.self)) c.next.ensures in
    refused_reply g.T.Ord.cmp r c.in-Some.event c.pop.new.self
    (caught_up g.T.Ord.cmp c.args.nodes.now c.args.early.now) from c.in-Err.refusal c.in-Err.ensures.refusal
    c.reply_unless_memory.result c.next-in-Err.result
    (c.next-in-Err.ensures ∙ ap (λ n. n.next) c.in-Err.ensures.unchanged) c.reply_unless_memory.ensures.unfit
    c.reply_unless_memory.ensures.reply c.apply.new.self c.in-Err.ensures.unchanged

pub loop-event-preserved-in_default-apply : goal.loop-event-preserved-in_default-apply
loop-event-preserved-in_default-apply g c =
    let ok = c.in_default-apply.ensures in
    first_taken g.T.Ord.cmp c.loop-event.nodes c.apply.new.self c.loop-event.early c.pop.new.self _ c.in-Some.event
    _ c.loop-event.invariant c.in-Some.ensures.first c.next.ensures ok.fits
    (ok.step (pair_identical g.met.T.Key.identical)) ok.next

pub loop-event-preserved-in_default-apply-2 : goal.loop-event-preserved-in_default-apply-2
loop-event-preserved-in_default-apply-2 g c =
    let ok = c.in_default-apply.ensures in
    first_taken g.T.Ord.cmp c.loop-event.nodes c.apply.new.self c.loop-event.early c.pop.new.self _ c.in-Some.event
    _ c.loop-event.invariant c.in-Some.ensures.first c.next.ensures ok.fits
    (ok.step (pair_identical g.met.T.Key.identical)) ok.next

pub loop-event-preserved-in_default-apply-3 : goal.loop-event-preserved-in_default-apply-3
loop-event-preserved-in_default-apply-3 g c =
    let ok = c.in_default-apply.ensures in
    first_taken g.T.Ord.cmp c.loop-event.nodes c.apply.new.self c.loop-event.early c.pop.new.self _ c.in-Some.event
    _ c.loop-event.invariant c.in-Some.ensures.first c.next.ensures ok.fits
    (ok.step (pair_identical g.met.T.Key.identical)) ok.next

pub loop-event-preserved-in_default-apply-4 : goal.loop-event-preserved-in_default-apply-4
loop-event-preserved-in_default-apply-4 g c =
    let ok = c.in_default-apply.ensures in
    first_taken g.T.Ord.cmp c.loop-event.nodes c.apply.new.self c.loop-event.early c.pop.new.self _ c.in-Some.event
    _ c.loop-event.invariant c.in-Some.ensures.first c.next.ensures ok.fits
    (ok.step (pair_identical g.met.T.Key.identical)) ok.next

pub loop-event-preserved-in_default-apply-5 : goal.loop-event-preserved-in_default-apply-5
loop-event-preserved-in_default-apply-5 g c =
    let ok = c.in_default-apply.ensures in
    first_taken g.T.Ord.cmp c.loop-event.nodes c.apply.new.self c.loop-event.early c.pop.new.self _ c.in-Some.event
    _ c.loop-event.invariant c.in-Some.ensures.first c.next.ensures ok.fits
    (ok.step (pair_identical g.met.T.Key.identical)) ok.next

pub loop-event-preserved : goal.loop-event-preserved
loop-event-preserved g c =
    let ok = c.in_default-apply.ensures in
    first_taken g.T.Ord.cmp c.loop-event.nodes c.apply.new.self c.loop-event.early c.pop.new.self _ c.in-Some.event
    _ c.loop-event.invariant c.in-Some.ensures.first c.next.ensures ok.fits
    (ok.step (pair_identical g.met.T.Key.identical)) ok.next

pub returns-clause-taken : goal.returns-clause-taken
returns-clause-taken g c =
    let r = c.loop-event.nodes in
    let none = none_due g.T.Ord.cmp r c.loop-event.early (λ due. c.in_default.ensures.other refl (due ∙ ap Some (sym c.next.ensures))) in
    c.loop-event.invariant ∙ none ∙ (λ i. taken r (sym (c.in_default.ensures.unchanged refl) i) (reply.Next (sym c.next-2.ensures i)))
