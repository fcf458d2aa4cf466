use Rattle.std.proofs.Common.{◌≡◌, ap, sym, refl, ◌∙◌}
use Rattle.std.proofs.lemmas.Result.{err_from_is_err_and}
use Rattle.indexset_events.specs.Replay.{event_number}
use Rattle.indexset_events.proofs.CallerLemmas.{nodes_ruled, ruled_nodes}
use Rattle.indexset_replica.proofs.CloneLemmas.{step_same}
use Rattle.indexset_replica.proofs.StepLemmas.{edited_ruled, edited_step, gap_refused, last_refused, misfit_refused}
use Rattle.indexset_replica.proofs.Replica.apply.Goals as goal

pub returns-then-inner-self-clause-refusal : goal.returns-then-inner-self-clause-refusal
returns-then-inner-self-clause-refusal g c =
    let next = ap (λ t. t.next) c.self.view_is in
    let number : c.inner.result ≡ event_number c.args.event.now = c.inner.ensures ∙ ap (λ i. i.0) c.id.ensures in
    rw (gap_refused g.T.Ord.cmp c.args.self.now.nodes c.args.self.now.next c.args.event.now (λ same. c.if-inner-self.true (number ∙ (same ∙ sym next)))) refl

pub returns-then-self-clause-refusal : goal.returns-then-self-clause-refusal
returns-then-self-clause-refusal g c =
    let next = ap (λ t. t.next) c.self.view_is in
    let number : c.inner.result ≡ event_number c.args.event.now = c.inner.ensures ∙ ap (λ i. i.0) c.id.ensures in
    rw (last_refused g.T.Ord.cmp c.args.self.now.nodes c.args.self.now.next c.args.event.now (sym number ∙ (c.if-inner-self.false ∙ next)) (sym next ∙ c.if-self.true)) refl

pub returns-in_err-carry_out-clause-refusal : goal.returns-in_err-carry_out-clause-refusal
returns-in_err-carry_out-clause-refusal g c =
    let next = ap (λ t. t.next) c.self.view_is in
    let nodes = ap (λ t. t.nodes) c.self.view_is in
    let number : c.inner.result ≡ event_number c.args.event.now = c.inner.ensures ∙ ap (λ i. i.0) c.id.ensures in
    let p = err_from_is_err_and c.from_residual.result c.from_residual.ensures.1 in
    let told = rw nodes at c.in_err-carry_out.ensures.refusal in
    rw (p.1, misfit_refused g.T.Ord.cmp c.args.self.now.nodes c.args.self.now.next c.args.event.now (sym number ∙ (c.if-inner-self.false ∙ next)) (λ last. c.if-self.false (next ∙ last))) (p.2 ∙ told)

pub invariant_of-self-2 : goal.invariant_of-self-2
invariant_of-self-2 g c =
    let cmp = g.T.Ord.cmp in
    record {
      nodes = ruled_nodes cmp _ (edited_ruled cmp g.met.T.Ord.total _ _ _ (nodes_ruled cmp _ c.self.invariant.nodes) c.in_ok-carry_out.ensures.done.done);
      index = c.carry_out.ensures.lengths;
    }

pub returns-clause-cloned : goal.returns-clause-cloned
returns-clause-cloned g c =
    let cmp = g.T.Ord.cmp in
    let nodes = ap (λ t. t.nodes) c.self.view_is in
    let d = c.in_ok-carry_out.ensures.done in
    rw (sym nodes) (record { event = d.event; adds = d.adds; made = edited_step cmp g.met.T.Ord.total _ _ _ (nodes_ruled cmp _ c.self.invariant.nodes) d.done })

pub returns-clause-step : goal.returns-clause-step
returns-clause-step g c h =
    let cmp = g.T.Ord.cmp in
    let nodes = ap (λ t. t.nodes) c.self.view_is in
    let d = c.in_ok-carry_out.ensures.done in
    rw (sym nodes)
    (step_same cmp g.T.Clone.is_clone h _ _ _
    (record {
      event = d.event;
      adds = d.adds;
      made = edited_step cmp g.met.T.Ord.total _ _ _ (nodes_ruled cmp _ c.self.invariant.nodes) d.done;
    }))

pub returns-clause-fits : goal.returns-clause-fits
returns-clause-fits g c =
    let next = ap (λ t. t.next) c.self.view_is in
    let nodes = ap (λ t. t.nodes) c.self.view_is in
    let number : c.inner.result ≡ event_number c.args.event.now = c.inner.ensures ∙ ap (λ i. i.0) c.id.ensures in
    let fits = rw nodes at c.in_ok-carry_out.ensures.done.fits in
    misfit_refused g.T.Ord.cmp c.args.self.now.nodes c.args.self.now.next c.args.event.now (sym number ∙ (c.if-inner-self.false ∙ next)) (λ last. c.if-self.false (next ∙ last)) ∙ fits
