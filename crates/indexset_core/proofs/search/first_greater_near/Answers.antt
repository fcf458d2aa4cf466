use Rattle.std.proofs.Common.{◌≡◌, ◌+◌, ◌/◌, ◌%◌, cond, ◌∙◌, arith}
use Rattle.std.specs.Ordering.{is_eq, is_le}
use Rattle.indexset_core.proofs.DigitsLemmas.{digits-half}
use Rattle.indexset_core.proofs.NearbySearchLemmas.{past_half, past_met}
use Rattle.indexset_core.proofs.PartedLemmas.{narrowed_half, narrowed_met, front-is_le}
use Rattle.indexset_core.proofs.search.first_greater_near.Goals as goal

pub loop-left-preserved : goal.loop-left-preserved
loop-left-preserved g c =
    let at = c.loop-left in let answer = g.P.Probe.answer c.args.probe.now in
    let goes : c.choose-low.result ≡ cond (is_le (answer c.index-items-middle.result)) (at.low + at.left / 2 + at.left % 2) at.low = cc in
    let kept : c.choose-past.result ≡ cond (is_eq (answer c.index-items-middle.result)) (at.low + at.left / 2 + 1) at.past = cc in
    let now = at.invariant.narrowed in
    record {
      narrowed = narrowed_half is_le front-is_le answer c.args.items.now c.requires at.low at.left (omega arith) now _ c.index-items-middle.is _ goes;
      past = past_half answer c.args.items.now c.requires at.low at.left at.past (omega arith) now.within at.invariant.past _ c.index-items-middle.is _ _ goes kept;
      fixed = cc;
      comparisons = omega (arith, digits-half at.left (omega arith));
    }

pub returns-clause-count : goal.returns-clause-count
returns-clause-count g c =
    let at = c.loop-left in let answer = g.P.Probe.answer c.args.probe.now in
    let now = at.invariant.narrowed in
    let met = past_met answer c.args.items.now at.low (at.low + at.left) at.past (omega arith) now at.invariant.past in
    c.choose.ensures ∙ (met ∙ narrowed_met (λ x. is_le (answer x)) c.args.items.now at.low _ (omega arith) now)
