use Rattle.std.proofs.Common.{◌≡◌, ◌+◌, ◌/◌, ◌%◌, cond, is_lt, ◌∙◌, arith}
use Rattle.std.specs.Ordering.{is_eq}
use Rattle.indexset_core.proofs.DigitsLemmas.{digits-half}
use Rattle.indexset_core.proofs.NearbySearchLemmas.{equal_half, equal_met}
use Rattle.indexset_core.proofs.PartedLemmas.{narrowed_half, narrowed_met, front-is_lt}
use Rattle.indexset_core.proofs.search.first_not_less_near.Goals as goal

pub loop-left-preserved : goal.loop-left-preserved
loop-left-preserved g c =
    let at = c.loop-left in let answer = g.P.Probe.answer c.args.probe.now in
    let goes : c.choose-low.result ≡ cond (is_lt (answer c.index-items-middle.result)) (at.low + at.left / 2 + at.left % 2) at.low = cc in
    let kept : c.choose-equal.result ≡ cond (is_eq (answer c.index-items-middle.result)) (at.low + at.left / 2) at.equal = cc in
    let now = at.invariant.narrowed in
    record {
      narrowed = narrowed_half is_lt front-is_lt answer c.args.items.now c.requires at.low at.left (omega arith) now _ c.index-items-middle.is _ goes;
      equal = equal_half answer c.args.items.now c.requires at.low at.left at.equal (omega arith) now.within at.invariant.equal _ c.index-items-middle.is _ _ goes kept;
      fixed = cc;
      comparisons = omega (arith, digits-half at.left (omega arith));
    }

pub returns-clause-count : goal.returns-clause-count
returns-clause-count g c =
    let at = c.loop-left in let answer = g.P.Probe.answer c.args.probe.now in
    let done : at.low + at.left ≡ at.low = omega arith in
    let met = equal_met answer c.args.items.now at.low at.equal (rw done at at.invariant.equal) in
    c.choose.ensures ∙ (met ∙ narrowed_met (λ x. is_lt (answer x)) c.args.items.now at.low _ (omega arith) at.invariant.narrowed)

pub returns-clause-found : goal.returns-clause-found
returns-clause-found g c =
    let at = c.loop-left in let answer = g.P.Probe.answer c.args.probe.now in
    let done : at.low + at.left ≡ at.low = omega arith in
    let equal = rw done at at.invariant.equal in
    rw (c.choose.ensures ∙ equal_met answer c.args.items.now at.low at.equal equal) equal.told
