use Rattle.std.proofs.Common.{◌==◌, not, arith}
use Rattle.indexset_core.specs.Parted.{comes_first}
use Rattle.indexset_core.proofs.DigitsLemmas.{digits-left, digits-right}
use Rattle.indexset_core.proofs.PartedLemmas.{narrowed_left, narrowed_met, narrowed_right, front-comes_first}
use Rattle.indexset_core.proofs.search.front_len.Goals as goal

pub loop-low-preserved-then-comes_first : goal.loop-low-preserved-then-comes_first
loop-low-preserved-then-comes_first g c =
    let at = c.loop-low in let or_equal = not (g.row.OR_EQUAL == 0) in
    record {
      narrowed =
          narrowed_right (comes_first or_equal) (front-comes_first or_equal) (g.P.Probe.answer c.args.probe.now)
          c.args.items.now c.requires at.low at.high (omega arith) at.invariant.narrowed _ c.index-items-middle.is cc;
      fixed = cc;
      comparisons = omega (arith, digits-right at.low at.high (omega arith));
    }

pub loop-low-preserved : goal.loop-low-preserved
loop-low-preserved g c =
    let at = c.loop-low in let or_equal = not (g.row.OR_EQUAL == 0) in
    record {
      narrowed =
          narrowed_left (comes_first or_equal) (front-comes_first or_equal) (g.P.Probe.answer c.args.probe.now)
          c.args.items.now c.requires at.low at.high (omega arith) at.invariant.narrowed _ c.index-items-middle.is cc;
      fixed = cc;
      comparisons = omega (arith, digits-left at.low at.high (omega arith));
    }

pub returns-clause-count : goal.returns-clause-count
returns-clause-count g c =
    let or_equal = not (g.row.OR_EQUAL == 0) in
    narrowed_met (λ x. comes_first or_equal (g.P.Probe.answer c.args.probe.now x)) c.args.items.now c.loop-low.low c.loop-low.high (omega arith) c.loop-low.invariant.narrowed
