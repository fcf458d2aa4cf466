use Rattle.std.proofs.Common.{◌≡◌, ◌+◌, ◌/◌, suc, arith}
use Rattle.indexset_core.specs.Digits.{digits}
use Rattle.indexset_core.proofs.CallerLemmas.{digits-most}
use Rattle.indexset_index.specs.Fenwick.{cell_of}
use Rattle.indexset_index.proofs.FindLemmas.{IsAt, power-digits, starts, halved, summed, passed, stopped, outside}
use Rattle.indexset_index.proofs.fenwick.sums.find_in.Goals.{then-step-count+then-sum-position, then-step-count+else-sum-position, else-step-count}
use Rattle.indexset_index.proofs.fenwick.sums.find_in.Goals as goal

pub loop-step-init : goal.loop-step-init
loop-step-init g c =
    let count = c.count-count.result in
    let step = c.highest_one-step.result in
    let same : digits step ≡ digits count = power-digits count step (omega arith) in
    record {
      place = rw same (starts g.lengths count c.args.position (digits count) (digits-most count));
      power = rw same (omega arith);
      fixed = cc;
      stays = cc;
      comparisons = omega arith;
    }

pub overflow_add-sum : goal.overflow_add-sum
overflow_add-sum g c =
    let step = c.loop-step.step in
    let node = c.loop-step.node in
    let half = halved step (omega arith) c.loop-step.invariant.power in
    let cell : c.read.result ≡ cell_of g.lengths (node + step) = cc (c.requires.1.each (node + step) (omega arith) (omega arith)) in
    omega (arith, summed g.lengths c.count-count.result c.args.position step (digits (step / 2)) node c.loop-step.before half.1 (rw half.0 at c.loop-step.invariant.place) c.read.result cell)

pub loop-step-preserved : goal.loop-step-preserved
loop-step-preserved g c =
    let step = c.loop-step.step in
    let node = c.loop-step.node in
    let before = c.loop-step.before in
    let count = c.count-count.result in
    let half = halved step (omega arith) c.loop-step.invariant.power in
    let at : IsAt g.lengths count c.args.position (suc (digits (step / 2))) node before = rw half.0 at c.loop-step.invariant.place in
    elim c.if-step-count.branch [
      | then-step-count+then-sum-position w ↦
          let cell : w.read.result ≡ cell_of g.lengths (node + step) = cc (c.requires.1.each (node + step) (omega arith) (omega arith)) in
          record {
            place = rw (w.node-is, w.before-is) (passed g.lengths count c.args.position step (digits (step / 2)) node before half.1 at w.read.result cell (omega arith) (omega arith));
            power = half.2;
            fixed = cc;
            stays = cc;
            comparisons = rw w.cells-is (omega arith);
          }
      | then-step-count+else-sum-position w ↦
          let cell : w.read.result ≡ cell_of g.lengths (node + step) = cc (c.requires.1.each (node + step) (omega arith) (omega arith)) in
          record {
            place = rw (w.node-is, w.before-is) (stopped g.lengths count c.args.position step (digits (step / 2)) node before half.1 at w.read.result cell (omega arith));
            power = half.2;
            fixed = cc;
            stays = cc;
            comparisons = rw w.cells-is (omega arith);
          }
      | else-step-count w ↦
          record {
            place = rw (w.node-is, w.before-is) (outside g.lengths count c.args.position step (digits (step / 2)) node before half.1 at (omega arith));
            power = half.2;
            fixed = cc;
            stays = cc;
            comparisons = rw w.cells-is (omega arith);
          }
    ]
