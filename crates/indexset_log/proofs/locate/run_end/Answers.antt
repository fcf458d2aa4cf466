use Rattle.std.proofs.Common.{◌≡◌, true, false, length, refl, arith}
use Rattle.std.specs.Ordering.{is_gt, is_le}
use Rattle.std.proofs.lemmas.List.Sums.{count_by-le-length}
use Rattle.std.proofs.lemmas.Option.{slice_get_read}
use Rattle.indexset_log.proofs.GallopLemmas.{goes_on, next_inside, stepped_back, stepped_first, stepped_on, stops}
use Rattle.indexset_log.proofs.locate.run_end.Goals.{After-index-items-at}
use Rattle.indexset_log.proofs.locate.run_end.Goals as goal

pub loop-low-init : goal.loop-low-init
loop-low-init g c = record {
  order = omega arith;
  before = c.requires.from;
  past = count_by-le-length (λ x. is_le (g.P.Probe.answer c.args.probe.now x)) c.args.items.now;
  within = omega arith;
  fixed = refl;
  comparisons = stepped_first c.args.from (length c.args.items.now) (g.P.Probe.asked c.args.probe.now);
}

pub loop-low-preserved-then-is_gt : goal.loop-low-preserved-then-is_gt
loop-low-preserved-then-is_gt g c =
    let at = c.loop-low in let inv = at.invariant in
    let len = length c.args.items.now in
    let inside = next_inside c.args.from at.low at.high len (g.P.Probe.asked at.probe) (g.P.Probe.asked c.args.probe.now) inv.order c.loop-low-test.true inv.within inv.comparisons in
    let past : is_gt (g.P.Probe.answer c.args.probe.now c.index-items-at.result) ≡ true = cc in
    record {
      order = inv.order;
      before = inv.before;
      past =
          stops (g.P.Probe.answer c.args.probe.now) c.args.items.now c.requires.parted c.next_step-at.result
          c.index-items-at.result
          (slice_get_read c.args.items.now len c.next_step-at.result c.index-items-at.result refl
          (omega (arith, inside.1, c.next_step-at.ensures, inv.within)) c.index-items-at.is)
          past;
      within = omega (arith, inside.1, c.next_step-at.ensures, inv.within);
      fixed = cc;
      comparisons =
          rw c.place.ensures.counted
          (stepped_back c.args.from at.low at.high len (g.P.Probe.asked at.probe) (g.P.Probe.asked c.args.probe.now)
          inv.order c.loop-low-test.true inv.within inv.comparisons c.next_step-at.result c.next_step-at.ensures);
    }

pub loop-low-preserved : goal.loop-low-preserved
loop-low-preserved g c =
    let at = c.loop-low in let inv = at.invariant in
    let len = length c.args.items.now in
    let inside = next_inside c.args.from at.low at.high len (g.P.Probe.asked at.probe) (g.P.Probe.asked c.args.probe.now) inv.order c.loop-low-test.true inv.within inv.comparisons in
    let passes : is_gt (g.P.Probe.answer c.args.probe.now c.index-items-at.result) ≡ false = cc in
    record {
      order = omega (arith, inside.0, c.next_step-at.ensures, inv.order);
      before =
          goes_on (g.P.Probe.answer c.args.probe.now) c.args.items.now c.requires.parted c.next_step-at.result
          c.index-items-at.result
          (slice_get_read c.args.items.now len c.next_step-at.result c.index-items-at.result refl
          (omega (arith, inside.1, c.next_step-at.ensures, inv.within)) c.index-items-at.is)
          passes;
      past = inv.past;
      within = inv.within;
      fixed = cc;
      comparisons =
          rw c.place.ensures.counted
          (stepped_on c.args.from at.low at.high len (g.P.Probe.asked at.probe) (g.P.Probe.asked c.args.probe.now)
          inv.order c.loop-low-test.true inv.within inv.comparisons c.next_step-at.result c.next_step-at.ensures);
    }
