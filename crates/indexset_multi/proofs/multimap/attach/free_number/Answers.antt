use Rattle.std.proofs.Common.{◌<◌, length, arith}
use Rattle.indexset_multi.proofs.FreeNumberLemmas.{free_more, greatest_more}
use Rattle.indexset_multi.proofs.multimap.attach.free_number.Goals as goal

pub loop-pair-preserved : goal.loop-pair-preserved
loop-pair-preserved g c =
    let pairs = c.args.pairs.now in
    let i = c.loop-pair.pair-index in
    let pair = c.pair-item.result in
    let inside : i < length pairs = omega arith in
    let small = c.in_ok-checked_add.ensures.0 in
    let next = c.in_ok-checked_add.ensures.1 in (
      rw (free_more pairs i pair inside c.pair-item.is) (omega (arith, c.max-free.ensures, c.loop-pair.invariant.0, next)),
      greatest_more pairs i pair inside c.pair-item.is (omega (arith, small)) c.loop-pair.invariant.1,
    )
