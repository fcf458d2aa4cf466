use Rattle.std.proofs.Common.{arith}
use Rattle.std.proofs.lemmas.Grind.{common_steps}
use Rattle.indexset.proofs.CallerLemmas.{pair_written}
use Rattle.indexset_uses.proofs.prices.raise.Goals as goal

pub loop-walk-preserved : goal.loop-walk-preserved
loop-walk-preserved c =
    let more = c.loop-walk-test.true in
    let asked = c.has_next.ensures in
    let raised = c.saturating_add.ensures in
    pair_written _ _ _ c.loop-walk.invariant _ _ _ (grind (arith, common_steps)) c.next_pair-price.ensures.value raised
