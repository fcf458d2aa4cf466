use Rattle.indexset_events.proofs.CallerLemmas.{last_end, last_stays}
use Rattle.indexset_log.proofs.set.removal_log.last_but.Goals as goal

pub returns-then-index-last : goal.returns-then-index-last
returns-then-index-last g c =
    λ d.
    last_end c.args.items.now c.args.index c.index-items-last.result d c.requires.index c.requires.two
    c.if-index-last.true (rw c.if-index-last.true c.index-items-last.is)

pub returns-else-index-last : goal.returns-else-index-last
returns-else-index-last g c = λ d. last_stays c.args.items.now c.args.index c.index-items-last-else-index-last.result d c.requires.index c.if-index-last.false c.index-items-last-else-index-last.is
