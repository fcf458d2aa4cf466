use Rattle.std.proofs.Common.{ap}
use Rattle.indexset_core.proofs.OrderLemmas.{parted_by_item}
use Rattle.indexset_core.proofs.AscendingLemmas.{told_found, told_gap}
use Rattle.indexset_core.proofs.search.find_in.Goals as goal

pub returns-then-found-clause-found : goal.returns-then-found-clause-found
returns-then-found-clause-found g c =
    let cmp = g.T.Ord.cmp in let v = c.args.sought.now in
    rw c.if-found.true at (told_found cmp _ v _ _ (ap (λ p. p.0) c.new.ensures) (parted_by_item cmp g.met.T.Ord.total _ c.requires v) _ c.place_in-index.ensures.count c.place_in-index.ensures.found)

pub returns-else-found-clause-absent : goal.returns-else-found-clause-absent
returns-else-found-clause-absent g c =
    let cmp = g.T.Ord.cmp in let v = c.args.sought.now in
    rw c.if-found.false at (told_gap cmp _ v _ _ (ap (λ p. p.0) c.new.ensures) (parted_by_item cmp g.met.T.Ord.total _ c.requires v) _ c.place_in-index.ensures.count c.place_in-index.ensures.found)
