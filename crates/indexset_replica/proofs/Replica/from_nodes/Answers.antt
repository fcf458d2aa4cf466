use Rattle.std.proofs.Common.{arith}
use Rattle.std.below.core.specs.declared.int.usize.TheConstants.{MAX}
use Rattle.indexset_core.specs.Nodes.{vec_items}
use Rattle.indexset_events.proofs.CallerLemmas.{only_large}
use Rattle.indexset_replica.proofs.Replica.from_nodes.Goals as goal

pub returns-in-Err-clause-lawful : goal.returns-in-Err-clause-lawful
returns-in-Err-clause-lawful g c = λ law.
    let large = only_large g.T.Ord.cmp MAX (vec_items c.args.nodes.items) c.in-Err.cause law (rw c.as_slice.ensures.value at c.in-Err.ensures.refusal) in
    absurd (omega (arith, c.in-Err.ensures.large large))
