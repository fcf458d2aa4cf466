use Rattle.std.proofs.Common.{sym, ◌∙◌}
use Rattle.indexset_events.proofs.CallerLemmas.{none_lawful}
use Rattle.indexset_index.proofs.CallerLemmas.{no-blocks}
use Rattle.indexset_replica.proofs.Replica.new.Goals as goal

pub invariant_of-result : goal.invariant_of-result
invariant_of-result g c = rw c.new.ensures.items (record { nodes = (none_lawful g.T.Ord.cmp 0).nodes; index = c.new-2.ensures ∙ sym no-blocks })
