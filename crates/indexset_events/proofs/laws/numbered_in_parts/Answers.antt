use Rattle.indexset_events.proofs.ReplayTheorem.{numbered-append}
use Rattle.indexset_events.proofs.laws.numbered_in_parts.Goals as goal

pub returns : goal.returns
returns g c = numbered-append
