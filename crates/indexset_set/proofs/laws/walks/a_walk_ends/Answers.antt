use Rattle.indexset_core.proofs.CallLemmas.{ends_at_last}
use Rattle.indexset_set.proofs.laws.walks.a_walk_ends.Goals as goal

pub returns : goal.returns
returns g c = λ shows ends s t rs turns. ends_at_last shows ends s t rs turns
