use Rattle.indexset_core.proofs.CallLemmas.{each_once}
use Rattle.indexset_set.proofs.laws.walks.a_walk_gives_each_item_once.Goals as goal

pub returns : goal.returns
returns g c = λ shows ends s t rs turns. each_once shows ends s t rs turns
