use Rattle.indexset_set.proofs.SetRangeLemmas.{positions_filter}
use Rattle.indexset_set.proofs.laws.walks.positions_satisfy_both_bounds.Goals as goal

pub returns : goal.returns
returns g c = λ l start end. positions_filter l start end
