use Rattle.indexset_core.proofs.CallerLemmas.{rank-slice_get}
use Rattle.indexset_set.proofs.laws.rank_of_the_element_at_a_position.Goals as goal

pub returns : goal.returns
returns g c = λ cmp l total up i x is. rank-slice_get cmp total l up i x is
