use Rattle.indexset_core.proofs.CallerLemmas.{slice_get-rank_equal}
use Rattle.indexset_set.proofs.laws.element_at_the_rank_of_a_member.Goals as goal

pub returns : goal.returns
returns g c = λ cmp l total up v has. slice_get-rank_equal cmp total l up v has
