use Rattle.indexset_set.proofs.SetBulkLemmas.{cut_parts, below_all, not_below_all}
use Rattle.indexset_set.proofs.laws.walks.a_cut_parts_the_list.Goals as goal

pub returns-clause-parts : goal.returns-clause-parts
returns-clause-parts g c = λ cmp l total up v. cut_parts cmp total l up v

pub returns-clause-below : goal.returns-clause-below
returns-clause-below g c = λ cmp l v. below_all cmp l v

pub returns-clause-others : goal.returns-clause-others
returns-clause-others g c = λ cmp l v. not_below_all cmp l v
