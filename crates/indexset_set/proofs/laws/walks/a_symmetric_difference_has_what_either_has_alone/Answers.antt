use Rattle.indexset_set.proofs.SetAlgebraLaws.{apart_ascending, apart_members}
use Rattle.indexset_set.proofs.laws.walks.a_symmetric_difference_has_what_either_has_alone.Goals as goal

pub returns-clause-ascending : goal.returns-clause-ascending
returns-clause-ascending g c = λ cmp l r total up. apart_ascending cmp total l r up

pub returns-clause-members : goal.returns-clause-members
returns-clause-members g c = λ cmp l r total up x. apart_members cmp total l r up x
