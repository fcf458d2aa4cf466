use Rattle.indexset_set.proofs.SetAlgebraLaws.{difference_ascending, difference_members}
use Rattle.indexset_set.proofs.laws.walks.a_difference_has_what_the_first_has_alone.Goals as goal

pub returns-clause-ascending : goal.returns-clause-ascending
returns-clause-ascending g c = λ cmp l r up. difference_ascending cmp l r up

pub returns-clause-members : goal.returns-clause-members
returns-clause-members g c = λ cmp l r total x. difference_members cmp total l r x
