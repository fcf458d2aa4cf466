use Rattle.indexset_set.proofs.SetAlgebraLaws.{intersection_ascending, intersection_members}
use Rattle.indexset_set.proofs.laws.walks.an_intersection_has_what_both_have.Goals as goal

pub returns-clause-ascending : goal.returns-clause-ascending
returns-clause-ascending g c = λ cmp l r up. intersection_ascending cmp l r up

pub returns-clause-members : goal.returns-clause-members
returns-clause-members g c = λ cmp l r total x. intersection_members cmp total l r x
