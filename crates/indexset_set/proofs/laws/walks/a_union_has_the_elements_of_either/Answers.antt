use Rattle.indexset_set.proofs.SetAlgebraLaws.{union_ascending, union_members, union_from_either}
use Rattle.indexset_set.proofs.laws.walks.a_union_has_the_elements_of_either.Goals as goal

pub returns-clause-ascending : goal.returns-clause-ascending
returns-clause-ascending g c = λ cmp l r total up. union_ascending cmp total l r up

pub returns-clause-members : goal.returns-clause-members
returns-clause-members g c = λ cmp l r total up x. union_members cmp total l r up x

pub returns-clause-from_either : goal.returns-clause-from_either
returns-clause-from_either g c = λ cmp l r total up x there. union_from_either cmp total l r up x there
