use Rattle.indexset_follow.proofs.Delivered.{delivered_begins, delivered_piped, delivered_same, delivered_whole, delivered_within}
use Rattle.indexset_follow.proofs.laws.programs_agree.Goals as goal

pub returns-clause-beginning : goal.returns-clause-beginning
returns-clause-beginning c = λ w lines delivered many less among. delivered_begins lines many less w delivered among

pub returns-clause-same : goal.returns-clause-same
returns-clause-same c = λ w lines delivered many less among. delivered_same lines many less w delivered among

pub returns-clause-whole : goal.returns-clause-whole
returns-clause-whole c = λ w lines delivered many less among. delivered_whole lines many less w delivered among

pub returns-clause-within : goal.returns-clause-within
returns-clause-within c = λ w lines delivered many less among. delivered_within lines many less w delivered among

pub returns-clause-piped : goal.returns-clause-piped
returns-clause-piped c = λ w lines many less. delivered_piped lines many less w
