use Rattle.std.proofs.Common.{arith}
use Rattle.indexset_events.proofs.RemovalLemmas.{few_at, removal_few, two_at_most}
use Rattle.indexset_events.proofs.ReplayTheorem.{three_at_most, three_checked}
use Rattle.indexset_events.proofs.laws.three_events.Goals as goal

pub returns-clause-put : goal.returns-clause-put
returns-clause-put g c = λ size ns v. three_at_most g.T.Ord.cmp size v ns

pub returns-clause-checked_put : goal.returns-clause-checked_put
returns-clause-checked_put g c = λ size ns v. three_checked g.T.Ord.cmp size v ns

pub returns-clause-removal : goal.returns-clause-removal
returns-clause-removal g c = removal_few g.T.Ord.cmp

pub returns-clause-removal_at : goal.returns-clause-removal_at
returns-clause-removal_at g c = few_at g.T.Ord.cmp

pub returns-clause-taking : goal.returns-clause-taking
returns-clause-taking g c = λ size ns k i. omega (arith, two_at_most size ns k i)
