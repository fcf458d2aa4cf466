use Rattle.indexset_follow.proofs.Knowing.{known_less, lines_known, none_known}
use Rattle.indexset_follow.proofs.takeover.followers_know_what_was_done.Goals as goal

pub returns-clause-known : goal.returns-clause-known
returns-clause-known g c = λ size lines delivered s tell known. lines_known g.T.Ord.cmp g.T.Item.texts size lines s delivered tell known

pub returns-clause-none : goal.returns-clause-none
returns-clause-none g c = λ size w lines. none_known g.T.Ord.cmp g.T.Item.texts size lines w

pub returns-clause-less : goal.returns-clause-less
returns-clause-less g c = λ size lines s known. known_less g.T.Ord.cmp g.T.Item.texts size lines s known
