use Rattle.indexset_follow.proofs.Within.{all_held, first_missing}
use Rattle.indexset_follow.proofs.laws.nothing_within_the_window_is_lost.Goals as goal

pub returns-clause-first : goal.returns-clause-first
returns-clause-first g c = λ s j ns es r lines feed fit at none drawn within. first_missing g.T.Ord.cmp g.T.Item.texts g.met.T.Token.tokens s ns es feed fit j r lines none at drawn within

pub returns-clause-all : goal.returns-clause-all
returns-clause-all g c = λ s j ns es r lines feed fit at none drawn within came. all_held g.T.Ord.cmp g.T.Item.texts g.met.T.Token.tokens s ns es feed fit j r lines none at drawn within came
