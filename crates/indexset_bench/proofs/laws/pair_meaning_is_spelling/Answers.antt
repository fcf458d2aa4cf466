use Rattle.indexset_bench.proofs.PairMeanings.{apart, pair_sound, pair_complete}
use Rattle.indexset_bench.proofs.laws.pair_meaning_is_spelling.Goals as goal

pub returns-clause-spelled : goal.returns-clause-spelled
returns-clause-spelled g c = λ line command fit. ((λ e. (pair_sound g.T.Item.texts g.met.T.Token.tokens line command e).0), (λ e. pair_complete g.T.Item.texts g.met.T.Token.tokens line command e fit))

pub returns-clause-fits : goal.returns-clause-fits
returns-clause-fits g c = λ line command e. (pair_sound g.T.Item.texts g.met.T.Token.tokens line command e).1

pub returns-clause-apart : goal.returns-clause-apart
returns-clause-apart g c = apart g.T.Item.texts
