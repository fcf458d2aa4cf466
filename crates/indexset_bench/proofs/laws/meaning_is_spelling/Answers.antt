use Rattle.indexset_bench.proofs.Meanings.{sound, complete}
use Rattle.indexset_bench.proofs.laws.meaning_is_spelling.Goals as goal

pub returns-clause-spelled : goal.returns-clause-spelled
returns-clause-spelled c = λ line command fit. ((λ e. (sound line command e).0), (λ e. complete line command e fit))

pub returns-clause-fits : goal.returns-clause-fits
returns-clause-fits c = λ line command e. (sound line command e).1
