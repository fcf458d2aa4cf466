use Rattle.indexset_events.proofs.DenseKeptLemmas.{put_spaced, taken_spaced}
use Rattle.indexset_events.proofs.laws.dense_kept.Goals as goal

pub returns-clause-put : goal.returns-clause-put
returns-clause-put g c = λ size ns v two. put_spaced g.T.Ord.cmp g.met.T.Ord.total size two ns v

pub returns-clause-removal : goal.returns-clause-removal
returns-clause-removal g c = λ size ns k i two law. taken_spaced g.T.Ord.cmp size two ns k i law
