use Rattle.std.proofs.Common.{ap, sym}
use Rattle.indexset_replica.proofs.EqualCloneLemmas.{same_texts}
use Rattle.indexset_replica.proofs.laws.clones.texts.Goals as goal

pub returns-clause-string : goal.returns-clause-string
returns-clause-string c = λ x y same. same_texts _ _ (sym same)

pub returns-clause-str : goal.returns-clause-str
returns-clause-str c = λ x y same. same_texts _ _ (ap (λ t. t.now) (sym same))
