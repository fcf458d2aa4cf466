use Rattle.indexset_set.proofs.SetAlgebraLaws.{lengths_sum}
use Rattle.indexset_set.proofs.laws.walks.lengths_of_union_and_intersection.Goals as goal

pub returns : goal.returns
returns g c = λ cmp l r total up vp. lengths_sum cmp total l r up vp
