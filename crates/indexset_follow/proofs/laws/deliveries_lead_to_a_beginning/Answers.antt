use Rattle.std.proofs.Common.{arith, refl}
use Rattle.indexset_follow.proofs.Drawing.{beginning, whole}
use Rattle.indexset_follow.proofs.laws.deliveries_lead_to_a_beginning.Goals as goal

pub returns-clause-beginning : goal.returns-clause-beginning
returns-clause-beginning g c = λ s j ns es r lines feed fit at ahead drawn. beginning g.T.Ord.cmp g.T.Item.texts g.met.T.Token.tokens s ns es feed fit j r lines at ahead drawn

pub returns-clause-whole : goal.returns-clause-whole
returns-clause-whole g c = λ s j ns es r lines feed fit at ahead drawn came. whole g.T.Ord.cmp g.T.Item.texts g.met.T.Token.tokens s ns es feed fit j r lines at ahead drawn came

pub returns-clause-none : goal.returns-clause-none
returns-clause-none g c = λ s w d ns es. (record { within = omega arith; nodes = refl; next = omega arith }, tt)
