use Rattle.std.proofs.Common.{rules, nat_lt}
use Rattle.std.proofs.lemmas.Fn.{filter_same}
use Rattle.indexset_uses.proofs.idioms.sets.keep_below.Goals as goal

-- the closure always compares with the same value
pub returns : goal.returns
returns c = filter_same _ (λ x. nat_lt x c.args.value) _ (λ x b after called. search rules) _ _ c.retain.ensures.kept
