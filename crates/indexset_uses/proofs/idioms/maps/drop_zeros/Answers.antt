use Rattle.std.proofs.Common.{rules, nat_lt}
use Rattle.indexset_uses.proofs.Retained.{retained}
use Rattle.indexset_uses.proofs.idioms.maps.drop_zeros.Goals as goal

-- the closure reads the value, and does not change it
pub returns : goal.returns
returns c = retained _ (λ pair. nat_lt 0 pair.value) (λ s pair b t after called. search rules) _ _ _ c.retain.ensures.kept
