-- No element so far is greater.
use Rattle.std.proofs.Common.{◌≡◌, nat_lt}
use Rattle.std.specs.List.{list_any}
use Rattle.indexset.specs.Words.{items}
use Rattle.indexset_uses.proofs.idioms.sets.has_above.Given as goal

abbrev pub invariant-loop-element : goal.invariant-loop-element
invariant-loop-element l = list_any (λ e. nat_lt l.value e) l.element-iterator ≡ list_any (λ e. nat_lt l.value e) (items l.set)
