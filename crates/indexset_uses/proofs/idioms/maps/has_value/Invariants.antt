-- No value so far is the one that is searched for.
use Rattle.std.proofs.Common.{◌≡◌, ◌==◌}
use Rattle.std.specs.List.{list_any}
use Rattle.indexset_uses.proofs.idioms.maps.has_value.Given as goal

abbrev pub invariant-loop-value : goal.invariant-loop-value
invariant-loop-value l = list_any (λ pair. pair.value == l.sought) l.value-iterator ≡ list_any (λ pair. pair.value == l.sought) l.map.pairs
