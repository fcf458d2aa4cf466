use Rattle.std.proofs.Common.{◌∙◌, ap}
use Rattle.std.proofs.lemmas.List.{map-append}
use Rattle.indexset_core.specs.Pairs.{pair_values}
use Rattle.indexset_map.proofs.owned.IntoValuesDoubleEndedIterator.next_back.Goals as goal

pub returns-clause-steps : goal.returns-clause-steps
returns-clause-steps g c =
    rw (← c.self.view_is) (ap pair_values c.in_ok-value.ensures.steps ∙ map-append (λ p. p.value) c.next_back.new.self _)
