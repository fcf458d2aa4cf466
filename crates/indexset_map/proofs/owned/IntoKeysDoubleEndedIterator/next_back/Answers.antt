use Rattle.std.proofs.Common.{◌∙◌, ap}
use Rattle.std.proofs.lemmas.List.{map-append}
use Rattle.indexset_core.specs.Pairs.{pair_keys}
use Rattle.indexset_map.proofs.owned.IntoKeysDoubleEndedIterator.next_back.Goals as goal

pub returns-clause-steps : goal.returns-clause-steps
returns-clause-steps g c =
    rw (← c.self.view_is) (ap pair_keys c.in_ok-key.ensures.steps ∙ map-append (λ p. p.key) c.next_back.new.self _)
