use Rattle.std.proofs.Common.{◌∙◌, ap, map}
use Rattle.std.proofs.lemmas.List.{map-append}
use Rattle.indexset_core.specs.Pairs.{entry_of}
use Rattle.indexset_map.proofs.owned.IntoIterMapDoubleEndedIterator.next_back.Goals as goal

pub returns-clause-steps : goal.returns-clause-steps
returns-clause-steps g c =
    rw (← c.self.view_is) (ap (map entry_of) c.in_ok-key.ensures.steps ∙ map-append entry_of c.next_back.new.self _)
