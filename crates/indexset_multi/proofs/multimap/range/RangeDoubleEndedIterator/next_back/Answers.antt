use Rattle.std.proofs.Common.{◌∙◌, ap}
use Rattle.std.proofs.lemmas.List.{map-append}
use Rattle.indexset_core.specs.MultiPairs.{unnumbered}
use Rattle.indexset_multi.specs.Keys.{entries}
use Rattle.indexset_multi.proofs.multimap.range.RangeDoubleEndedIterator.next_back.Goals as goal

pub returns-clause-steps : goal.returns-clause-steps
returns-clause-steps g c =
    rw (← c.self.view_is) (ap entries c.in_ok-pair.ensures.steps ∙ map-append unnumbered c.next_back.new.self _)
