use Rattle.std.proofs.Common.{◌∙◌, sym}
use Rattle.indexset_set.proofs.MergeLemmas.{left_ended_alone}
use Rattle.indexset_set.proofs.algebra.difference_walk.DifferenceIterator.next.Goals as goal

pub returns-clause-steps : goal.returns-clause-steps
returns-clause-steps g c =
    let none = left_ended_alone c.loop-self.self-inside.merge c.has_left.result c.has_left.ensures c.loop-self-test.false in
    (sym c.self.view_is ∙ (c.loop-self.invariant ∙ none), none)
