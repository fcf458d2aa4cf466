use Rattle.std.proofs.Common.{◌∙◌, sym}
use Rattle.indexset_set.proofs.MergeLemmas.{left_ended_both, right_ended_both}
use Rattle.indexset_set.proofs.algebra.intersection_walk.IntersectionIterator.next.Goals as goal
use Rattle.indexset_set.proofs.algebra.intersection_walk.IntersectionIterator.next.Goals.{then-loop-self-test+else-has_right, else-loop-self-test}

pub returns-clause-steps : goal.returns-clause-steps
returns-clause-steps g c =
    elim c.loop-self-test.branch [
      | then-loop-self-test+else-has_right w ↦
          let none = right_ended_both c.loop-self.self-inside.merge w.has_right.result w.has_right.ensures w.if-has_right.false in
          (sym c.self.view_is ∙ (c.loop-self.invariant ∙ none), w.self-is ∙ none)
      | else-loop-self-test w ↦
          let none = left_ended_both c.loop-self.self-inside.merge c.has_left.result c.has_left.ensures w.loop-self-test.false in
          (sym c.self.view_is ∙ (c.loop-self.invariant ∙ none), w.self-is ∙ none)
    ]
