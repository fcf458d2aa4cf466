use Rattle.indexset_set.proofs.SetCursorLemmas.{before_node}
use Rattle.indexset_set.proofs.cursor.Cursor.stand_at.Goals.{then-i-len, else-i-len}
use Rattle.indexset_set.proofs.cursor.Cursor.stand_at.Goals as goal

pub invariant_of-self : goal.invariant_of-self
invariant_of-self g c = elim c.if-i-len.branch [
  | then-i-len w ↦ rw w.self-inside-is (rw (← c.self.view_is) at c.requires, before_node c.self.inside.set.now.nodes w.spot_near-spot.result _ w.spot_near-spot.ensures.position)
  | else-i-len w ↦ rw w.self-inside-is (rw (← c.self.view_is) at c.requires, c.self.invariant.1)
]
