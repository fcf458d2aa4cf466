use Rattle.std.proofs.Common.{◌≡◌, ◌≤◌, ◌++◌, List, length, ap, ap₂, ◌∙◌, arith, length-append}
use Rattle.indexset_core.proofs.array_node.ArrayNodeNodeLike.absorb.Given.{Over}
use Rattle.indexset_core.proofs.array_node.ArrayNodeNodeLike.absorb.Goals as goal
use Rattle.indexset_core.proofs.array_node.ArrayNodeNodeLike.absorb.Goals.{After-move_tail}

both : (g : Over) (c : After-move_tail g) → c.move_tail.new.other.items ≡ c.args.self.now ++ c.args.next
both g c = c.move_tail.ensures.moved ∙ ap₂ (λ (a b : List g.row.T.Denot). a ++ b) c.self.view_is c.next.view_is

pub invariant_of-self : goal.invariant_of-self
invariant_of-self g c =
    let held : length c.move_tail.new.other.items ≤ g.row.N = omega (
      arith,
      ap (λ l. length l) (both g (goal.at.invariant_of-self g c).After-move_tail),
      length-append c.args.self.now c.args.next,
      c.requires.room,
    ) in
    held

pub returns-clause-list : goal.returns-clause-list
returns-clause-list g c = both g (goal.at.returns-clause-list g c).After-move_tail
