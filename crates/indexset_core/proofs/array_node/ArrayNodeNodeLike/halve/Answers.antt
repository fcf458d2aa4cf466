use Rattle.std.proofs.Common.{◌≡◌, ◌/◌, ◌≤◌, ◌<◌, ◌++◌, List, length, take, drop, ap, ◌∙◌, arith}
use Rattle.std.proofs.lemmas.List.{length-drop, length-take-le}
use Rattle.indexset_core.proofs.array_node.ArrayNodeNodeLike.halve.Given.{Over}
use Rattle.indexset_core.proofs.array_node.ArrayNodeNodeLike.halve.Goals as goal
use Rattle.indexset_core.proofs.array_node.ArrayNodeNodeLike.halve.Goals.{After-move_tail}

module _ (g : Over) (c : After-move_tail g) where
  left : c.move_tail.new.items.items ≡ take (length c.args.self.now / 2) c.args.self.now
  left = c.move_tail.ensures.left ∙ (ap (λ n. take (n / 2) c.self.inside.items.items) c.len-half.ensures.value ∙ ap (λ (l : List g.row.T.Denot). take (length l / 2) l) c.self.view_is)

  right : c.move_tail.new.other.items ≡ drop (length c.args.self.now / 2) c.args.self.now
  right =
      c.move_tail.ensures.moved
      ∙ (ap (λ l. l ++ drop (c.len-half.result / 2) c.self.inside.items.items) c.new-rest.ensures
      ∙ (ap (λ n. drop (n / 2) c.self.inside.items.items) c.len-half.ensures.value ∙ ap (λ (l : List g.row.T.Denot). drop (length l / 2) l) c.self.view_is))

  left_length : length c.move_tail.new.items.items < g.row.N
  left_length = omega (arith, ap (λ l. length l) left, length-take-le (length c.args.self.now / 2) c.args.self.now (omega arith), c.self.invariant, ap (λ l. length l) c.self.view_is, c.requires)

  right_length : length c.move_tail.new.other.items < g.row.N
  right_length = omega (arith, ap (λ l. length l) right, length-drop (length c.args.self.now / 2) c.args.self.now, c.self.invariant, ap (λ l. length l) c.self.view_is, c.requires)

pub invariant_of-result : goal.invariant_of-result
invariant_of-result g c = let h : length c.move_tail.new.other.items ≤ g.row.N = omega (arith, right_length g (goal.at.invariant_of-result g c).After-move_tail) in h

pub invariant_of-self : goal.invariant_of-self
invariant_of-self g c = let h : length c.move_tail.new.items.items ≤ g.row.N = omega (arith, left_length g (goal.at.invariant_of-self g c).After-move_tail) in h

pub returns-clause-left : goal.returns-clause-left
returns-clause-left g c = left g c

pub returns-clause-left_room : goal.returns-clause-left_room
returns-clause-left_room g c = left_length g c

pub returns-clause-right : goal.returns-clause-right
returns-clause-right g c = right g c

pub returns-clause-right_room : goal.returns-clause-right_room
returns-clause-right_room g c = right_length g c
