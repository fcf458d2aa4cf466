use Rattle.std.proofs.Common.{◌<◌, ◌≤◌, length, ap, arith}
use Rattle.indexset_core.proofs.array_node.ArrayNodeNodeLike.insert_at.Goals as goal

pub invariant_of-self : goal.invariant_of-self
invariant_of-self g c =
    let room : length c.self.inside.items.items < g.row.N = omega (arith, c.requires.room, ap (λ l. length l) c.self.view_is) in
    let held : length c.insert.new.self.items ≤ g.row.N = omega (arith, c.insert.ensures.len) in
    held

pub returns-clause-list : goal.returns-clause-list
returns-clause-list g c = rw c.self.view_is at c.insert.ensures.items
