use Rattle.std.proofs.Common.{◌≤◌, length, arith}
use Rattle.indexset_core.proofs.OrderLemmas.{read_item}
use Rattle.indexset_core.proofs.array_node.ArrayNodeNodeLike.remove_at.Goals as goal

pub invariant_of-self : goal.invariant_of-self
invariant_of-self g c =
    let held : length c.self.inside.items.items ≤ g.row.N = c.self.invariant in
    let left : length c.remove.new.self.items ≤ g.row.N = omega (arith, c.remove.ensures.len) in
    left

pub returns-clause-value : goal.returns-clause-value
returns-clause-value g c = read_item c.args.self.now c.args.index c.remove.result c.requires (rw c.self.view_is at c.remove.ensures.value)

pub returns-clause-list : goal.returns-clause-list
returns-clause-list g c = rw c.self.view_is at c.remove.ensures.items
