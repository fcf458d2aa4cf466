use Rattle.std.proofs.Common.{arith}
use Rattle.indexset_log.proofs.TreeViewLemmas.{held}
use Rattle.indexset_log.proofs.set.BTreeSet.are_small.Goals as goal

pub overflow_add-left : goal.overflow_add-left
overflow_add-left g c =
    let t = held g.Node.NodeLike.list c.self.inside.nodes.items c.self.view_is c.self.invariant in
    omega (arith, t.many, c.self.inside.nodes.ok, c.len-count.ensures, c.len-count.type_inv, c.requires.left)
