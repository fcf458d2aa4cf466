use Rattle.std.proofs.Common.{arith}
use Rattle.indexset_core.proofs.CallerLemmas.{length-concat}
use Rattle.indexset_index.proofs.CallerLemmas.{count-lengths, node-le, place-fits, prefix-concat}
use Rattle.indexset_log.proofs.TreeViewLemmas.{held}
use Rattle.indexset_log.proofs.set.BTreeSet.position.Goals as goal

pub prefix-requires-clause-sums : goal.prefix-requires-clause-sums
prefix-requires-clause-sums g c =
    let t = held g.Node.NodeLike.list c.self.inside.nodes.items c.self.view_is c.self.invariant in
    rw (c.as_slice.ensures.value, t.same) t.indexed

pub prefix-requires-clause-within : goal.prefix-requires-clause-within
prefix-requires-clause-within g c =
    let t = held g.Node.NodeLike.list c.self.inside.nodes.items c.self.view_is c.self.invariant in
    let ns = c.args.self.now.nodes in
    rw c.as_slice.ensures.value (omega (arith, t.many, count-lengths ns, node-le ns c.args.place c.requires))

pub overflow_add-result : goal.overflow_add-result
overflow_add-result g c =
    let t = held g.Node.NodeLike.list c.self.inside.nodes.items c.self.view_is c.self.invariant in
    let ns = c.args.self.now.nodes in
    let sum = rw (c.as_slice.ensures.value, t.same) at c.prefix.ensures in
    record { fits = omega (arith, sum, prefix-concat ns c.args.place.0, place-fits ns c.args.place c.requires, length-concat ns, c.recall_invariant.ensures.items) }

pub returns : goal.returns
returns g c =
    let t = held g.Node.NodeLike.list c.self.inside.nodes.items c.self.view_is c.self.invariant in
    let sum = rw (c.as_slice.ensures.value, t.same) at c.prefix.ensures in
    omega (arith, sum, prefix-concat c.args.self.now.nodes c.args.place.0)
