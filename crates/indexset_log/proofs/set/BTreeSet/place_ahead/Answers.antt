use Rattle.std.proofs.Common.{◌≡◌, ◌+◌, length, ap, ◌∙◌, arith}
use Rattle.indexset_core.specs.Nodes.{node_at}
use Rattle.indexset_core.specs.Places.{items_before}
use Rattle.indexset_log.proofs.GallopLemmas.{next_place}
use Rattle.indexset_log.proofs.TreeViewLemmas.{held, node_held}
use Rattle.indexset_log.proofs.set.BTreeSet.place_ahead.Goals as goal

pub loop-offset-preserved : goal.loop-offset-preserved
loop-offset-preserved g c =
    let t = held g.Node.NodeLike.list c.self.inside.nodes.items c.self.view_is c.self.invariant in
    let ns = c.args.self.now.nodes in
    let at = c.loop-offset in
    let tested : c.len.result ≡ length (node_at ns at.node) = c.len.ensures.value ∙ ap (λ l. length l) (node_held t at.node at.invariant.node c.index.ensures) in
    let read : c.len-in-loop-offset.result ≡ length (node_at ns at.node) =
    c.len-in-loop-offset.ensures.value
    ∙ ap (λ l. length l) (node_held t at.node at.invariant.node c.index-in-loop-offset.ensures) in
    let next =
    next_place ns at.node at.offset at.left (items_before ns c.args.place + c.args.count)
    c.len-in-loop-offset.result at.invariant.node read (omega (arith, read, at.invariant.offset)) at.invariant.sum
    c.requires.within (omega (arith, c.loop-offset-test.true, tested, read)) in
    record { node = next.0; offset = omega arith; sum = next.1 }

pub overflow_sub-len : goal.overflow_sub-len
overflow_sub-len g c =
    let t = held g.Node.NodeLike.list c.self.inside.nodes.items c.self.view_is c.self.invariant in
    let at = c.loop-offset in
    omega (arith, at.invariant.offset, c.len.ensures.value, ap (λ l. length l) (node_held t at.node at.invariant.node c.index.ensures))

pub returns-clause-offset : goal.returns-clause-offset
returns-clause-offset g c =
    let t = held g.Node.NodeLike.list c.self.inside.nodes.items c.self.view_is c.self.invariant in
    let at = c.loop-offset in
    omega (arith, at.invariant.offset, c.loop-offset-test.false, c.len.ensures.value, ap (λ l. length l) (node_held t at.node at.invariant.node c.index.ensures))

pub returns-clause-before : goal.returns-clause-before
returns-clause-before g c = let at = c.loop-offset in omega (arith, at.invariant.sum)
