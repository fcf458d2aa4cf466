use Rattle.std.proofs.Common.{length, refl, sym, ◌∙◌}
use Rattle.std.proofs.lemmas.Bool.{eq-eqb, ne_eqb, lt-ltb, le-ltb}
use Rattle.indexset_core.specs.Nodes.{node_at}
use Rattle.indexset_log.proofs.TreeViewLemmas.{held, node_held}
use Rattle.indexset_log.proofs.set.BTreeSet.merge_after.Goals as goal
use Rattle.indexset_log.proofs.set.BTreeSet.merge_after.Goals.{else-node-gt0-via-then-node-gt0+else-are_small-2, else-node-gt0-via-else-node-gt0}

pub returns-then-len-eq1-clause-join : goal.returns-then-len-eq1-clause-join
returns-then-len-eq1-clause-join g c i inside =
    let t = held g.Node.NodeLike.list c.self.inside.nodes.items c.self.view_is c.self.invariant in
    let one = eq-eqb (length (node_at c.args.self.now.nodes c.args.node)) 1 (rw (c.len.ensures.value, node_held t c.args.node c.requires c.index.ensures) at c.if-len-eq1.true) in
    rw one refl

pub returns-then-are_small-clause-join : goal.returns-then-are_small-clause-join
returns-then-are_small-clause-join g c i inside =
    let t = held g.Node.NodeLike.list c.self.inside.nodes.items c.self.view_is c.self.invariant in
    let more = ne_eqb (length (node_at c.args.self.now.nodes c.args.node)) 1 (rw (c.len.ensures.value, node_held t c.args.node c.requires c.index.ensures) at c.if-len-eq1.false) in
    rw (more, sym (c.are_small.ensures i inside) ∙ c.if-are_small.true) refl

pub returns-then-are_small-2-clause-join : goal.returns-then-are_small-2-clause-join
returns-then-are_small-2-clause-join g c i inside =
    let t = held g.Node.NodeLike.list c.self.inside.nodes.items c.self.view_is c.self.invariant in
    let more = ne_eqb (length (node_at c.args.self.now.nodes c.args.node)) 1 (rw (c.len.ensures.value, node_held t c.args.node c.requires c.index.ensures) at c.if-len-eq1.false) in
    let before = sym (c.are_small-then-node-gt0.ensures i inside) ∙ c.if-are_small-2.true in
    rw (more, sym (c.are_small.ensures i inside) ∙ c.if-are_small.false, lt-ltb 0 c.args.node c.if-node-gt0.true, before) refl

pub returns-clause-join : goal.returns-clause-join
returns-clause-join g c i inside =
    let t = held g.Node.NodeLike.list c.self.inside.nodes.items c.self.view_is c.self.invariant in
    let more = ne_eqb (length (node_at c.args.self.now.nodes c.args.node)) 1 (rw (c.len.ensures.value, node_held t c.args.node c.requires c.index.ensures) at c.if-len-eq1.false) in
    let after = sym (c.are_small.ensures i inside) ∙ c.if-are_small.false in
    elim c.else-node-gt0.branch [
      | else-node-gt0-via-then-node-gt0+else-are_small-2 w ↦ rw (more, after, lt-ltb 0 c.args.node w.if-node-gt0.true, sym (w.are_small-then-node-gt0.ensures i inside) ∙ w.if-are_small-2.false) refl
      | else-node-gt0-via-else-node-gt0 w ↦ rw (more, after, le-ltb 0 c.args.node w.if-node-gt0.false) refl
    ]
