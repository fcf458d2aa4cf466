use Rattle.std.proofs.Common.{◌≡◌, sym, ap, ◌∙◌, subst}
use Rattle.indexset_core.specs.Nodes.{node_for, vec_items}
use Rattle.indexset_core.specs.Parted.{IsParted}
use Rattle.indexset_spine.specs.NodeList.{NodeList, items}
use Rattle.indexset_spine.proofs.spine.Spine.locate_near_by.Given.{Over}
use Rattle.indexset_spine.proofs.spine.Spine.locate_near_by.Goals as goal
use Rattle.indexset_spine.proofs.spine.Spine.locate_near_by.Goals.{Then-is_sought}

-- the node that was tried is the one
near_is : (g : Over) (c : Then-is_sought g) → c.args.near ≡ node_for (g.P.Probe.answer c.args.probe.now) c.args.self.now.nodes
near_is g c =
    let answer = g.P.Probe.answer c.args.probe.now in
    c.is_sought.ensures.node c.if-is_sought.true ∙ (ap (λ vs. node_for answer (vec_items vs)) c.as_slice.ensures.value ∙ ap (λ (t : NodeList g.row.T.Denot). node_for answer t.nodes) c.self.view_is)

pub is_sought-requires-clause-parted : goal.is_sought-requires-clause-parted
is_sought-requires-clause-parted g c = rw c.as_slice.ensures.value (subst (λ (t : NodeList g.row.T.Denot). IsParted (g.P.Probe.answer c.args.probe.now) (items t)) (sym c.self.view_is) c.requires)

pub locate_in-requires-clause-parted : goal.locate_in-requires-clause-parted
locate_in-requires-clause-parted g c = rw c.is_sought.ensures.fixed c.requires

pub locate_in-requires-clause-node : goal.locate_in-requires-clause-node
locate_in-requires-clause-node g c = rw c.is_sought.ensures.fixed (near_is g (goal.at.locate_in-requires-clause-node g c).Then-is_sought)

pub locate_by-requires : goal.locate_by-requires
locate_by-requires g c = rw c.is_sought.ensures.fixed c.requires

pub returns-then-is_sought-clause-spot : goal.returns-then-is_sought-clause-spot
returns-then-is_sought-clause-spot g c = rw c.is_sought.ensures.fixed at c.locate_in.ensures.spot

pub returns-clause-spot : goal.returns-clause-spot
returns-clause-spot g c = rw c.is_sought.ensures.fixed at c.locate_by.ensures.spot
