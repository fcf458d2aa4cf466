use Rattle.std.proofs.Common.{◌∙◌, ap, remove}
use Rattle.indexset_core.specs.Nodes.{concat}
use Rattle.indexset_spine.specs.NodeList.{NodeList, items, position_of}
use Rattle.indexset_spine.proofs.EditSteps.{item_spot_in}
use Rattle.indexset_spine.proofs.NodeListEdits.{spine_without, joined_without, one_inside, item_at_spot}
use Rattle.indexset_spine.proofs.spine.Spine.remove.Goals as goal

pub overflow_sub-self : goal.overflow_sub-self
overflow_sub-self g c =
    one_inside _ _ _ c.args.spot (item_spot_in _ _ c.args.self.now c.args.spot c.self.view_is c.requires) c.self.invariant.is_spine

pub invariant_of-self : goal.invariant_of-self
invariant_of-self g c =
    let spot = item_spot_in _ _ c.args.self.now c.args.spot c.self.view_is c.requires in
    record {
      is_spine = rw c.remove_from_node.ensures.nodes (spine_without _ _ _ c.args.spot spot c.self.invariant.is_spine);
      index_is = c.remove_from_node.ensures.index;
    }

pub returns-clause-value : goal.returns-clause-value
returns-clause-value g c =
    let spot = item_spot_in _ _ c.args.self.now c.args.spot c.self.view_is c.requires in
    rw (← c.self.view_is) (item_at_spot _ c.args.spot spot ∙ c.remove_from_node.ensures.value)

pub returns-clause-items : goal.returns-clause-items
returns-clause-items g c =
    let spot = item_spot_in _ _ c.args.self.now c.args.spot c.self.view_is c.requires in
    ap concat c.remove_from_node.ensures.nodes
    ∙ (joined_without _ c.args.spot spot ∙ ap (λ (t : NodeList g.row.T.Denot). remove (items t) (position_of t.nodes c.args.spot)) c.self.view_is)
