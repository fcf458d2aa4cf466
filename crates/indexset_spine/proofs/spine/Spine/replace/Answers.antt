use Rattle.std.proofs.Common.{◌∙◌, ap, slice_set, sym}
use Rattle.indexset_core.specs.Nodes.{concat, vec_items}
use Rattle.indexset_spine.specs.NodeList.{position_of, with_replaced}
use Rattle.indexset_spine.proofs.NodeListEdits.{joined_replaced, node_lengths-replaced, spine_replaced}
use Rattle.indexset_spine.proofs.RemoveSteps.{respot_writes, item_read}
use Rattle.indexset_spine.proofs.spine.Spine.replace.Goals as goal

pub invariant_of-self : goal.invariant_of-self
invariant_of-self g c =
    let written = respot_writes _ _ c.args.self.now c.args.spot _ c.replace.new.dest c.self.view_is c.requires c.index_mut-node.ensures.value in
    let lengths = node_lengths-replaced (vec_items c.self.inside.nodes.items) c.args.spot c.replace.new.dest in
    rw (written, ← c.self.view_is) (record {
      is_spine = spine_replaced _ _ _ c.args.spot c.replace.new.dest c.self.invariant.is_spine;
      index_is = c.self.invariant.index_is ∙ sym lengths;
    })

pub returns-clause-value : goal.returns-clause-value
returns-clause-value g c =
    item_read _ _ c.args.self.now c.args.spot _ _ c.self.view_is c.requires c.index_mut-node.ensures.value (rw c.replace.ensures.value c.index_mut.ensures.value)

pub returns-clause-nodes : goal.returns-clause-nodes
returns-clause-nodes g c =
    respot_writes _ _ c.args.self.now c.args.spot _ c.replace.new.dest c.self.view_is c.requires
    c.index_mut-node.ensures.value
    ∙ ap (with_replaced c.args.self.now.nodes c.args.spot) c.replace.ensures.after

pub returns-clause-items : goal.returns-clause-items
returns-clause-items g c =
    ap concat (respot_writes _ _ c.args.self.now c.args.spot _ c.replace.new.dest c.self.view_is c.requires c.index_mut-node.ensures.value)
    ∙ (joined_replaced c.args.self.now.nodes c.args.spot c.replace.new.dest c.requires
    ∙ ap (slice_set (concat c.args.self.now.nodes) (position_of c.args.self.now.nodes c.args.spot)) c.replace.ensures.after)
