use Rattle.std.proofs.Common.{sym, ◌∙◌, add-one}
use Rattle.indexset_core.specs.Nodes.{vec_items}
use Rattle.indexset_spine.proofs.SpotLemmas.{joined_at, joined_next, later_filled}
use Rattle.indexset_spine.proofs.spine.Spine.item_from.Goals as goal

-- the node has the item
pub returns-in-Some : goal.returns-in-Some
returns-in-Some g c =
    let at = rw c.deref.ensures.value at c.in-Some.ensures in
    rw (← c.self.view_is) (sym (joined_at (vec_items c.self.inside.nodes.items) c.args.spot.now.node c.args.spot.now.offset _ (sym at)))

-- the spot is at the end of the node
pub returns-in-None : goal.returns-in-None
returns-in-None g c =
    let ns = vec_items c.self.inside.nodes.items in
    let k = c.args.spot.now.node in
    let end = rw c.deref.ensures.value at c.in-None.ensures in
    let next = rw (c.deref-in-None.ensures.value, add-one) at c.item_in-in-None.ensures in
    let spot = rw (← c.self.view_is) at c.requires in
    rw (← c.self.view_is) (next ∙ sym (joined_next ns k c.args.spot.now.offset spot.node_in spot.offset_in (later_filled ns c.self.inside.size k c.self.invariant.is_spine.is_cut) (sym end)))
