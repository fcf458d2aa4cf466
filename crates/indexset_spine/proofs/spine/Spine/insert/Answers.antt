use Rattle.std.proofs.Common.{◌∙◌, ap, arith, insert, refl, sum}
use Rattle.indexset_core.specs.Nodes.{concat}
use Rattle.indexset_spine.specs.NodeList.{NodeList, items, position_of}
use Rattle.indexset_spine.proofs.EditSteps.{spot_in}
use Rattle.indexset_spine.proofs.NodeListEdits.{spine_inserted, joined_inserted}
use Rattle.indexset_spine.proofs.InsertedItemLemmas.{stands_at}
use Rattle.indexset_spine.proofs.spine.Spine.insert.Goals as goal

pub make_room-requires-clause-index : goal.make_room-requires-clause-index
make_room-requires-clause-index g c = c.self.invariant.index_is

pub make_room-requires-clause-fits : goal.make_room-requires-clause-fits
make_room-requires-clause-fits g c = omega (arith, c.self.invariant.is_spine.total_is, ap sum c.self.invariant.index_is)

pub insert_in_room-requires-clause-fits : goal.insert_in_room-requires-clause-fits
insert_in_room-requires-clause-fits g c = omega (arith, c.self.invariant.is_spine.total_is, ap sum c.self.invariant.index_is, c.make_room.ensures.sum)

pub invariant_of-self : goal.invariant_of-self
invariant_of-self g c =
    let spot = spot_in _ _ c.args.self.now c.args.spot c.self.view_is c.requires in
    record {
      is_spine = rw (c.insert_in_room.ensures.nodes ∙ c.in-Ok.ensures.nodes c.args.value) (spine_inserted _ _ _ c.args.spot c.args.value spot c.self.invariant.is_spine);
      index_is = c.insert_in_room.ensures.index;
    }

pub returns-in-Ok-clause-items : goal.returns-in-Ok-clause-items
returns-in-Ok-clause-items g c =
    let spot = spot_in _ _ c.args.self.now c.args.spot c.self.view_is c.requires in
    ap concat (c.insert_in_room.ensures.nodes ∙ c.in-Ok.ensures.nodes c.args.value)
    ∙ (joined_inserted _ _ c.args.spot c.args.value spot ∙ ap (λ (t : NodeList g.row.T.Denot). insert (items t) (position_of t.nodes c.args.spot) c.args.value) c.self.view_is)

pub returns-in-Ok-clause-stands : goal.returns-in-Ok-clause-stands
returns-in-Ok-clause-stands g c =
    let there = stands_at _ _ c.in-Ok.to c.args.value c.in-Ok.ensures.spot c.insert_in_room.ensures.nodes in (
      record { node_in = there.0.node_in; offset_in = there.0.offset_in },
      there.1 ∙ (c.in-Ok.ensures.position ∙ ap (λ (t : NodeList g.row.T.Denot). position_of t.nodes c.args.spot) c.self.view_is),
      refl,
    )
