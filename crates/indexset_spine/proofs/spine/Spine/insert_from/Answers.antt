use Rattle.std.proofs.Common.{◌∙◌, ap, arith, insert, sum}
use Rattle.indexset_core.specs.Nodes.{concat}
use Rattle.indexset_spine.specs.NodeList.{NodeList, items, position_of, with_inserted}
use Rattle.indexset_spine.proofs.EditSteps.{spot_in, some_is}
use Rattle.indexset_spine.proofs.NodeListEdits.{spine_inserted, joined_inserted, first_in}
use Rattle.indexset_spine.proofs.spine.Spine.insert_from.Goals as goal

pub make_room-requires-clause-index : goal.make_room-requires-clause-index
make_room-requires-clause-index g c = c.self.invariant.index_is

pub make_room-requires-clause-fits : goal.make_room-requires-clause-fits
make_room-requires-clause-fits g c = omega (arith, c.self.invariant.is_spine.total_is, ap sum c.self.invariant.index_is)

pub remove-value-requires : goal.remove-value-requires
remove-value-requires g c = first_in _ _ c.recall_lengths.ensures.cut c.requires.other

pub insert_in_room-requires-clause-fits : goal.insert_in_room-requires-clause-fits
insert_in_room-requires-clause-fits g c = omega (arith, c.self.invariant.is_spine.total_is, ap sum c.self.invariant.index_is, c.make_room.ensures.sum)

pub invariant_of-self-2 : goal.invariant_of-self-2
invariant_of-self-2 g c =
    let spot = spot_in _ _ c.args.self.now c.args.spot c.self.view_is c.requires.spot in
    record {
      is_spine = rw (c.insert_in_room.ensures.nodes ∙ c.in_ok-to.ensures.nodes c.remove-value.result) (spine_inserted _ _ _ c.args.spot c.remove-value.result spot c.self.invariant.is_spine);
      index_is = c.insert_in_room.ensures.index;
    }

pub returns-clause-nodes : goal.returns-clause-nodes
returns-clause-nodes g c =
    some_is _ c.remove-value.result _ c.remove-value.ensures.value
    (c.insert_in_room.ensures.nodes
    ∙ (c.in_ok-to.ensures.nodes c.remove-value.result
    ∙ ap (λ (t : NodeList g.row.T.Denot). with_inserted t.size t.nodes c.args.spot c.remove-value.result)
    c.self.view_is))

pub returns-clause-items : goal.returns-clause-items
returns-clause-items g c =
    let spot = spot_in _ _ c.args.self.now c.args.spot c.self.view_is c.requires.spot in
    some_is _ c.remove-value.result _ c.remove-value.ensures.value
    (ap concat (c.insert_in_room.ensures.nodes ∙ c.in_ok-to.ensures.nodes c.remove-value.result)
    ∙ (joined_inserted _ _ c.args.spot c.remove-value.result spot ∙ ap (λ (t : NodeList g.row.T.Denot). insert (items t) (position_of t.nodes c.args.spot) c.remove-value.result) c.self.view_is))
