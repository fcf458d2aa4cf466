use Rattle.std.proofs.Common.{◌∙◌}
use Rattle.indexset_core.proofs.OrderLemmas.{parted_by_item, place_found}
use Rattle.indexset_core.proofs.node.VecNodeLike.try_select.Goals as goal

pub returns : goal.returns
returns g c =
    let cmp = g.T.Ord.cmp in
    c.ok.ensures.value
    ∙ place_found cmp _ _ c.find.result (parted_by_item cmp g.met.T.Ord.total _ c.requires c.args.value.now)
    (rw (← c.as_slice.ensures.value) c.find.ensures.found) (rw (← c.as_slice.ensures.value) c.find.ensures.absent)
