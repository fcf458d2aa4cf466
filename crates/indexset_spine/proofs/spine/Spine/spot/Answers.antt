use Rattle.std.proofs.Common.{length, sum, refl, arith, ap}
use Rattle.indexset_core.proofs.CallerLemmas.{length-concat}
use Rattle.indexset_spine.specs.NodeList.{items}
use Rattle.indexset_core.specs.Nodes.{vec_items}
use Rattle.indexset_spine.proofs.IndexLemmas.{spot_found}
use Rattle.indexset_spine.proofs.spine.Spine.spot.Goals as goal

pub returns-in_err-node : goal.returns-in_err-node
returns-in_err-node g c =
    rw c.from_residual.ensures (omega (arith, c.in_err-node.ensures, ap sum c.self.invariant.index_is, length-concat (vec_items c.self.inside.nodes.items), ap (λ t. length (items t)) c.self.view_is))

pub returns : goal.returns
returns g c =
    let here = rw c.self.invariant.index_is at c.in_ok-node.ensures in
    let found = spot_found (vec_items c.self.inside.nodes.items) c.args.i (record { node = c.in_ok-node.node; offset = c.in_ok-node.offset; found = _ }) here in
    rw (← c.self.view_is) (found.0, found.1, refl)
