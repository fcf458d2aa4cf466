use Rattle.std.proofs.Common.{ℕ, ap, arith, sym}
use Rattle.indexset_spine.specs.NodeList.{items}
use Rattle.indexset_set.proofs.SetCursorLemmas.{before_node, position_le}
use Rattle.indexset_set.proofs.BTreeSet.cursor_in.Goals as goal

pub invariant_of-result : goal.invariant_of-result
invariant_of-result g c =
    let ns = c.self.inside.spine.nodes in let is = c.position-position.ensures in
    rw (← c.self.view_is) (omega (arith, is, position_le ns c.args.spot (rw (← c.self.view_is) at c.requires)), before_node ns c.args.spot _ (sym is))

pub returns : goal.returns
returns g c =
    let ns = c.self.inside.spine.nodes in let is = c.position-position.ensures in
    rw (← c.self.view_is) (ap (λ (i : ℕ). record { list = items c.self.inside.spine; position = i }) (omega (arith, is, position_le ns c.args.spot (rw (← c.self.view_is) at c.requires))))
