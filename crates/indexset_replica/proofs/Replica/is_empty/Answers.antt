use Rattle.std.proofs.Common.{◌≡◌, ◌==◌, length, map, ap, arith, ◌∙◌}
use Rattle.std.specs.Vec.{vec_len}
use Rattle.std.proofs.lemmas.List.{length-map}
use Rattle.indexset_core.specs.Nodes.{concat}
use Rattle.indexset_replica.proofs.NodeSearchLemmas.{empty_is, filled_each}
use Rattle.indexset_replica.proofs.Replica.is_empty.Goals as goal

pub returns : goal.returns
returns g c =
    let vs = c.self.inside.nodes.items in
    let ns = map (λ v. v.items) vs in
    let nodes = ap (λ t. t.nodes) c.self.view_is in
    let same : vec_len c.self.inside.nodes ≡ length ns = omega (arith, c.self.inside.nodes.ok.0, length-map vs (λ v. v.items)) in
    c.is_empty.ensures
    ∙ (ap (λ k. k == 0) same
    ∙ (empty_is ns (filled_each ns c.self.invariant.nodes.filled) ∙ ap (λ q. length (concat q) == 0) nodes))
