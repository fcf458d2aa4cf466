use Rattle.std.proofs.Common.{length, arith}
use Rattle.indexset_core.specs.Nodes.{vec_items}
use Rattle.std.proofs.lemmas.List.{length-map}
use Rattle.indexset_spine.proofs.VecNodes.{length-vec_items}
use Rattle.indexset_spine.proofs.NodeListLemmas.{few_nodes, spine_len}
use Rattle.indexset_spine.proofs.spine.Spine.node_count.Goals as goal

pub returns-clause-node_bound : goal.returns-clause-node_bound
returns-clause-node_bound g c =
    let vs = c.self.inside.nodes.items in
    omega (
      arith,
      few_nodes _ _ c.self.invariant.is_spine.is_cut,
      c.self.invariant.is_spine.total_is,
      spine_len _ _ _ c.args.self.now c.self.view_is c.self.invariant.is_spine,
      length-map (vec_items vs) (λ n. length n),
      length-vec_items vs,
      c.self.inside.nodes.ok,
    )
