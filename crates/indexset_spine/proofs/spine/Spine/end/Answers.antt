use Rattle.std.proofs.Common.{length, arith}
use Rattle.std.proofs.lemmas.List.{length-map}
use Rattle.indexset_core.specs.Nodes.{vec_items}
use Rattle.indexset_spine.proofs.PartLemmas.{spine_end}
use Rattle.indexset_spine.proofs.VecNodes.{length-vec_items}
use Rattle.indexset_spine.proofs.spine.Spine.end.Goals as goal

pub returns-clause-position : goal.returns-clause-position
returns-clause-position g c =
    let vs = c.self.inside.nodes.items in
    spine_end vs c.self.inside.size _ c.self.view_is _ _ c.index.result.now
    (omega (
      arith,
      c.len-node.ensures,
      c.self.invariant.is_spine.is_cut.some,
      length-map (vec_items vs) (λ n. length n),
      length-vec_items vs,
    ))
    c.index.ensures (omega (arith, c.len.ensures, c.index.result.now.ok))
