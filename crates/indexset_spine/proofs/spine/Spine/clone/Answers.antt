use Rattle.std.proofs.Common.{◌∙◌, ap, sum, arith}
use Rattle.indexset_core.specs.Nodes.{node_lengths, vec_items}
use Rattle.indexset_spine.proofs.spine.Spine.clone.Goals as goal

pub rebuild-requires-clause-fits : goal.rebuild-requires-clause-fits
rebuild-requires-clause-fits g c =
    let lengths = ap (λ v. node_lengths (vec_items v)) c.as_slice-2.ensures.value ∙ (c.in_ok-nodes.ensures.lengths ∙ ap (λ v. node_lengths (vec_items v)) c.as_slice.ensures.value) in
    omega (arith, ap sum c.self.invariant.index_is, ap sum lengths)
