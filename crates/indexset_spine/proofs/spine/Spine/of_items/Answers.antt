use Rattle.std.proofs.Common.{◌≡◌, length, sum, ap, ◌∙◌, arith}
use Rattle.indexset_core.specs.Nodes.{node_lengths, vec_items}
use Rattle.indexset_spine.proofs.BlockLemmas.{blocks_spine}
use Rattle.indexset_spine.proofs.spine.Spine.of_items.Goals as goal

pub rebuild-requires-clause-fits : goal.rebuild-requires-clause-fits
rebuild-requires-clause-fits g c =
    let whole = blocks_spine c.args.size c.requires c.args.items.items in
    let lengths = ap (λ v. node_lengths (vec_items v)) c.as_slice.ensures.value ∙ ap node_lengths c.in_ok-nodes.ensures.nodes in
    omega (arith, ap sum lengths, whole.total_is, c.len-len.ensures)

pub invariant_of-result : goal.invariant_of-result
invariant_of-result g c =
    let whole = blocks_spine c.args.size c.requires c.args.items.items in
    let index = c.rebuild.ensures.lengths ∙ ap (λ v. node_lengths (vec_items v)) c.as_slice.ensures.value in
    let len : c.len-len.result ≡ length c.args.items.items = omega (arith, c.len-len.ensures) in
    record { is_spine = rw (c.in_ok-nodes.ensures.nodes, len) whole; index_is = index }
