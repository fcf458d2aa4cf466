use Rattle.std.proofs.Common.{length, sum, ap, arith, ◌∙◌}
use Rattle.std.specs.Fn.{CalledAtMut}
use Rattle.indexset_core.specs.Nodes.{node_lengths, vec_items}
use Rattle.indexset_core.proofs.CallerLemmas.{length-concat}
use Rattle.indexset_index.proofs.CallerLemmas.{count-lengths}
use Rattle.indexset_spine.proofs.IndexLemmas.{retained_few}
use Rattle.indexset_spine.proofs.VecNodes.{length-vec_items}
use Rattle.indexset_spine.proofs.RetainSteps.{nodes_joined, nodes_shorter, nodes_spine}
use Rattle.indexset_spine.proofs.spine.Spine.retain_mut.Goals as goal

pub count_items-self-inside-requires : goal.count_items-self-inside-requires
count_items-self-inside-requires g c =
    let few = nodes_shorter (CalledAtMut g.F.FnMut) _ _ _ c.retain_nodes.ensures in
    rw c.as_slice.ensures.value (omega (arith, few, c.self.invariant.is_spine.total_is, length-concat (vec_items c.self.inside.nodes.items)))

pub rebuild-requires-clause-room : goal.rebuild-requires-clause-room
rebuild-requires-clause-room g c =
    let ns = vec_items c.self.inside.nodes.items in
    let some = c.self.invariant.is_spine.is_cut.some in
    let few = retained_few (CalledAtMut g.F.FnMut) _ _ _ c.retain_nodes.ensures (omega (arith, some, count-lengths ns)) in
    let nodes = ap (λ v. length v) c.as_slice-2.ensures.value in
    omega (arith, few, nodes, length-vec_items c.retain_nodes.new.nodes.items, count-lengths ns, c.recall_bounds.ensures.within, ap (λ l. length l) c.self.invariant.index_is)

pub rebuild-requires-clause-fits : goal.rebuild-requires-clause-fits
rebuild-requires-clause-fits g c =
    let few = nodes_shorter (CalledAtMut g.F.FnMut) _ _ _ c.retain_nodes.ensures in
    let nodes = c.retain_nodes.new.nodes.items in
    omega (
      arith,
      few,
      c.recall_bounds.ensures.fits,
      ap sum c.self.invariant.index_is,
      length-concat (vec_items c.self.inside.nodes.items),
      length-concat (vec_items nodes),
      ap (λ v. sum (node_lengths (vec_items v))) c.as_slice-2.ensures.value,
    )

pub invariant_of-self : goal.invariant_of-self
invariant_of-self g c = record {
  is_spine =
      nodes_spine (CalledAtMut g.F.FnMut) _ _ _ c.retain_nodes.ensures c.self.inside.size
      c.count_items-self-inside.result c.self.invariant.is_spine.is_cut
      (rw c.as_slice.ensures.value at c.count_items-self-inside.ensures);
  index_is = c.rebuild.ensures.lengths ∙ ap (λ v. node_lengths (vec_items v)) c.as_slice-2.ensures.value;
}

pub returns-clause-kept : goal.returns-clause-kept
returns-clause-kept g c = rw (← c.self.view_is) (nodes_joined (CalledAtMut g.F.FnMut) _ _ _ c.retain_nodes.ensures)
