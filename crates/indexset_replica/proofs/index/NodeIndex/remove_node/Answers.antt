use Rattle.std.proofs.Common.{sum, ap, insert, ◌∙◌, arith}
use Rattle.std.proofs.lemmas.List.Sums.{sum_by-insert}
use Rattle.indexset_core.specs.Nodes.{node_lengths, vec_items}
use Rattle.indexset_index.proofs.CallerLemmas.{sum-blocks}
use Rattle.indexset_replica.proofs.index.NodeIndex.remove_node.Goals as goal

pub overflow_sub-self : goal.overflow_sub-self
overflow_sub-self g c =
    let ls = node_lengths (vec_items c.args.nodes.now) in
    let before = ap (λ t. t.sums) c.self.view_is ∙ c.requires.before in
    omega (arith, c.self.invariant, ap sum before, sum-blocks (insert ls c.args.place c.args.count), sum_by-insert (λ x. x) ls c.args.place c.args.count)

pub invariant_of-self : goal.invariant_of-self
invariant_of-self g c =
    let ls = node_lengths (vec_items c.args.nodes.now) in
    let before = ap (λ t. t.sums) c.self.view_is ∙ c.requires.before in
    omega (arith, c.self.invariant, ap sum before, sum-blocks (insert ls c.args.place c.args.count), sum_by-insert (λ x. x) ls c.args.place c.args.count, ap sum c.remove.ensures.sums, sum-blocks ls)
