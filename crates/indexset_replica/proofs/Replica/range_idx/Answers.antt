use Rattle.std.proofs.Common.{◌≡◌, ◌∙◌, length, ap, min}
use Rattle.std.specs.Map.Iter.{deref}
use Rattle.std.specs.Range.Bound.{start_index, end_index}
use Rattle.std_collections.proofs.IterRuns.{shows_in_order, shows_in_reverse}
use Rattle.indexset_core.specs.Nodes.{concat, vec_items}
use Rattle.indexset_replica.proofs.PartLemmas.{clipped}
use Rattle.indexset_replica.proofs.Replica.range_idx.Goals as goal

pub returns-clause-rest : goal.returns-clause-rest
returns-clause-rest g c =
    let l = concat c.args.self.now.nodes in
    let same : vec_items c.as_slice-nodes.result.now ≡ c.args.self.now.nodes = ap (λ vs. vec_items vs) c.as_slice-nodes.ensures.value ∙ ap (λ t. t.nodes) c.self.view_is in
    let to = rw (c.len-len.ensures, c.end_bound.ensures) at c.end_position-to.ensures in
    let from = c.min-from.ensures ∙ ap (λ n. min n c.end_position-to.result) (rw (c.len-len.ensures, c.start_bound.ensures) at c.first_position.ensures) in
    rw (c.place_after.ensures.before, c.place_after-2.ensures.before, same) at c.between.ensures
    ∙ clipped l (start_index (g.R.PositionRange.start c.args.range)) (end_index (g.R.PositionRange.end c.args.range) (length l)) c.min-from.result c.end_position-to.result to from

pub returns-clause-runs : goal.returns-clause-runs
returns-clause-runs g c = shows_in_order deref

pub returns-clause-runs_back : goal.returns-clause-runs_back
returns-clause-runs_back g c = shows_in_reverse deref
