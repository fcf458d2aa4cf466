use Rattle.std.proofs.Common.{◌∙◌, length, ap, min}
use Rattle.std.specs.Range.Bound.{start_index, end_index}
use Rattle.indexset_spine.specs.NodeList.{items}
use Rattle.indexset_core.proofs.CallerLemmas.{clipped}
use Rattle.indexset_core.proofs.CallerLemmas.{between_up}
use Rattle.indexset_set.proofs.BTreeSet.range_idx.Goals as goal

pub returns-clause-ascending : goal.returns-clause-ascending
returns-clause-ascending g c = rw (c.of.ensures, c.iter_between.ensures.rest) (between_up g.T.Ord.cmp _ _ _ c.self.invariant)

pub returns-clause-rest : goal.returns-clause-rest
returns-clause-rest g c =
    let to = rw (c.len-len.ensures.value, c.end_bound.ensures) at c.end_position-to.ensures in
    let from = c.min-from.ensures ∙ ap (λ n. min n c.end_position-to.result) (rw (c.len-len.ensures.value, c.start_bound.ensures) at c.first_position.ensures) in
    rw (← c.self.view_is)
    (c.of.ensures ∙ c.iter_between.ensures.rest
    ∙ clipped _ (start_index (g.R.PositionRange.start c.args.range))
    (end_index (g.R.PositionRange.end c.args.range) (length (items c.self.inside.spine))) _ _
    (rw (← c.self.view_is) at to) (rw (← c.self.view_is) at from))
