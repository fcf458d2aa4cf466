use Rattle.std.proofs.Common.{◌∙◌, ap, sym, subst}
use Rattle.indexset_core.specs.KeyRange.{IfBounded}
use Rattle.indexset_core.specs.Nodes.{concat, vec_items}
use Rattle.indexset_core.specs.Parted.{IsParted}
use Rattle.indexset_replica.proofs.Replica.count_before.Goals as goal

pub place_from-place-requires-clause-parted : goal.place_from-place-requires-clause-parted
place_from-place-requires-clause-parted g c =
    subst (λ ns. IfBounded (λ p. IsParted (g.P.Probe.answer p) (concat ns)) c.args.start) (sym (ap (λ vs. vec_items vs) c.as_slice-nodes.ensures.value ∙ ap (λ t. t.nodes) c.self.view_is)) c.requires
