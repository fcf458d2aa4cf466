use Rattle.std.proofs.Common.{◌≡◌, ◌∙◌, ap, slice_get}
use Rattle.std.specs.Ordering.{is_eq}
use Rattle.indexset_core.specs.Nodes.{concat}
use Rattle.indexset_core.specs.Places.{items_before}
use Rattle.indexset_multi.proofs.PositionLemmas.{part_first}
use Rattle.indexset_multi.proofs.multimap.BTreeMultiMap.rank.Goals as goal

pub returns-clause-at_rank : goal.returns-clause-at_rank
returns-clause-at_rank g c has =
    let ns = c.args.self.now.nodes in
    let same : c.self.inside.set.nodes ≡ ns = ap (λ m. m.nodes) c.self.view_is in
    ap (slice_get (concat ns)) (rw same at c.position.ensures)
    ∙ part_first (λ p. is_eq (g.Q.LookupKey.order p.key c.args.key)) (concat ns) (items_before ns c.places_of.result.0) (items_before ns c.places_of.result.1) c.places_of.ensures.pairs has
