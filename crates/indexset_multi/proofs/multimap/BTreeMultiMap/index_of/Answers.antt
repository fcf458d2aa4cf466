use Rattle.std.proofs.Common.{◌≡◌, ◌+◌, ◌∙◌, ap, slice_get, arith}
use Rattle.indexset_core.specs.Nodes.{concat}
use Rattle.indexset_core.proofs.CallerLemmas.{get_in_node, length-concat-more, length-concat-take}
use Rattle.indexset_multi.proofs.multimap.BTreeMultiMap.index_of.Goals as goal

pub returns : goal.returns
returns g c =
    let ns = c.args.self.now.nodes in
    let p = c.in_ok-place.place in
    let place = c.in_ok-place.ensures.place in
    let same : c.self.inside.set.nodes ≡ ns = ap (λ m. m.nodes) c.self.view_is in
    let at = rw same at c.position.ensures in (
      omega (arith, at, place.0, place.1, length-concat-more ns p.0 place.0, length-concat-take ns (p.0 + 1)),
      ap (slice_get (concat ns)) at ∙ (get_in_node ns p.0 p.1 place.0 place.1 ∙ c.in_ok-place.ensures.pair),
    )
