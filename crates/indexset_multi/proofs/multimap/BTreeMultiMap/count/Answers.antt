use Rattle.std.proofs.Common.{◌≡◌, ◌∙◌, ◌-◌, ap, length}
use Rattle.indexset_multi.proofs.PositionLemmas.{count_between}
use Rattle.indexset_multi.proofs.multimap.BTreeMultiMap.count.Goals as goal

pub returns : goal.returns
returns g c =
    let ns = c.args.self.now.nodes in
    let same : c.self.inside.set.nodes ≡ ns = ap (λ m. m.nodes) c.self.view_is in
    let to = rw same at c.position.ensures in
    let from = rw same at c.position-2.ensures in
    (λ i. to i - from i) ∙ (count_between ns c.places_of.result.0 c.places_of.result.1 c.places_of.ensures.to ∙ ap (λ l. length l) c.places_of.ensures.pairs)
