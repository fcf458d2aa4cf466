use Rattle.std.proofs.Common.{◌≡◌, find, slice_get, ap, sym, ◌∙◌, arith}
use Rattle.indexset_core.specs.Nodes.{concat}
use Rattle.indexset_core.proofs.CallerLemmas.{between_le, get_in_node}
use Rattle.indexset_core.specs.Places.{items_before}
use Rattle.indexset_multi.proofs.ReadingLemmas.{between_inside, slice_between}
use Rattle.indexset_multi.proofs.multimap.BTreeMultiMap.equal_place.Goals as goal

pub range_between-requires : goal.range_between-requires
range_between-requires g c =
    let same : c.self.inside.set.nodes ≡ c.args.self.now.nodes = ap (λ m. m.nodes) c.self.view_is in
    rw same (record { from = c.places_of.ensures.from; to = c.places_of.ensures.to; order = c.places_of.ensures.order })

pub index_of-requires : goal.index_of-requires
index_of-requires g c =
    let ns = c.args.self.now.nodes in
    let same : c.self.inside.set.nodes ≡ ns = ap (λ m. m.nodes) c.self.view_is in
    let part = rw same at c.range_between.ensures.rest in
    rw part
    (omega (arith, between_le (concat ns) (items_before ns c.places_of.result.0) (items_before ns c.places_of.result.1), c.recall_invariant.ensures.items))

pub place_ahead-requires : goal.place_ahead-requires
place_ahead-requires g c =
    let ns = c.args.self.now.nodes in
    let same : c.self.inside.set.nodes ≡ ns = ap (λ m. m.nodes) c.self.view_is in
    let part = rw same at c.range_between.ensures.rest in
    let index = rw part at c.in_ok-index.ensures in
    rw same (record {
      place = c.places_of.ensures.from;
      within = between_inside (items_before ns c.places_of.result.0) (items_before ns c.places_of.result.1) (concat ns) c.in_ok-index.index index.0;
    })

pub returns-clause-pair : goal.returns-clause-pair
returns-clause-pair g c =
    let ns = c.args.self.now.nodes in
    let from = items_before ns c.places_of.result.0 in
    let to = items_before ns c.places_of.result.1 in
    let same : c.self.inside.set.nodes ≡ ns = ap (λ m. m.nodes) c.self.view_is in
    let part = rw same at c.range_between.ensures.rest in
    let index = rw part at c.in_ok-index.ensures in
    let node = rw same at c.place_ahead.ensures.node in
    let offset = rw same at c.place_ahead.ensures.offset in
    let place = rw same at c.place_ahead.ensures.before in
    sym (get_in_node ns c.place_ahead.result.0 c.place_ahead.result.1 node offset)
    ∙ (ap (λ i. slice_get (concat ns) i) place
    ∙ (sym (slice_between from to (concat ns) c.in_ok-index.index index.0)
    ∙ (index.1 ∙ ap (λ l. find (λ p. g.V.PartialEq.eq p.value c.args.value.now) l) c.places_of.ensures.pairs)))
