use Rattle.indexset_core.specs.MultiPairs.{by_number}
use Rattle.indexset_multi.proofs.SearchLemmas.{ok_item, ok_place, sought_keys}
use Rattle.indexset_multi.proofs.multimap.BTreeMultiMap.first_place.Goals as goal

pub returns-clause-place : goal.returns-clause-place
returns-clause-place g c =
    let order = g.Q.LookupKey.order in
    let m = c.args.self.now in
    rw c.ok.ensures.value
    (ok_place (by_number g.K.Ord.cmp) m.size m.nodes c.locate.ensures.lawful (λ p. order p.key c.args.key.now)
    (sought_keys g.K.Ord.cmp m.size m.nodes c.locate.ensures.lawful g.met.Q.LookupKey.acts_as_key c.args.key.now)
    c.locate.result c.locate.ensures.place)

pub returns-clause-pair : goal.returns-clause-pair
returns-clause-pair g c =
    let order = g.Q.LookupKey.order in
    let m = c.args.self.now in
    rw c.ok.ensures.value
    (ok_item (by_number g.K.Ord.cmp) m.size m.nodes c.locate.ensures.lawful (λ p. order p.key c.args.key.now)
    (sought_keys g.K.Ord.cmp m.size m.nodes c.locate.ensures.lawful g.met.Q.LookupKey.acts_as_key c.args.key.now)
    c.locate.result c.locate.ensures.place)
