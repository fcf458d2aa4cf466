use Rattle.std.proofs.Common.{◌∙◌}
use Rattle.indexset_core.specs.MultiPairs.{by_number}
use Rattle.indexset_multi.proofs.SearchLemmas.{ok_found, sought_keys}
use Rattle.indexset_multi.proofs.multimap.BTreeMultiMap.contains_key.Goals as goal

pub returns : goal.returns
returns g c =
    let cmp = g.K.Ord.cmp in
    let m = c.args.self.now in
    c.is_ok.ensures.value
    ∙ ok_found (by_number cmp) m.size m.nodes c.locate.ensures.lawful (λ p. g.Q.LookupKey.order p.key c.args.key)
    (sought_keys cmp m.size m.nodes c.locate.ensures.lawful g.met.Q.LookupKey.acts_as_key c.args.key)
    c.locate.result c.locate.ensures.place
