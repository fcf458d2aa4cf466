use Rattle.std.proofs.Common.{◌∙◌, ap, arith, length, subst, sum, sym, take}
use Rattle.indexset_spine.specs.Lengths.{IsItemPlace, node_of}
use Rattle.indexset_spine.proofs.CallerLemmas.{item_place}
use Rattle.indexset_map.specs.Contents.{Contents}
use Rattle.indexset_map.proofs.SpotLemmas.{place_at}
use Rattle.indexset_map.proofs.BTreeMap.spot_near.Goals as goal

pub spot_near-requires-clause-near : goal.spot_near-requires-clause-near
spot_near-requires-clause-near g c = c.requires.near ∙ ap (λ (m : Contents g.row.K.Denot g.row.V.Denot). sum (take c.args.near m.lengths)) (sym c.self.view_is)

pub spot_near-requires-clause-inside : goal.spot_near-requires-clause-inside
spot_near-requires-clause-inside g c = omega (arith, ap (λ (m : Contents g.row.K.Denot g.row.V.Denot). length m.pairs) c.self.view_is, c.requires.inside)

pub returns-clause-item : goal.returns-clause-item
returns-clause-item g c =
    subst (λ (m : Contents g.row.K.Denot g.row.V.Denot). IsItemPlace m.lengths c.spot_near.result) c.self.view_is (item_place c.self.inside.set.nodes c.spot_near.result c.spot_near.ensures.spot)

pub returns-clause-position : goal.returns-clause-position
returns-clause-position g c = place_at c.self.inside.set c.args.self.now c.spot_near.result c.self.view_is ∙ c.spot_near.ensures.position

pub returns-clause-node : goal.returns-clause-node
returns-clause-node g c = c.spot_near.ensures.node ∙ ap (λ (m : Contents g.row.K.Denot g.row.V.Denot). node_of m.lengths c.args.i) c.self.view_is
