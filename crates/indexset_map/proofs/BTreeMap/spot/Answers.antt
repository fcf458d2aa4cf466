use Rattle.std.proofs.Common.{ℕ, ap}
use Rattle.indexset_spine.specs.NodeList.{items}
use Rattle.indexset_core.proofs.CallerLemmas.{parted_by_sought_key}
use Rattle.indexset_set.proofs.CallerLemmas.{in_order}
use Rattle.indexset_map.proofs.SpotLemmas.{sought_key}
use Rattle.indexset_map.proofs.BTreeMap.spot.Goals as goal

pub spot_by-requires : goal.spot_by-requires
spot_by-requires g c =
    let l = items c.self.inside.set in
    in_order (λ p. g.Q.LookupKey.order p.key c.new.result.0) l (parted_by_sought_key g.met.Q.LookupKey.acts_as_key l c.recall_order.ensures.ascending c.new.result.0)

pub returns-clause-spot : goal.returns-clause-spot
returns-clause-spot g c =
    let told = c.spot_by.ensures in
    sought_key g.Q.LookupKey.order g.met.Q.LookupKey.acts_as_key c.self.inside.set c.args.self.now c.new.result.0
    c.args.key c.spot_by.result c.self.view_is (ap (λ (t : g.row.Q.Denot × ℕ). t.0) c.new.ensures) told.ascending
    told.cut told.spot
