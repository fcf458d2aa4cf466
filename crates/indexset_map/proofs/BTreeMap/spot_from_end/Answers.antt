use Rattle.std.proofs.Common.{ℕ, ap}
use Rattle.indexset_spine.specs.NodeList.{items}
use Rattle.indexset_core.proofs.CallerLemmas.{parted_by_key}
use Rattle.indexset_set.proofs.CallerLemmas.{in_order}
use Rattle.indexset_map.proofs.SpotLemmas.{sought_key}
use Rattle.indexset_core.specs.LookupKey.{acts_as_itself}
use Rattle.indexset_map.proofs.BTreeMap.spot_from_end.Goals as goal

pub spot_from_end_by-requires : goal.spot_from_end_by-requires
spot_from_end_by-requires g c =
    let l = items c.self.inside.set in
    in_order (λ p. g.K.Ord.cmp p.key c.new.result.0) l (parted_by_key g.K.Ord.cmp g.met.K.Ord.total l c.recall_order.ensures.ascending c.new.result.0)

pub returns-clause-spot : goal.returns-clause-spot
returns-clause-spot g c =
    let told = c.spot_from_end_by.ensures in
    sought_key g.K.Ord.cmp (acts_as_itself g.met.K.Ord.total) c.self.inside.set c.args.self.now c.new.result.0
    c.args.key.now c.spot_from_end_by.result c.self.view_is (ap (λ (t : g.row.K.Denot × ℕ). t.0) c.new.ensures)
    told.ascending told.cut told.spot
