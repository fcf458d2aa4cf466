use Rattle.std.proofs.Common.{refl, ap, ◌∙◌}
use Rattle.std.specs.Option.{option_map}
use Rattle.indexset_core.specs.Pairs.{entry_of}
use Rattle.indexset_map.proofs.SpotLemmas.{item_in, pair_read, value_placed}
use Rattle.indexset_map.proofs.BTreeMap.pair_in_mut.Goals as goal

pub pair_in_mut-requires : goal.pair_in_mut-requires
pair_in_mut-requires g c = item_in c.self.inside.set c.args.self.now c.args.spot c.self.view_is c.requires

pub returns : goal.returns
returns g c = (
  (refl, λ w. value_placed c.self.inside.set c.args.self.now c.args.spot c.self.view_is w),
  record { writes_back = tt; value = ap (option_map entry_of) (pair_read c.self.inside.set c.args.self.now c.args.spot c.self.view_is) ∙ c.pair_in_mut.ensures.value },
)
