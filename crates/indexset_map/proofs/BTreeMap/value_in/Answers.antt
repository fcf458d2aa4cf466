use Rattle.std.proofs.Common.{refl, ap, ◌∙◌}
use Rattle.std.specs.Option.{option_map}
use Rattle.indexset_map.proofs.SpotLemmas.{item_in, pair_read, value_placed}
use Rattle.indexset_map.proofs.BTreeMap.value_in.Goals as goal

pub value_in-requires : goal.value_in-requires
value_in-requires g c = item_in c.self.inside.set c.args.self.now c.args.spot c.self.view_is c.requires

pub returns : goal.returns
returns g c = (
  (refl, λ w. value_placed c.self.inside.set c.args.self.now c.args.spot c.self.view_is w),
  record { writes_back = tt; value = ap (option_map (λ p. p.value)) (pair_read c.self.inside.set c.args.self.now c.args.spot c.self.view_is) ∙ c.value_in.ensures.value },
)
