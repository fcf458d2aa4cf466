use Rattle.std.proofs.Common.{ap, ◌∙◌}
use Rattle.std.specs.Option.{option_map}
use Rattle.indexset_core.specs.Pairs.{entry_of}
use Rattle.indexset_map.proofs.SpotLemmas.{item_in, pair_read}
use Rattle.indexset_map.proofs.BTreeMap.pair_in.Goals as goal

pub element-pair-requires : goal.element-pair-requires
element-pair-requires g c = item_in c.self.inside.set c.args.self.now c.args.spot.now c.self.view_is c.requires

pub returns : goal.returns
returns g c = ap (option_map entry_of) (pair_read c.self.inside.set c.args.self.now c.args.spot.now c.self.view_is ∙ c.element-pair.ensures)
