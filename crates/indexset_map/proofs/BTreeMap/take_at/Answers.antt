use Rattle.std.proofs.Common.{ap, ◌∙◌}
use Rattle.std.specs.Option.{option_map}
use Rattle.indexset_core.specs.Pairs.{entry_of}
use Rattle.indexset_map.proofs.SpotLemmas.{item_in, pair_read, taken_out}
use Rattle.indexset_map.proofs.BTreeMap.take_at.Goals as goal

pub remove_at-key-requires : goal.remove_at-key-requires
remove_at-key-requires g c = item_in c.self.inside.set c.args.self.now c.args.spot c.self.view_is c.requires

pub returns-clause-value : goal.returns-clause-value
returns-clause-value g c = ap (option_map entry_of) (pair_read c.self.inside.set c.args.self.now c.args.spot c.self.view_is ∙ c.remove_at-key.ensures.value)

pub returns-clause-rest : goal.returns-clause-rest
returns-clause-rest g c =
    let out = c.remove_at-key.ensures in
    taken_out c.self.inside.set c.args.self.now c.args.spot c.self.view_is c.remove_at-key.new.set c.requires out.rest out.nodes out.size
