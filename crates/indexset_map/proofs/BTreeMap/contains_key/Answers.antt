use Rattle.std.proofs.Common.{◌∙◌}
use Rattle.indexset_map.proofs.ContentsLemmas.{key_of_pair}
use Rattle.indexset_map.proofs.BTreeMap.contains_key.Goals as goal

pub returns : goal.returns
returns g c = c.is_some.ensures ∙ key_of_pair g.Q.LookupKey.order _ c.args.key c.pair.result c.pair.ensures
