use Rattle.indexset_map.proofs.ContentsLemmas.{value_there}
use Rattle.indexset_map.proofs.lookup.BTreeMapIndex.index.Goals as goal

pub unwrap-requires : goal.unwrap-requires
unwrap-requires g c = value_there g.Q.LookupKey.order c.args.self.now.pairs c.args.key c.requires c.get.result c.get.ensures
