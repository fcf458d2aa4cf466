use Rattle.indexset_multi.proofs.SearchLemmas.{sought_keys}
use Rattle.indexset_multi.proofs.multimap.BTreeMultiMap.locate.Goals as goal

pub locate_by-requires : goal.locate_by-requires
locate_by-requires g c = sought_keys g.K.Ord.cmp c.self.inside.set.size c.self.inside.set.nodes c.recall_invariant.ensures.tree.lawful g.met.Q.LookupKey.acts_as_key c.new.result.0
