use Rattle.std.proofs.Common.{refl}
use Rattle.std.specs.Ordering.{is_gt}
use Rattle.indexset_core.specs.Nodes.{concat}
use Rattle.indexset_multi.proofs.EndLemmas.{no_key_aside}
use Rattle.indexset_multi.proofs.multimap.BTreeMultiMap.last_key_value.Goals as goal

pub returns-clause-greatest : goal.returns-clause-greatest
returns-clause-greatest g c = rw (← c.self.view_is) (no_key_aside g.K.Ord.cmp c.in_ok-pair.pair.now is_gt refl (concat c.self.inside.set.nodes) c.in_ok-pair.ensures.greatest)
