use Rattle.std.specs.Ordering.{is_gt}
use Rattle.indexset_core.specs.Nodes.{concat}
use Rattle.indexset_log.proofs.EndRemovalLemmas.{no_key_passes}
use Rattle.indexset_log.proofs.map.BTreeMap.last_key_value.Goals as goal

pub returns-clause-greatest : goal.returns-clause-greatest
returns-clause-greatest g c = rw (← c.self.view_is) (no_key_passes (λ x. is_gt (g.K.Ord.cmp x _)) (concat c.self.inside.set.nodes) c.in_ok-pair.ensures.greatest)
