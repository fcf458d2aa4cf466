use Rattle.indexset_core.proofs.CallerLemmas.{each_bounded, parted_by_key}
use Rattle.indexset_core.specs.Nodes.{concat}
use Rattle.test_script_logged.proofs.trees.pairs_before.Goals as goal

pub count_before-requires : goal.count_before-requires
count_before-requires g c = each_bounded _ (λ p. parted_by_key g.K.Ord.cmp g.met.K.Ord.total (concat c.args.map.now.nodes) c.node_count-nodes.ensures.lawful.nodes.ascending p.0) c.map.result
