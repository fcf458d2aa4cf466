use Rattle.indexset_core.proofs.CallerLemmas.{each_bounded, parted_by_item}
use Rattle.indexset_core.specs.Nodes.{concat}
use Rattle.test_script_logged.proofs.trees.items_up_to.Goals as goal

pub count_up_to-requires : goal.count_up_to-requires
count_up_to-requires g c = each_bounded _ (λ p. parted_by_item g.T.Ord.cmp g.met.T.Ord.total (concat c.args.tree.now.nodes) c.node_count-nodes.ensures.lawful.nodes.ascending p.0) c.map.result
