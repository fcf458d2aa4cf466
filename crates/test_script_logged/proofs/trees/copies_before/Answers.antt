use Rattle.indexset_core.proofs.CallerLemmas.{each_bounded, parted_by_item}
use Rattle.indexset_core.specs.Nodes.{concat}
use Rattle.test_script_logged.proofs.trees.copies_before.Goals as goal

pub count_before-requires : goal.count_before-requires
count_before-requires g c = each_bounded _ (λ p. parted_by_item g.T.Ord.cmp g.met.T.Ord.total (concat c.args.replica.now.nodes) c.nodes-nodes.ensures.lawful.ascending p.0) c.map.result
