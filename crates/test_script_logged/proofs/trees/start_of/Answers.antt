use Rattle.indexset_core.proofs.CallerLemmas.{parted_by_item}
use Rattle.indexset_core.specs.Nodes.{concat}
use Rattle.test_script_logged.proofs.trees.start_of.Goals as goal

pub place_from-requires : goal.place_from-requires
place_from-requires g c = rw c.new.ensures (parted_by_item g.T.Ord.cmp g.met.T.Ord.total (concat c.args.tree.now.nodes) c.node_count-nodes.ensures.lawful.nodes.ascending c.args.value.now)
