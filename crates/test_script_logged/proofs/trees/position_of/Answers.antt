use Rattle.indexset_core.proofs.CallerLemmas.{parted_by_item}
use Rattle.indexset_core.specs.Nodes.{concat}
use Rattle.test_script_logged.proofs.trees.position_of.Goals as goal

pub position_by-requires : goal.position_by-requires
position_by-requires g c = rw c.new.ensures (parted_by_item g.T.Ord.cmp g.met.T.Ord.total (concat c.args.tree.now.nodes) c.node_count-nodes.ensures.lawful.nodes.ascending c.args.value.now)
