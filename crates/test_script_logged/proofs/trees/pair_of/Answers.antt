use Rattle.indexset_core.proofs.CallerLemmas.{parted_by_key}
use Rattle.indexset_core.specs.Nodes.{concat}
use Rattle.test_script_logged.proofs.trees.pair_of.Goals as goal

pub get_key_value_by-requires : goal.get_key_value_by-requires
get_key_value_by-requires g c = rw c.new.ensures (parted_by_key g.K.Ord.cmp g.met.K.Ord.total (concat c.args.map.now.nodes) c.node_count-nodes.ensures.lawful.nodes.ascending c.args.key.now)
