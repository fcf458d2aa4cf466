use Rattle.indexset_map.proofs.KeyLemmas.{contents_removed}
use Rattle.indexset_map.proofs.BTreeMap.pop_first.Goals as goal

pub returns-clause-nodes : goal.returns-clause-nodes
returns-clause-nodes g c =
    let out = c.in_ok-key.ensures {u = tt} in
    contents_removed c.self.inside.set c.pop_first.new.self c.args.self.now 0 c.self.view_is out.rest out.nodes out.size
