use Rattle.indexset_map.proofs.KeyLemmas.{contents_removed}
use Rattle.indexset_map.proofs.BTreeMap.pop_index.Goals as goal

pub returns-clause-rest : goal.returns-clause-rest
returns-clause-rest g c =
    let out = c.pop_index-key.ensures in
    contents_removed c.self.inside.set c.pop_index-key.new.self c.args.self.now c.args.i c.self.view_is out.rest out.nodes out.size
