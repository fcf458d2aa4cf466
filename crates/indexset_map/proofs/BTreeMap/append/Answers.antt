use Rattle.std.proofs.lemmas.Result.{on_ok_weaker, on_err_weaker}
use Rattle.indexset_spine.specs.NodeList.{items}
use Rattle.indexset_map.proofs.PartLemmas.{all_put, some_put}
use Rattle.indexset_map.proofs.BTreeMap.append.Goals as goal

pub returns-clause-nodes : goal.returns-clause-nodes
returns-clause-nodes g c =
    rw (← c.other.view_is)
    (on_ok_weaker c.append.result
    (all_put g.K.Ord.cmp c.self.inside.set c.append.new.self c.args.self.now c.self.view_is c.append.ensures.size
    (items c.other.inside.set))
    c.append.ensures.nodes)

pub returns-clause-err_nodes : goal.returns-clause-err_nodes
returns-clause-err_nodes g c =
    rw (← c.other.view_is)
    (on_err_weaker c.append.result
    (some_put g.K.Ord.cmp c.self.inside.set c.append.new.self c.args.self.now c.self.view_is c.append.ensures.size
    (items c.other.inside.set) _)
    c.append.ensures.err_nodes)
