use Rattle.indexset_log.proofs.map.BTreeMap.attach_node.Goals as goal

pub returns-clause-refusal : goal.returns-clause-refusal
returns-clause-refusal g c =
    let done = rw c.self.view_is at c.attach_node.ensures in
    done.refusal
