use Rattle.indexset_core.proofs.CallerLemmas.{index_is}
use Rattle.indexset_core.specs.Nodes.{concat}
use Rattle.indexset_log.proofs.set.BTreeSet.index_of.Goals as goal

pub returns-clause-value : goal.returns-clause-value
returns-clause-value g c =
    let told = c.position_by.ensures in
    rw c.ok.ensures.value
    (index_is _ (concat c.args.self.now.nodes) c.by_item.ensures.parted c.position_by.result
    (rw c.by_item.ensures.probe at told.found) (rw c.by_item.ensures.probe at told.absent)).value

pub returns-clause-at_index : goal.returns-clause-at_index
returns-clause-at_index g c =
    let told = c.position_by.ensures in
    rw c.ok.ensures.value
    (index_is _ (concat c.args.self.now.nodes) c.by_item.ensures.parted c.position_by.result
    (rw c.by_item.ensures.probe at told.found) (rw c.by_item.ensures.probe at told.absent)).there
