use Rattle.std.proofs.Common.{◌+◌, ◌++◌, map, length, ap, arith, length-append}
use Rattle.indexset_core.specs.Nodes.{concat}
use Rattle.indexset_core.proofs.NodeLemmas.{length-concat-take, more_read}
use Rattle.indexset_core.proofs.item_iter.ItemIter.item_count.Goals as goal

pub overflow_add-count : goal.overflow_add-count
overflow_add-count g c =
    let list = g.R.NodeItems.list in
    let s = c.self.inside in
    let nodes = s.middle.now in
    record {
      fits = omega (
        arith,
        more_read list nodes c.loop-node.node-index c.node-item.result (omega arith) c.node-item.is,
        ap (λ l. length l) c.items_of.ensures,
        length-concat-take (map list nodes) (c.loop-node.node-index + 1),
        length-append s.front.now (concat (map list nodes) ++ s.back.now),
        length-append (concat (map list nodes)) s.back.now,
        ap (λ l. length l) c.self.view_is,
        c.requires,
      );
    }

pub loop-node-preserved : goal.loop-node-preserved
loop-node-preserved g c =
    omega (arith, ap (λ l. length l) c.items_of.ensures, more_read g.R.NodeItems.list c.self.inside.middle.now c.loop-node.node-index c.node-item.result (omega arith) c.node-item.is)
