use Rattle.std.proofs.Common.{◌∙◌, arith, ap, sym, length, map, take}
use Rattle.std.proofs.lemmas.List.{length-take-le}
use Rattle.indexset_core.specs.Nodes.{concat}
use Rattle.indexset_core.proofs.ItemIterLemmas.{walk_none, walk_back, walk_in, walk_across, place_node, place_offset, some_node, no_node}
use Rattle.indexset_core.proofs.item_iter.ItemIter.between.Goals as goal
use Rattle.indexset_core.proofs.item_iter.ItemIter.between.Goals.{then-is_empty-via-then-is_empty, then-is_empty-via-else-is_empty+then-from-to}

pub returns-then-is_empty : goal.returns-then-is_empty
returns-then-is_empty g c =
    let list = g.R.NodeItems.list in
    let ns = c.args.nodes.now in
    elim c.then-is_empty.branch [
      | then-is_empty-via-then-is_empty w ↦
          c.over.ensures
          ∙ walk_none list ns c.args.from c.args.to c.requires.from c.requires.to
          (no_node c.is_empty.result (length ns) c.is_empty.ensures w.if-is_empty.true)
      | then-is_empty-via-else-is_empty+then-from-to w ↦
          c.over.ensures
          ∙ walk_back list ns c.args.from c.args.to c.requires.from c.requires.to
          (some_node c.is_empty.result (length ns) c.is_empty.ensures w.if-is_empty.false) w.if-from-to.true
    ]

pub returns-then-from-to-2 : goal.returns-then-from-to-2
returns-then-from-to-2 g c =
    rw c.items_of-first.ensures
    (walk_in g.R.NodeItems.list c.args.nodes.now c.args.from c.args.to c.requires.from c.requires.to
    (some_node c.is_empty.result (length c.args.nodes.now) c.is_empty.ensures c.if-is_empty.false)
    c.index-nodes-from.result c.index-nodes-from.is c.if-from-to-2.true)

pub returns : goal.returns
returns g c =
    rw (c.items_of-first.ensures, c.items_of-last.ensures)
    (walk_across g.R.NodeItems.list c.args.nodes.now c.args.from c.args.to c.requires.from c.requires.to
    (some_node c.is_empty.result (length c.args.nodes.now) c.is_empty.ensures c.if-is_empty.false)
    c.index-nodes-from.result c.index-nodes-to.result c.index-nodes-from.is c.index-nodes-to.is (omega arith))

pub offset_bounds-nodes-from : goal.offset_bounds-nodes-from
offset_bounds-nodes-from g c = omega (
  arith,
  place_node g.R.NodeItems.list c.args.nodes.now c.args.from c.requires.from (some_node c.is_empty.result (length c.args.nodes.now) c.is_empty.ensures c.if-is_empty.false),
)

pub bounds-nodes-from : goal.bounds-nodes-from
bounds-nodes-from g c = place_node g.R.NodeItems.list c.args.nodes.now c.args.from c.requires.from (some_node c.is_empty.result (length c.args.nodes.now) c.is_empty.ensures c.if-is_empty.false)

pub offset_bounds-first-from : goal.offset_bounds-first-from
offset_bounds-first-from g c =
    rw c.items_of-first.ensures
    (place_offset g.R.NodeItems.list c.args.nodes.now c.args.from c.requires.from
    (some_node c.is_empty.result (length c.args.nodes.now) c.is_empty.ensures c.if-is_empty.false)
    c.index-nodes-from.result c.index-nodes-from.is)

pub slice_bounds-result-count : goal.slice_bounds-result-count
slice_bounds-result-count g c = omega (arith, c.requires.order, ap (λ k. length (concat (take k (map g.R.NodeItems.list c.args.nodes.now)))) c.if-from-to-2.true)

pub offset_bounds-nodes-to : goal.offset_bounds-nodes-to
offset_bounds-nodes-to g c = omega (
  arith,
  place_node g.R.NodeItems.list c.args.nodes.now c.args.to c.requires.to (some_node c.is_empty.result (length c.args.nodes.now) c.is_empty.ensures c.if-is_empty.false),
)

pub bounds-nodes-to : goal.bounds-nodes-to
bounds-nodes-to g c = place_node g.R.NodeItems.list c.args.nodes.now c.args.to c.requires.to (some_node c.is_empty.result (length c.args.nodes.now) c.is_empty.ensures c.if-is_empty.false)

pub offset_bounds-first-from-2 : goal.offset_bounds-first-from-2
offset_bounds-first-from-2 g c =
    rw c.items_of-first.ensures
    (place_offset g.R.NodeItems.list c.args.nodes.now c.args.from c.requires.from
    (some_node c.is_empty.result (length c.args.nodes.now) c.is_empty.ensures c.if-is_empty.false)
    c.index-nodes-from.result c.index-nodes-from.is)

pub slice_bounds-result-count-2 : goal.slice_bounds-result-count-2
slice_bounds-result-count-2 g c =
    rw c.items_of-first.ensures
    (place_offset g.R.NodeItems.list c.args.nodes.now c.args.from c.requires.from
    (some_node c.is_empty.result (length c.args.nodes.now) c.is_empty.ensures c.if-is_empty.false)
    c.index-nodes-from.result c.index-nodes-from.is)

pub offset_bounds-nodes-from-2 : goal.offset_bounds-nodes-from-2
offset_bounds-nodes-from-2 g c = omega (
  arith,
  place_node g.R.NodeItems.list c.args.nodes.now c.args.from c.requires.from (some_node c.is_empty.result (length c.args.nodes.now) c.is_empty.ensures c.if-is_empty.false),
)

pub slice_bounds-result-count-3 : goal.slice_bounds-result-count-3
slice_bounds-result-count-3 g c = omega (arith, c.if-from-to.false, c.if-from-to-2.false)

pub slice_bounds-result-end-4 : goal.slice_bounds-result-end-4
slice_bounds-result-end-4 g c =
    sym
    (length-take-le c.args.to.1 c.items_of-last.result.now
    (rw c.items_of-last.ensures
    (place_offset g.R.NodeItems.list c.args.nodes.now c.args.to c.requires.to
    (some_node c.is_empty.result (length c.args.nodes.now) c.is_empty.ensures c.if-is_empty.false)
    c.index-nodes-to.result c.index-nodes-to.is)))
