use Rattle.std.proofs.Common.{◌≡◌, ◌+◌, length, map, sum, arith, refl, ap, sym, ◌∙◌}
use Rattle.std.proofs.lemmas.List.{length-map, length-set}
use Rattle.std.proofs.lemmas.List.Edits.{length-insert}
use Rattle.indexset_core.specs.Nodes.{node_at, node_lengths}
use Rattle.indexset_core.proofs.CallerLemmas.{found_ascending, found_equal, gap_ascending, gap_equal, found_put, gap_put, length-concat, node_lengths-set}
use Rattle.indexset_events.proofs.CallerLemmas.{node_is, set_view}
use Rattle.indexset_index.specs.Blocks.{block_sums}
use Rattle.indexset_index.proofs.CallerLemmas.{block_there, raised, sum-blocks}
use Rattle.indexset_log.proofs.nodes.put_in.Given.{Over}
use Rattle.indexset_log.proofs.nodes.put_in.Goals.{After-index_mut-node}
use Rattle.indexset_log.proofs.nodes.put_in.Goals as goal

-- the node is the one at the place
here : (g : Over) (c : After-index_mut-node g) → g.Node.NodeLike.list c.index_mut-node.result.now ≡ node_at (map g.Node.NodeLike.list c.args.nodes.now.items) c.args.place
here g c =
    let list = g.Node.NodeLike.list in
    node_is list c.args.nodes.now.items (map list c.args.nodes.now.items) c.args.place c.index_mut-node.result.now refl c.requires.place c.index_mut-node.ensures.value

pub replace-requires : goal.replace-requires
replace-requires g c =
    let node = here g (goal.at.replace-requires g c).After-index_mut-node in
    rw node (record { order = found_ascending g.T.Ord.cmp _ c.args.value c.in-Ok.offset g.met.T.Ord.total c.requires.ascending (rw c.in-Ok.is at c.requires.found) })

pub insert_at-requires-clause-order : goal.insert_at-requires-clause-order
insert_at-requires-clause-order g c =
    let node = here g (goal.at.insert_at-requires-clause-order g c).After-index_mut-node in
    rw node (gap_ascending g.T.Ord.cmp _ c.args.value c.in-Err.offset g.met.T.Ord.total (rw c.in-Err.is at c.requires.gap) c.requires.ascending)

pub returns-in-Ok-clause-answer : goal.returns-in-Ok-clause-answer
returns-in-Ok-clause-answer g c =
    let node = here g (goal.at.returns-in-Ok-clause-answer g c).After-index_mut-node in
    rw node at c.replace.ensures.item ∙ sym (found_equal g.T.Ord.cmp _ c.args.value c.in-Ok.offset (rw c.in-Ok.is at c.requires.found))

pub returns-in-Ok-clause-nodes : goal.returns-in-Ok-clause-nodes
returns-in-Ok-clause-nodes g c =
    let list = g.Node.NodeLike.list in
    let node = here g (goal.at.returns-in-Ok-clause-nodes g c).After-index_mut-node in
    set_view list c.args.nodes.now.items (map list c.args.nodes.now.items) c.args.place c.replace.new.self _ refl
    (rw node at c.replace.ensures.list
    ∙ sym
    (found_put g.T.Ord.cmp _ c.args.value c.in-Ok.offset g.met.T.Ord.total c.requires.ascending
    (rw c.in-Ok.is at c.requires.found)))

pub returns-in-Err-clause-answer : goal.returns-in-Err-clause-answer
returns-in-Err-clause-answer g c = sym (gap_equal g.T.Ord.cmp _ c.args.value c.in-Err.offset (rw c.in-Err.is at c.requires.gap))

pub returns-in-Err-clause-nodes : goal.returns-in-Err-clause-nodes
returns-in-Err-clause-nodes g c =
    let list = g.Node.NodeLike.list in
    let node = here g (goal.at.returns-in-Err-clause-nodes g c).After-index_mut-node in
    set_view list c.args.nodes.now.items (map list c.args.nodes.now.items) c.args.place c.insert_at.new.self _ refl
    (rw node at c.insert_at.ensures.list
    ∙ sym (gap_put g.T.Ord.cmp _ c.args.value c.in-Err.offset (rw c.in-Err.is at c.requires.gap)))

pub add-requires-clause-fits : goal.add-requires-clause-fits
add-requires-clause-fits g c =
    let ns = map g.Node.NodeLike.list c.args.nodes.now.items in
    omega (arith, c.requires.fits (rw c.in-Err.is refl), length-concat ns, ap sum c.requires.index, sum-blocks (node_lengths ns))

pub add-requires-clause-inside : goal.add-requires-clause-inside
add-requires-clause-inside g c =
    let list = g.Node.NodeLike.list in
    let old = c.args.nodes.now.items in
    block_there (map list old) c.args.place c.requires.index (omega (arith, c.requires.place, length-map old list))

pub returns-in-Ok-clause-index : goal.returns-in-Ok-clause-index
returns-in-Ok-clause-index g c =
    let list = g.Node.NodeLike.list in
    let ns = map list c.args.nodes.now.items in
    let node = here g (goal.at.returns-in-Ok-clause-index g c).After-index_mut-node in
    let long = ap (λ l. length l) (rw node at c.replace.ensures.list) ∙ length-set (node_at ns c.args.place) c.in-Ok.offset c.args.value in
    c.requires.index
    ∙ ap block_sums
    (sym
    (ap (λ ls. node_lengths ls)
    (set_view list c.args.nodes.now.items ns c.args.place c.replace.new.self _ refl refl)
    ∙ node_lengths-set ns c.args.place (list c.replace.new.self) long))

pub returns-in-Err-clause-index : goal.returns-in-Err-clause-index
returns-in-Err-clause-index g c =
    let list = g.Node.NodeLike.list in
    let old = c.args.nodes.now.items in
    let ns = map list old in
    let node = here g (goal.at.returns-in-Err-clause-index g c).After-index_mut-node in
    let gap = rw c.in-Err.is at c.requires.gap in
    let more : length (list c.insert_at.new.self) ≡ length (node_at ns c.args.place) + 1 = omega (
      arith,
      ap (λ l. length l) (rw node at c.insert_at.ensures.list),
      length-insert (node_at ns c.args.place) c.in-Err.offset c.args.value gap.inside,
    ) in
    c.add.ensures.sums
    ∙ (raised ns c.args.place c.requires.index (omega (arith, c.requires.place, length-map old list))
    (list c.insert_at.new.self) 1 more
    ∙ sym
    (ap (λ ls. block_sums (node_lengths ls)) (set_view list old ns c.args.place c.insert_at.new.self _ refl refl)))
