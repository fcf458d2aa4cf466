use Rattle.std.proofs.Common.{◌≡◌, ◌-◌, length, map, remove, arith, refl, ap, sym, ◌∙◌}
use Rattle.std.proofs.lemmas.Bool.{eq-eqb, ne_eqb}
use Rattle.std.proofs.lemmas.List.{length-map}
use Rattle.std.proofs.lemmas.List.Edits.{length-remove}
use Rattle.indexset_core.specs.Nodes.{node_at, node_lengths}
use Rattle.indexset_index.specs.Blocks.{block_sums}
use Rattle.indexset_events.proofs.CallerLemmas.{map_remove, node_is, set_view}
use Rattle.indexset_index.proofs.CallerLemmas.{block_there, emptied, lowered, node_in_block}
use Rattle.indexset_log.proofs.nodes.remove_item.Goals as goal

pub remove-requires-clause-before : goal.remove-requires-clause-before
remove-requires-clause-before g c =
    let list = g.Node.NodeLike.list in
    let old = c.args.nodes.now.items in
    let node = node_is list old (map list old) c.args.node c.index.result.now refl c.requires.node c.index.ensures in
    let made : map list c.as_slice.result.now ≡ remove (map list old) c.args.node = rw (c.as_slice.ensures.value, c.remove-emptied.ensures.items) (map_remove list old c.args.node) in
    emptied (map list old) c.args.node 1 made c.requires.index (omega (arith, c.requires.node, length-map old list)) (omega (arith, c.len.ensures.value, ap (λ l. length l) node, c.if-len-eq1.true))

pub sub-requires-clause-inside : goal.sub-requires-clause-inside
sub-requires-clause-inside g c =
    let list = g.Node.NodeLike.list in
    let old = c.args.nodes.now.items in
    block_there (map list old) c.args.node c.requires.index (omega (arith, c.requires.node, length-map old list))

pub sub-requires-clause-enough : goal.sub-requires-clause-enough
sub-requires-clause-enough g c =
    let list = g.Node.NodeLike.list in
    let old = c.args.nodes.now.items in
    omega (arith, c.requires.offset, node_in_block (map list old) c.args.node c.requires.index (omega (arith, c.requires.node, length-map old list)))

pub returns-then-len-eq1-clause-nodes : goal.returns-then-len-eq1-clause-nodes
returns-then-len-eq1-clause-nodes g c =
    let list = g.Node.NodeLike.list in
    let old = c.args.nodes.now.items in
    let node = node_is list old (map list old) c.args.node c.index.result.now refl c.requires.node c.index.ensures in
    rw (c.remove-emptied.ensures.items, eq-eqb (length (node_at (map list old) c.args.node)) 1 (rw (c.len.ensures.value, node) at c.if-len-eq1.true)) (map_remove list old c.args.node)

pub returns-clause-nodes : goal.returns-clause-nodes
returns-clause-nodes g c =
    let list = g.Node.NodeLike.list in
    let old = c.args.nodes.now.items in
    let node = node_is list old (map list old) c.args.node c.index.result.now refl c.requires.node c.index.ensures in
    let same = node_is list old (map list old) c.args.node c.index_mut.result.now refl c.requires.node c.index_mut.ensures.value in
    rw
    (ne_eqb (length (node_at (map list old) c.args.node)) 1 (rw (c.len.ensures.value, node) at c.if-len-eq1.false))
    (set_view list old (map list old) c.args.node c.remove_at-2.new.self _ refl
    (c.remove_at-2.ensures.list ∙ ap (λ q. remove q c.args.offset) same))

pub returns-clause-index : goal.returns-clause-index
returns-clause-index g c =
    let list = g.Node.NodeLike.list in
    let old = c.args.nodes.now.items in
    let ns = map list old in
    let same = node_is list old ns c.args.node c.index_mut.result.now refl c.requires.node c.index_mut.ensures.value in
    let less : length (list c.remove_at-2.new.self) ≡ length (node_at ns c.args.node) - 1 = omega (
      arith,
      ap (λ l. length l) (c.remove_at-2.ensures.list ∙ ap (λ q. remove q c.args.offset) same),
      length-remove (node_at ns c.args.node) c.args.offset c.requires.offset,
    ) in
    c.sub.ensures.sums
    ∙ (lowered ns c.args.node c.requires.index (omega (arith, c.requires.node, length-map old list))
    (list c.remove_at-2.new.self) 1 (omega (arith, c.requires.offset)) less
    ∙ sym
    (ap (λ ls. block_sums (node_lengths ls)) (set_view list old ns c.args.node c.remove_at-2.new.self _ refl refl)))
