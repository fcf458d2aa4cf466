use Rattle.std.proofs.Common.{◌≡◌, ◌-◌, arith, length, [], ap, ◌∙◌, remove, slice_get, Some}
use Rattle.std.proofs.lemmas.Bool.{ne_eqb}
use Rattle.std.proofs.lemmas.List.{get_or-set_other}
use Rattle.indexset_core.specs.Nodes.{node_at}
use Rattle.indexset_core.proofs.CallerLemmas.{read_item}
use Rattle.indexset_events.proofs.CallerLemmas.{last_some, node_some}
use Rattle.indexset_log.proofs.TreeViewLemmas.{held, node_held}
use Rattle.indexset_log.proofs.set.BTreeSet.last_without.Goals as goal

pub overflow_sub-result : goal.overflow_sub-result
overflow_sub-result g c =
    let t = held g.Node.NodeLike.list c.self.inside.nodes.items c.self.view_is c.self.invariant in
    let held = c.as_slice-items.ensures.value ∙ (c.iter.ensures ∙ node_held t c.args.place c.requires.place c.index.ensures) in
    omega (arith, ap (λ l. length l) held, node_some g.T.Ord.cmp c.args.self.now.size c.args.self.now.nodes t.rule.lawful c.args.place c.requires.place)

pub bounds-items-items : goal.bounds-items-items
bounds-items-items g c =
    let t = held g.Node.NodeLike.list c.self.inside.nodes.items c.self.view_is c.self.invariant in
    let held = c.as_slice-items.ensures.value ∙ (c.iter.ensures ∙ node_held t c.args.place c.requires.place c.index.ensures) in
    omega (arith, ap (λ l. length l) held, node_some g.T.Ord.cmp c.args.self.now.size c.args.self.now.nodes t.rule.lawful c.args.place c.requires.place)

pub returns-else-place-node : goal.returns-else-place-node
returns-else-place-node g c = λ d.
    let ns = c.args.self.now.nodes in
    let k = c.args.place in
    let t = held g.Node.NodeLike.list c.self.inside.nodes.items c.self.view_is c.self.invariant in
    let held = c.as_slice-items.ensures.value ∙ (c.iter.ensures ∙ node_held t k c.requires.place c.index.ensures) in
    let y = c.index-items-items.result in
    let some = node_some g.T.Ord.cmp c.args.self.now.size ns t.rule.lawful k c.requires.place in
    let last : slice_get (node_at ns k) (length (node_at ns k) - 1) ≡ Some y = read_item (node_at ns k) (length (node_at ns k) - 1) y (omega (arith, some)) (rw held at c.index-items-items.is) in
    let more = ne_eqb (length (node_at ns c.args.node)) 1 (λ e. omega (arith, c.requires.two)) in
    rw (more, get_or-set_other ns c.args.node k (remove (node_at ns c.args.node) c.args.offset) [] c.if-place-node.false) (last_some (node_at ns k) d y last)
