use Rattle.std.proofs.Common.{◌≡◌, ◌<◌, ◌≤◌, length, arith, ap, ◌∙◌, refl}
use Rattle.std.specs.Ordering.{is_lt}
use Rattle.std.proofs.lemmas.List.{get_or_past}
use Rattle.indexset_core.specs.Nodes.{node_at}
use Rattle.indexset_core.proofs.CallerLemmas.{read_item}
use Rattle.indexset_log.proofs.TreeViewLemmas.{held, node_held}
use Rattle.indexset_events.proofs.CallerLemmas.{node_some}
use Rattle.indexset_log.proofs.set.BTreeSet.starts_above.Given.{Over}
use Rattle.indexset_log.proofs.set.BTreeSet.starts_above.Goals.{After-as_slice-items}
use Rattle.indexset_log.proofs.set.BTreeSet.starts_above.Goals as goal

-- the node at the place, which has items
read : (g : Over) (c : After-as_slice-items g) → (c.as_slice-items.result.now ≡ node_at c.args.self.now.nodes c.args.place) × (1 ≤ length (node_at c.args.self.now.nodes c.args.place))
read g c =
    let t = held g.Node.NodeLike.list c.self.inside.nodes.items c.self.view_is c.self.invariant in
    let lt : c.args.place < length c.args.self.now.nodes = omega (arith, t.many) in
    (c.as_slice-items.ensures.value ∙ (c.iter.ensures ∙ node_held t c.args.place lt c.index.ensures), node_some g.T.Ord.cmp c.args.self.now.size c.args.self.now.nodes t.rule.lawful c.args.place lt)

pub bounds-items-0 : goal.bounds-items-0
bounds-items-0 g c =
    let node = read g (goal.at.bounds-items-0 g c).After-as_slice-items in
    omega (arith, ap (λ l. length l) node.0, node.1)

pub returns-then-place-len : goal.returns-then-place-len
returns-then-place-len g c =
    let t = held g.Node.NodeLike.list c.self.inside.nodes.items c.self.view_is c.self.invariant in
    rw (get_or_past c.args.self.now.nodes c.args.place _ (omega (arith, t.many))) refl

pub returns : goal.returns
returns g c =
    let node = read g (goal.at.returns g c).After-as_slice-items in
    let first = rw node.0 at (read_item c.as_slice-items.result.now 0 c.index-items-0.result (omega (arith, ap (λ l. length l) node.0, node.1)) c.index-items-0.is) in
    rw first (c.is_lt.ensures ∙ ap is_lt c.cmp.ensures)
