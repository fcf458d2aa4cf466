use Rattle.std.proofs.Common.{◌≡◌, ◌≤◌, ◌<◌, List, [], ◌∷◌, true, false, not, length, vec_len, refl, eqb-true, arith, ap, sym, ◌∙◌}
use Rattle.std.proofs.lemmas.Grind.{common_steps}
use Rattle.std.specs.Ordering.{is_lt}
use Rattle.indexset_core.specs.Nodes.{node_at, node_for}
use Rattle.indexset_events.specs.Replay.{reaches}
use Rattle.indexset_events.proofs.CallerLemmas.{ends_at, lawful_filled, lawful_parted, min_place_here, min_place_past, never_none}
use Rattle.indexset_log.proofs.TreeViewLemmas.{held}
use Rattle.indexset_log.proofs.set.BTreeSet.nodes_below.Given.{Over}
use Rattle.indexset_log.proofs.set.BTreeSet.nodes_below.Goals.{After-index, In-Some}
use Rattle.indexset_log.proofs.set.BTreeSet.nodes_below.Goals as goal

pub node_by-node-requires-clause-filled : goal.node_by-node-requires-clause-filled
node_by-node-requires-clause-filled g c = rw c.as_slice.ensures.value (λ _. lawful_filled g.T.Ord.cmp c.self.inside.size _ c.self.invariant.tree.lawful)

pub node_by-node-requires-clause-parted : goal.node_by-node-requires-clause-parted
node_by-node-requires-clause-parted g c = rw (c.new.ensures, c.as_slice.ensures.value) (lawful_parted g.T.Ord.cmp c.self.inside.size _ c.self.invariant.tree.lawful g.met.T.Ord.total c.args.value.now)

-- where the search ends
found : (g : Over) (c : After-index g)
    → (c.node_by-node.result ≡ node_for (λ x. g.T.Ord.cmp x c.args.value.now) c.args.self.now.nodes)
    × (1 ≤ length c.args.self.now.nodes) × (c.node_by-node.result < length c.self.inside.nodes.items)
found g c =
    let t = held g.Node.NodeLike.list c.self.inside.nodes.items c.self.view_is c.self.invariant in
    let at : c.node_by-node.result ≡ node_for (λ x. g.T.Ord.cmp x c.args.value.now) c.args.self.now.nodes = rw (c.new.ensures, c.as_slice.ensures.value, t.same) at c.node_by-node.ensures.node in
    let some : 1 ≤ length c.self.inside.nodes.items = grind (arith, common_steps) in
    (at, omega (arith, some, t.many), omega (arith, at, some, t.many))

-- whether the node there ends at or above the item
reach : (g : Over) (c : In-Some g) → (f : c.node_by-node.result < length c.self.inside.nodes.items)
    → reaches g.T.Ord.cmp c.args.value.now (node_at c.args.self.now.nodes c.node_by-node.result)
    ≡ not (is_lt (g.T.Ord.cmp c.in-Some.last.now c.args.value.now))
reach g c inside =
    let t = held g.Node.NodeLike.list c.self.inside.nodes.items c.self.view_is c.self.invariant in
    ap not
    (rw
    t.same at
    (ends_at g.Node.NodeLike.list c.self.inside.nodes.items c.node_by-node.result c.index.result.now inside
    c.index.ensures (λ x. g.T.Ord.cmp x c.args.value.now) c.in-Some.last.now
    (sym (rw c.in-Some.is at c.max.ensures)) []))

pub returns-in-Some : goal.returns-in-Some
returns-in-Some g c =
    let f = found g (goal.at.returns-in-Some g c).After-index in
    let lt : is_lt (g.T.Ord.cmp c.in-Some.last.now c.args.value.now) ≡ true = cc in
    let end = reach g (goal.at.returns-in-Some g c).In-Some f.2 ∙ ap not lt in
    rw f.0 (min_place_past (reaches g.T.Ord.cmp c.args.value.now) c.args.self.now.nodes [] f.1 (rw f.0 at end))

pub returns-in_default : goal.returns-in_default
returns-in_default g c =
    let f = found g (goal.at.returns-in_default g c).After-index in
    let lt : is_lt (g.T.Ord.cmp c.in-Some.last.now c.args.value.now) ≡ false = cc in
    let end = reach g (goal.at.returns-in_default g c).In-Some f.2 ∙ ap not lt in
    rw f.0 (min_place_here (reaches g.T.Ord.cmp c.args.value.now) c.args.self.now.nodes [] f.1 (rw f.0 at end))

pub returns-in_default-2 : goal.returns-in_default-2
returns-in_default-2 g c =
    let f = found g (goal.at.returns-in_default-2 g c).After-index in
    absurd
    (never_none g.Node.NodeLike.list c.self.inside.nodes.items c.node_by-node.result c.index.result.now f.2
    c.index.ensures (lawful_filled g.T.Ord.cmp c.self.inside.size _ c.self.invariant.tree.lawful)
    (sym (rw c.in_default.is at c.max.ensures)))

no_nodes : {T : Type 0} (ns : List (List T)) → length ns ≡ 0 → ns ≡ []
no_nodes [] none = refl
no_nodes (n ∷ ns) none = absurd (omega arith)

pub returns-then-is_empty : goal.returns-then-is_empty
returns-then-is_empty g c =
    let t = held g.Node.NodeLike.list c.self.inside.nodes.items c.self.view_is c.self.invariant in
    let none : vec_len c.self.inside.nodes ≡ 0 = eqb-true _ _ (sym c.is_empty.ensures ∙ c.if-is_empty.true) in
    rw (no_nodes c.args.self.now.nodes (omega (arith, t.many, none, c.self.inside.nodes.ok.0))) refl
