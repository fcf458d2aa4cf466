use Rattle.std.proofs.Common.{◌≡◌, ◌≤◌, ◌∙◌, true, false, not, if◌then◌else◌, length, slice_get, Some, None, arith, ap, sym, refl}
use Rattle.indexset_core.specs.declared.refusal.Refusal.TheVariants.{Overlaps}
use Rattle.indexset_events.specs.Attach.{attach_index, attach_refusal}
use Rattle.indexset_events.specs.Nodes.{is_ascending, is_filled}
use Rattle.indexset_events.proofs.CallerLemmas.{attach_told, filled_first, lawful_ruled, refused_empty, refused_large, refused_unsorted}
use Rattle.indexset_log.proofs.TreeViewLemmas.{held}
use Rattle.indexset_log.proofs.set.BTreeSet.attach_place.Given.{Over}
use Rattle.indexset_log.proofs.set.BTreeSet.attach_place.Goals.{In-Some, After-starts_above}
use Rattle.indexset_log.proofs.set.BTreeSet.attach_place.Goals as goal

-- the node has a first item
first : (g : Over) (c : In-Some g) → slice_get (g.Node.NodeLike.list c.args.node.now) 0 ≡ Some c.in-Some.first.now
first g c = rw (c.as_slice-items.ensures.value ∙ c.iter.ensures) at (sym c.in-Some.ensures.value)

-- its place, and whether it can be inserted there
told : (g : Over) (c : After-starts_above g)
    → (c.nodes_below-place.result
    ≡ attach_index g.T.Ord.cmp c.args.self.now.nodes (g.Node.NodeLike.list c.args.node.now))
    × (attach_refusal g.T.Ord.cmp c.args.self.now.size c.args.self.now.nodes (g.Node.NodeLike.list c.args.node.now)
    ≡ (if not c.starts_above.result then Some Overlaps else None))
told g c =
    let t = held g.Node.NodeLike.list c.self.inside.nodes.items c.self.view_is c.self.invariant in
    let n = g.Node.NodeLike.list c.args.node.now in
    let read : c.as_slice-items.result.now ≡ n = c.as_slice-items.ensures.value ∙ c.iter.ensures in
    let head = rw read at (sym c.in-Some.ensures.value) in
    let fits : length n ≤ c.args.self.now.size = omega (arith, ap (λ l. length l) read, t.sized, c.if-items-self.false) in
    let up : is_ascending g.T.Ord.cmp n ≡ true = rw read at (sym c.is_ascending.ensures ∙ c.if-not-is_ascending.false) in
    attach_told g.T.Ord.cmp c.args.self.now.size c.args.self.now.nodes n (filled_first n c.in-Some.first.now head)
    fits g.met.T.Ord.total (lawful_ruled g.T.Ord.cmp c.args.self.now.size c.args.self.now.nodes t.rule.lawful) up _
    _ _ _ head (rw read at c.index-items-items.is) c.nodes_below-place.ensures c.starts_above.ensures

pub returns-in_default-clause-refusal : goal.returns-in_default-clause-refusal
returns-in_default-clause-refusal g c =
    let n = g.Node.NodeLike.list c.args.node.now in
    let none : slice_get n 0 ≡ None = rw (c.as_slice-items.ensures.value ∙ c.iter.ensures) at (sym c.in_default.ensures.value) in
    rw (refused_empty g.T.Ord.cmp c.args.self.now.size c.args.self.now.nodes n none) refl

pub returns-then-items-self-clause-refusal : goal.returns-then-items-self-clause-refusal
returns-then-items-self-clause-refusal g c =
    let t = held g.Node.NodeLike.list c.self.inside.nodes.items c.self.view_is c.self.invariant in
    let n = g.Node.NodeLike.list c.args.node.now in
    let long = ap (λ l. length l) (c.as_slice-items.ensures.value ∙ c.iter.ensures) in
    let full : is_filled n ≡ true = filled_first n c.in-Some.first.now (first g (goal.at.returns-then-items-self-clause-refusal g c).In-Some) in
    rw (refused_large g.T.Ord.cmp c.args.self.now.size c.args.self.now.nodes n full (omega (arith, long, t.sized, c.if-items-self.true))) refl

pub returns-then-not-is_ascending-clause-refusal : goal.returns-then-not-is_ascending-clause-refusal
returns-then-not-is_ascending-clause-refusal g c =
    let t = held g.Node.NodeLike.list c.self.inside.nodes.items c.self.view_is c.self.invariant in
    let n = g.Node.NodeLike.list c.args.node.now in
    let read : c.as_slice-items.result.now ≡ n = c.as_slice-items.ensures.value ∙ c.iter.ensures in
    let full : is_filled n ≡ true = filled_first n c.in-Some.first.now (first g (goal.at.returns-then-not-is_ascending-clause-refusal g c).In-Some) in
    let falls : is_ascending g.T.Ord.cmp n ≡ false = rw read at (sym c.is_ascending.ensures ∙ c.if-not-is_ascending.true) in
    rw (refused_unsorted g.T.Ord.cmp c.args.self.now.size c.args.self.now.nodes n full (omega (arith, ap (λ l. length l) read, t.sized, c.if-items-self.false)) falls) refl

pub returns-then-not-starts_above-clause-refusal : goal.returns-then-not-starts_above-clause-refusal
returns-then-not-starts_above-clause-refusal g c =
    rw ((told g (goal.at.returns-then-not-starts_above-clause-refusal g c).After-starts_above).1, c.if-not-starts_above.true) refl

pub returns-then-items-self-2-clause-refusal : goal.returns-then-items-self-2-clause-refusal
returns-then-items-self-2-clause-refusal g c =
    rw ((told g (goal.at.returns-then-items-self-2-clause-refusal g c).After-starts_above).1, c.if-not-starts_above.false) refl

pub returns-clause-place : goal.returns-clause-place
returns-clause-place g c = (told g (goal.at.returns-clause-place g c).After-starts_above).0

pub returns-clause-good : goal.returns-clause-good
returns-clause-good g c = (told g (goal.at.returns-clause-good g c).After-starts_above).1 ∙ rw c.if-not-starts_above.false refl
