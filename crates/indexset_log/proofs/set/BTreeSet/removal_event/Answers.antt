use Rattle.std.proofs.Common.{◌≡◌, ◌-◌, length, arith, refl, ◌∙◌, slice_get, Some}
use Rattle.std.proofs.lemmas.Bool.{ne_eqb}
use Rattle.indexset_core.specs.Nodes.{node_at}
use Rattle.indexset_core.proofs.CallerLemmas.{read_item}
use Rattle.indexset_events.proofs.CallerLemmas.{last_some}
use Rattle.indexset_log.proofs.TreeViewLemmas.{held, node_held}
use Rattle.indexset_log.proofs.set.BTreeSet.removal_event.Goals as goal

pub returns-clause-clones : goal.returns-clause-clones
returns-clause-clones g c s =
    let t = held g.Node.NodeLike.list c.self.inside.nodes.items c.self.view_is c.self.invariant in
    let i = c.args.offset in
    let n = node_at c.args.self.now.nodes c.args.node in
    let held = c.as_slice-items.ensures.value ∙ (c.iter.ensures ∙ node_held t c.args.node c.requires.node c.index.ensures) in
    let x = c.index-items-offset.result in
    let read : slice_get n i ≡ Some x = read_item n i x c.requires.offset (rw held at c.index-items-offset.is) in
    let y = c.index-items-items.result in
    let last : slice_get n (length n - 1) ≡ Some y = read_item n (length n - 1) y (omega (arith, c.requires.offset)) (rw held at c.index-items-items.is) in
    rw (read, ne_eqb (length n) 1 (rw held at c.if-items-eq1.false), last_some n x y last) (refl, (c.in_ok-clone.ensures.cases, (c.in_ok-value.ensures.cases, tt)))
