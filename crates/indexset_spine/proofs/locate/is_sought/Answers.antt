use Rattle.std.proofs.Common.{◌≡◌, ◌+◌, ◌<◌, arith, false, length, ap, sym, ◌∙◌}
use Rattle.std.specs.List.{HoldsAt}
use Rattle.indexset_core.specs.Nodes.{ends_less, node_for, vec_items}
use Rattle.indexset_spine.proofs.SpineReads.{sought}
use Rattle.indexset_spine.proofs.VecNodes.{node_read}
use Rattle.indexset_spine.proofs.locate.is_sought.Goals.{else-k-nodes-2-via-then-k-nodes-2+else-ends_less, else-k-nodes-2-via-else-k-nodes-2}
use Rattle.indexset_spine.proofs.locate.is_sought.Goals as goal

pub returns-else-k-eq0-clause-node : goal.returns-else-k-eq0-clause-node
returns-else-k-eq0-clause-node g c less =
    let answer = g.P.Probe.answer in let nodes = c.args.nodes.now in let before = c.index-nodes-k-else-k-eq0 in
    let ends = rw c.deref-else-k-eq0.ensures.value at (sym c.ends_less-else-k-eq0.ensures.value ∙ less) in
    let named : answer c.else-k-nodes-2.probe ≡ answer c.args.probe.now
    → (c.args.k + 1 < length nodes
    → HoldsAt (λ n. ends_less (answer c.args.probe.now) n ≡ false) (vec_items nodes) c.args.k)
    → c.args.k ≡ node_for (answer c.args.probe.now) (vec_items nodes) =
    λ same here. sought _ nodes c.requires.filled c.requires.parted c.args.k (omega arith) (omega arith) before.result before.is (rw same at ends) here in
    elim c.else-k-nodes-2.branch [
      | else-k-nodes-2-via-then-k-nodes-2+else-ends_less w ↦ named (ap answer w.probe-is ∙ w.ends_less.ensures.fixed)
          (λ _ d. rw (node_read nodes c.args.k w.index-nodes-k.result (omega arith) w.index-nodes-k.is d) (rw w.deref.ensures.value at (sym w.ends_less.ensures.value ∙ w.if-ends_less.false)))
      | else-k-nodes-2-via-else-k-nodes-2 w ↦ named (ap answer w.probe-is) (λ lt. absurd (omega (arith, lt, w.if-k-nodes-2.false)))
    ]
