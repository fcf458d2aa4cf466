use Rattle.std.proofs.Common.{sym, ◌∙◌}
use Rattle.indexset_replica.proofs.NodeSearchLemmas.{item_before_is}
use Rattle.indexset_replica.proofs.places.item_before.Goals as goal

pub returns : goal.returns
returns g c =
    let last = sym (rw c.in_ok-last.was at c.last.ensures.value) in
    rw c.deref.ensures.value at c.last-2.ensures.value ∙ sym (item_before_is (λ n. n.items) c.args.nodes.now c.requires.filled c.args.place c.in_ok-last.field-0.now last)
