use Rattle.std.proofs.Common.{sym, ap, ◌∙◌}
use Rattle.std.specs.Ordering.{is_eq}
use Rattle.indexset_replica.proofs.NodeSearchLemmas.{named_by}
use Rattle.indexset_replica.proofs.places.is_named.Goals as goal

pub returns-in-Some : goal.returns-in-Some
returns-in-Some g c =
    let last = sym (rw c.in-Some.is at c.last.ensures.value) in
    c.is_eq.ensures ∙ (ap is_eq c.cmp.ensures ∙ sym (named_by g.T.Ord.cmp c.args.node.now c.args.name.now c.in-Some.last.now last))
