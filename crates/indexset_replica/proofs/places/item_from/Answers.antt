use Rattle.std.proofs.Common.{Some, ap, sym, ◌∙◌}
use Rattle.std.proofs.lemmas.Option.{slice_get-get_or}
use Rattle.indexset_replica.proofs.NodeSearchLemmas.{item_from_is}
use Rattle.indexset_replica.proofs.places.item_from.Goals as goal

pub returns : goal.returns
returns g c =
    let vs = c.args.nodes.now in
    let n = c.in_ok-get.field-0.now in
    let read = c.in_ok-get.ensures.lookup in
    let held = slice_get-get_or vs c.args.place n read.3.0 ∙ ap Some (sym read.1) in
    rw c.deref.ensures.value at c.first.ensures.value ∙ sym (item_from_is (λ n. n.items) vs c.requires c.args.place n held)
