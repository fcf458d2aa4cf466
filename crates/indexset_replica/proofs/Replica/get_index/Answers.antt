use Rattle.std.proofs.Common.{◌≡◌, ◌<◌, ◌∙◌, [], length, slice_get, refl, ap, sym, arith}
use Rattle.std.proofs.lemmas.List.{length-map}
use Rattle.std.proofs.lemmas.Option.{slice_get_read}
use Rattle.indexset_core.specs.Nodes.{concat, node_at, vec_items}
use Rattle.indexset_core.proofs.CallerLemmas.{get_in_node, node_read}
use Rattle.indexset_replica.proofs.Replica.get_index.Goals as goal

pub returns : goal.returns
returns g c =
    let vs = c.self.inside.nodes.items in
    let ns = vec_items vs in
    let k = c.in_ok-node.node in
    let o = c.in_ok-node.offset in
    let found = rw c.as_slice.ensures.value at (c.in_ok-node.ensures {u = tt}) in
    let held : k < length vs = omega (arith, found.0, length-map vs (λ v. v.items)) in
    let node : c.as_slice-items.result.now ≡ node_at ns k = c.as_slice-items.ensures.value ∙ sym (node_read (λ v. v.items) vs k c.index.result.now held c.index.ensures []) in
    let within : o < length c.as_slice-items.result.now = rw node found.1 in
    sym (slice_get_read _ _ _ _ refl within c.index-items-offset.is)
    ∙ (ap (λ l. slice_get l o) node
    ∙ (sym (get_in_node ns k o found.0 found.1)
    ∙ (ap (slice_get (concat ns)) found.2 ∙ ap (λ r. slice_get (concat r.nodes) c.args.i) c.self.view_is)))
