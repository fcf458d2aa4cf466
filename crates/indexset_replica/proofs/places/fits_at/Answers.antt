use Rattle.std.proofs.Common.{map, refl, arith, sym, ◌∙◌}
use Rattle.std.proofs.lemmas.List.{length-map, take_rest}
use Rattle.indexset_events.proofs.CallerLemmas.{nodes_ruled, node_is}
use Rattle.indexset_replica.proofs.NodeSearchLemmas.{copied-or, fits_node}
use Rattle.indexset_replica.proofs.places.fits_at.Goals as goal

pub returns : goal.returns
returns g c =
    let cmp = g.T.Ord.cmp in
    let vs = c.args.nodes.now in
    let ns = map (λ v. v.items) vs in
    let node = node_is (λ v. v.items) vs ns c.args.place c.index-nodes-place.result refl c.requires.place c.index-nodes-place.is in
    let fits = fits_node cmp g.met.T.Ord.total c.args.value.now ns (nodes_ruled cmp ns c.requires.nodes) c.args.place (omega (arith, c.requires.place, length-map vs (λ v. v.items))) c.args.index in
    let lasts = c.last.ensures.value in
    let firsts = c.first.ensures.value in
    c.is_between.ensures
    ∙ rw (c.or-before.ensures, c.or-after.ensures, copied-or, copied-or, lasts, firsts, c.item_before.ensures, c.item_from.ensures, c.as_slice-node.ensures.value, take_rest, node) (sym fits)
