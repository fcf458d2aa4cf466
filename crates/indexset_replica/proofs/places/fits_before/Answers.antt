use Rattle.std.proofs.Common.{map, sym, ◌∙◌}
use Rattle.indexset_events.proofs.CallerLemmas.{nodes_ruled}
use Rattle.indexset_replica.proofs.NodeSearchLemmas.{fits_alone}
use Rattle.indexset_replica.proofs.places.fits_before.Goals as goal

pub returns : goal.returns
returns g c =
    let cmp = g.T.Ord.cmp in
    let ns = map (λ v. v.items) c.args.nodes.now in
    let fits = fits_alone cmp g.met.T.Ord.total c.args.value.now ns (nodes_ruled cmp ns c.requires.nodes) c.args.place in
    c.is_between.ensures ∙ rw (c.item_before.ensures, c.item_from.ensures) (sym fits)
