use Rattle.std.proofs.Common.{◌≤◌, length, arith, sym, ◌∙◌}
use Rattle.std.proofs.lemmas.Bool.{not-true, not-false}
use Rattle.std.proofs.lemmas.Grind.{common_steps}
use Rattle.indexset_core.proofs.CallerLemmas.{parted_by_item}
use Rattle.indexset_events.proofs.CallerLemmas.{nodes_ruled}
use Rattle.indexset_replica.proofs.NodeSearchLemmas.{place_here, place_past}
use Rattle.indexset_replica.proofs.places.first_reaching.Goals as goal

pub node_by-place-requires-clause-parted : goal.node_by-place-requires-clause-parted
node_by-place-requires-clause-parted g c = rw c.new.ensures (parted_by_item g.T.Ord.cmp g.met.T.Ord.total _ c.requires.ascending c.args.value.now)

pub returns-then-ends_less-clause-place : goal.returns-then-ends_less-clause-place
returns-then-ends_less-clause-place g c =
    let some : 1 ≤ length c.args.nodes.now = grind (arith, common_steps) in
    let below = not-true _ (rw c.as_slice.ensures.value at (sym c.ends_less.ensures ∙ c.if-ends_less.true)) in
    place_past g.T.Ord.cmp g.met.T.Ord.total c.args.value.now (λ v. v.items) c.args.nodes.now
    (nodes_ruled g.T.Ord.cmp _ c.requires) _ (rw c.new.ensures at c.node_by-place.ensures.node)
    c.index-nodes-place.result some c.index-nodes-place.is below

pub returns-else-ends_less-clause-place : goal.returns-else-ends_less-clause-place
returns-else-ends_less-clause-place g c =
    let some : 1 ≤ length c.args.nodes.now = grind (arith, common_steps) in
    let on = not-false _ (rw c.as_slice.ensures.value at (sym c.ends_less.ensures ∙ c.if-ends_less.false)) in
    place_here g.T.Ord.cmp g.met.T.Ord.total c.args.value.now (λ v. v.items) c.args.nodes.now
    (nodes_ruled g.T.Ord.cmp _ c.requires) _ (rw c.new.ensures at c.node_by-place.ensures.node)
    c.index-nodes-place.result some c.index-nodes-place.is on
