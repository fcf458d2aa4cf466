use Rattle.std.proofs.Common.{◌≤◌, length, arith, sym, ◌∙◌}
use Rattle.std.proofs.lemmas.Grind.{common_steps}
use Rattle.indexset_core.proofs.CallerLemmas.{parted_by_item}
use Rattle.indexset_events.proofs.CallerLemmas.{nodes_ruled}
use Rattle.indexset_replica.proofs.NodeSearchLemmas.{named_there, unnamed_there}
use Rattle.indexset_replica.proofs.places.place_named.Goals as goal

pub node_by-place-requires-clause-parted : goal.node_by-place-requires-clause-parted
node_by-place-requires-clause-parted g c = rw c.new.ensures (parted_by_item g.T.Ord.cmp g.met.T.Ord.total _ c.requires.ascending c.args.name.now)

pub returns-then-is_named-clause-named : goal.returns-then-is_named-clause-named
returns-then-is_named-clause-named g c =
    let some : 1 ≤ length c.args.nodes.now = grind (arith, common_steps) in
    let own = rw c.as_slice.ensures.value at (sym c.is_named.ensures ∙ c.if-is_named.true) in
    named_there g.T.Ord.cmp g.met.T.Ord.total c.args.name.now (λ v. v.items) c.args.nodes.now
    (nodes_ruled g.T.Ord.cmp _ c.requires) _ (rw c.new.ensures at c.node_by-place.ensures.node)
    c.index-nodes-place.result some c.index-nodes-place.is own

pub returns-else-is_named-clause-absent : goal.returns-else-is_named-clause-absent
returns-else-is_named-clause-absent g c =
    let some : 1 ≤ length c.args.nodes.now = grind (arith, common_steps) in
    let other = rw c.as_slice.ensures.value at (sym c.is_named.ensures ∙ c.if-is_named.false) in
    unnamed_there g.T.Ord.cmp g.met.T.Ord.total c.args.name.now (λ v. v.items) c.args.nodes.now
    (nodes_ruled g.T.Ord.cmp _ c.requires) _ (rw c.new.ensures at c.node_by-place.ensures.node)
    c.index-nodes-place.result some c.index-nodes-place.is other
