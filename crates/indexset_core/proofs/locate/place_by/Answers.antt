use Rattle.std.proofs.Common.{◌≡◌, ◌≤◌, ◌<◌, ◌+◌, ◌∙◌, length, map, take, ap, arith}
use Rattle.std.proofs.lemmas.Grind.{common_steps}
use Rattle.indexset_core.specs.Nodes.{concat, node_at}
use Rattle.indexset_core.specs.Parted.{less_count}
use Rattle.indexset_core.proofs.LocateLemmas.{parted_node, place_for, searched}
use Rattle.indexset_core.proofs.NodeLemmas.{length-held}
use Rattle.indexset_core.proofs.locate.place_by.Given.{Over}
use Rattle.indexset_core.proofs.locate.place_by.Goals.{After-items_of-items}
use Rattle.indexset_core.proofs.locate.place_by.Goals as goal

-- the node that the search reads
read : (g : Over) (c : After-items_of-items g) → let ns = map g.R.NodeItems.list c.args.nodes.now in
    (c.node_by-node.result < length ns) × (c.items_of-items.result.now ≡ node_at ns c.node_by-node.result)
read g c =
    let some : 1 ≤ length c.args.nodes.now = grind (arith, common_steps) in
    let r = searched (g.P.Probe.answer c.args.probe.now) g.R.NodeItems.list c.args.nodes.now c.node_by-node.result c.index-nodes-node.result some c.node_by-node.ensures.node c.index-nodes-node.is in
    (r.0, c.items_of-items.ensures ∙ r.1)

pub less_len-offset-requires : goal.less_len-offset-requires
less_len-offset-requires g c =
    let r = read g (goal.at.less_len-offset-requires g c).After-items_of-items in
    rw (c.node_by-node.ensures.fixed, r.1) (parted_node (g.P.Probe.answer c.args.probe.now) (map g.R.NodeItems.list c.args.nodes.now) c.node_by-node.result r.0 c.requires.parted)

pub returns-clause-before : goal.returns-clause-before
returns-clause-before g c =
    let answer = g.P.Probe.answer c.args.probe.now in
    let ns = map g.R.NodeItems.list c.args.nodes.now in
    let k = c.node_by-node.result in
    let r = read g (goal.at.returns-clause-before g c).After-items_of-items in
    let long = length-held g.R.NodeItems.list c.args.nodes.now in
    let offset : c.less_len-offset.result ≡ less_count answer (node_at ns k) = rw (c.node_by-node.ensures.fixed, r.1) at c.less_len-offset.ensures.count in
    ap (λ o. length (concat (take k ns)) + o) offset
    ∙ (ap (λ j. length (concat (take j ns)) + less_count answer (node_at ns j)) c.node_by-node.ensures.node
    ∙ place_for answer ns (omega (arith, r.0)) (λ two. c.requires.filled (omega (arith, two, long))) c.requires.parted)
