use Rattle.std.proofs.Common.{◌-◌, ◌≤◌, ◌∙◌, [], length, map, ap, sym, arith}
use Rattle.std.proofs.lemmas.Grind.{common_steps}
use Rattle.indexset_core.proofs.NodeLemmas.{length-held, node_read}
use Rattle.indexset_core.proofs.PlaceLemmas.{last_before}
use Rattle.indexset_core.proofs.locate.last_place.Goals as goal

pub returns-clause-before : goal.returns-clause-before
returns-clause-before g c =
    let list = g.R.NodeItems.list in
    let vs = c.args.nodes.now in
    let last = length vs - 1 in
    let some : 1 ≤ length vs = grind (arith, common_steps) in
    let node = c.items_of-items.ensures ∙ sym (node_read list vs last c.index-nodes-last.result (omega (arith, some)) c.index-nodes-last.is []) in
    last_before (map list vs) last (length c.items_of-items.result.now) (omega (arith, length-held list vs, some)) (ap (λ l. length l) node)
