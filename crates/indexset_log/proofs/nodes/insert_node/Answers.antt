use Rattle.std.proofs.Common.{◌≡◌, insert, length, map, arith, ap, ◌∙◌}
use Rattle.std.proofs.lemmas.List.{length-map}
use Rattle.std.proofs.lemmas.List.Sums.{sum_by-insert}
use Rattle.indexset_core.specs.Nodes.{node_lengths}
use Rattle.indexset_core.proofs.CallerLemmas.{length-concat}
use Rattle.indexset_events.proofs.CallerLemmas.{map_insert}
use Rattle.indexset_index.proofs.CallerLemmas.{inserted, lengths-insert}
use Rattle.indexset_log.proofs.nodes.insert_node.Given.{Over}
use Rattle.indexset_log.proofs.nodes.insert_node.Goals.{After-as_slice}
use Rattle.indexset_log.proofs.nodes.insert_node.Goals as goal

made : (g : Over) (c : After-as_slice g) → map g.Node.NodeLike.list c.as_slice.result.now ≡ insert (map g.Node.NodeLike.list c.args.nodes.now.items) c.args.place (g.Node.NodeLike.list c.args.node)
made g c = rw (c.as_slice.ensures.value, c.in-Ok.ensures.items) (map_insert g.Node.NodeLike.list c.args.nodes.now.items c.args.place c.args.node)

pub insert-requires-in-Ok-clause-before : goal.insert-requires-in-Ok-clause-before
insert-requires-in-Ok-clause-before g c =
    let list = g.Node.NodeLike.list in
    let old = c.args.nodes.now.items in
    inserted (map list old) c.args.place (list c.args.node) (made g c) (c.reserve_one.ensures.sums ∙ c.requires.index) (omega (arith, c.requires.place, length-map old list))

pub insert-requires-in-Ok-clause-fits : goal.insert-requires-in-Ok-clause-fits
insert-requires-in-Ok-clause-fits g c =
    let list = g.Node.NodeLike.list in
    let ns = map list c.args.nodes.now.items in
    rw (made g c, lengths-insert ns c.args.place (list c.args.node))
    (omega (
      arith,
      c.requires.fits,
      length-concat ns,
      sum_by-insert (λ x. x) (node_lengths ns) c.args.place (length (list c.args.node)),
    ))

pub returns-in-Ok-clause-nodes : goal.returns-in-Ok-clause-nodes
returns-in-Ok-clause-nodes g c =
    ap (map g.Node.NodeLike.list) c.in-Ok.ensures.items ∙ map_insert g.Node.NodeLike.list c.args.nodes.now.items c.args.place c.args.node
