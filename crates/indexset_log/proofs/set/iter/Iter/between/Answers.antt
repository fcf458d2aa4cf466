use Rattle.std.proofs.Common.{length, map, ap, arith}
use Rattle.std.proofs.lemmas.List.Edits.{length-between}
use Rattle.indexset_core.specs.Nodes.{concat}
use Rattle.indexset_core.specs.Places.{items_before}
use Rattle.indexset_core.proofs.CallerLemmas.{place_le}
use Rattle.indexset_log.proofs.set.iter.Iter.between.Goals as goal

pub new-requires : goal.new-requires
new-requires g c =
    let ns = map g.Node.NodeLike.list c.args.nodes.now in
    omega (arith, c.requires.count, ap (λ l. length l) c.between.ensures, length-between (concat ns) (items_before ns c.args.from) (items_before ns c.args.to) (place_le ns c.args.to c.requires.to))
