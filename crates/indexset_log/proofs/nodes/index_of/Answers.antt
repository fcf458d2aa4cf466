use Rattle.std.proofs.Common.{map, arith}
use Rattle.indexset_core.proofs.CallerLemmas.{length-concat}
use Rattle.indexset_log.proofs.nodes.index_of.Goals as goal

pub from_nodes-requires : goal.from_nodes-requires
from_nodes-requires g c = omega (arith, c.requires, length-concat (map g.Node.NodeLike.list c.args.nodes.now))
