use Rattle.std.proofs.Common.{map}
use Rattle.indexset_core.specs.Nodes.{concat}
use Rattle.indexset_core.proofs.RangeLemmas.{count_no}
use Rattle.indexset_core.proofs.locate.place_from.Goals as goal

pub returns-in-Unbounded-clause-before : goal.returns-in-Unbounded-clause-before
returns-in-Unbounded-clause-before g c = rw c.in-Unbounded.is (count_no (concat (map g.R.NodeItems.list c.args.nodes.now)))
