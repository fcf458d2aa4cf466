use Rattle.std.proofs.Common.{map, ◌∙◌}
use Rattle.indexset_core.specs.Nodes.{concat}
use Rattle.indexset_core.proofs.RangeLemmas.{count_each}
use Rattle.indexset_core.proofs.locate.place_to.Goals as goal

pub returns-in-Unbounded-clause-before : goal.returns-in-Unbounded-clause-before
returns-in-Unbounded-clause-before g c = rw c.in-Unbounded.is (c.last_place.ensures.before ∙ count_each (concat (map g.R.NodeItems.list c.args.nodes.now)))
