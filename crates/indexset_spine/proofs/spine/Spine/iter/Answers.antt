use Rattle.std.proofs.Common.{sym, ◌∙◌}
use Rattle.std.specs.Map.Iter.{deref}
use Rattle.std_collections.proofs.IterRuns.{shows_in_order, shows_in_reverse}
use Rattle.indexset_core.specs.Nodes.{vec_items}
use Rattle.indexset_core.proofs.CallerLemmas.{length-concat}
use Rattle.indexset_spine.proofs.spine.Spine.iter.Goals as goal

pub returns-clause-runs : goal.returns-clause-runs
returns-clause-runs g c = shows_in_order deref

pub returns-clause-runs_back : goal.returns-clause-runs_back
returns-clause-runs_back g c = shows_in_reverse deref

pub new-requires : goal.new-requires
new-requires g c = rw (c.over.ensures, c.as_slice.ensures.value) (c.self.invariant.is_spine.total_is ∙ sym (length-concat (vec_items c.self.inside.nodes.items)))
