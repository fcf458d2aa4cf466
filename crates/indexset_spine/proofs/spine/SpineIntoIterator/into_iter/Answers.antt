use Rattle.std.proofs.Common.{sym, ◌∙◌, ap}
use Rattle.std_collections.proofs.IterRuns.{gives_in_order, gives_in_reverse}
use Rattle.indexset_spine.specs.NodeList.{items}
use Rattle.indexset_core.specs.Nodes.{vec_items}
use Rattle.indexset_core.proofs.CallerLemmas.{length-concat}
use Rattle.indexset_spine.proofs.spine.SpineIntoIterator.into_iter.Goals as goal

pub over-requires : goal.over-requires
over-requires g c = c.self.invariant.is_spine.total_is ∙ sym (length-concat (vec_items c.self.inside.nodes.items))

pub returns : goal.returns
returns g c = record { into_iter_gives = (c.over.ensures ∙ ap (λ s. items s) c.self.view_is, gives_in_order, gives_in_reverse) }
