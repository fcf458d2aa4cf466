use Rattle.std.proofs.Common.{length, ap, sym, subst, ◌∙◌}
use Rattle.std.proofs.lemmas.List.{length-map}
use Rattle.indexset_spine.specs.NodeList.{IsSpine}
use Rattle.indexset_core.proofs.CallerLemmas.{length-concat}
use Rattle.indexset_map.proofs.BTreeMap.node_count.Goals as goal

pub returns-clause-value : goal.returns-clause-value
returns-clause-value g c = c.node_count.ensures.value ∙ (sym (length-map _ (λ l. length l)) ∙ ap (λ m. length m.lengths) c.self.view_is)

pub returns-clause-spine : goal.returns-clause-spine
returns-clause-spine g c = subst (λ m. IsSpine m.lengths m.size (length m.pairs)) c.self.view_is record { is_cut = c.node_count.ensures.cut; total_is = length-concat c.self.inside.set.nodes }
