use Rattle.std.proofs.Common.{length, sum, ap, sym, ◌∙◌}
use Rattle.indexset_core.specs.Nodes.{concat, node_lengths, vec_items}
use Rattle.indexset_core.proofs.CallerLemmas.{length-concat}
use Rattle.indexset_index.proofs.CallerLemmas.{sum-blocks}
use Rattle.indexset_replica.proofs.Replica.len.Goals as goal

pub returns : goal.returns
returns g c =
    c.total.ensures
    ∙ (ap sum c.self.invariant.index
    ∙ (sum-blocks (node_lengths (vec_items c.self.inside.nodes.items))
    ∙ (sym (length-concat (vec_items c.self.inside.nodes.items))
    ∙ ap (λ r. length (concat r.nodes)) c.self.view_is)))
