use Rattle.std.proofs.Common.{length, ap, ◌∙◌}
use Rattle.std.proofs.lemmas.List.Sums.{length-filter}
use Rattle.std.specs.Cmp.Lexicographic.{slice_cmp}
use Rattle.std.specs.Ordering.{is_le, nat_cmp}
use Rattle.indexset_core.specs.Nodes.{concat}
use Rattle.indexset_ffi.proofs.text_log.TextLog.count_up_to.Goals as goal

pub returns : goal.returns
returns c = rw (← c.self.view_is)
    (c.len.ensures.value ∙ ap length c.range.ensures.rest ∙ length-filter (λ p. is_le (slice_cmp nat_cmp p.key c.args.key.now)) (concat c.self.inside.tree.nodes))
