use Rattle.std.proofs.Common.{length, ap, ◌∙◌}
use Rattle.std.proofs.lemmas.List.Sums.{length-filter}
use Rattle.std.specs.Ordering.{is_le, nat_cmp}
use Rattle.indexset_spine.specs.NodeList.{items}
use Rattle.indexset_ffi.proofs.set_calls.count_to.Goals as goal

pub returns : goal.returns
returns c = c.len.ensures.value ∙ ap length c.range.ensures.rest ∙ length-filter (λ x. is_le (nat_cmp x c.args.key)) (items c.args.set.now)
