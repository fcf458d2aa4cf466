use Rattle.std.proofs.Common.{ℕ, nat_eq, ap, ◌∙◌}
use Rattle.std.specs.List.{list_any}
use Rattle.indexset_core.specs.declared.pair.Pair.{Pair}
use Rattle.indexset_core.specs.Nodes.{concat}
use Rattle.indexset_ffi.proofs.MultiLemmas.{told_pair}
use Rattle.indexset_ffi.proofs.multi_calls.has_pair.Goals as goal

pub returns : goal.returns
returns c = c.has_value.ensures ∙ ap (list_any (λ (p : Pair ℕ ℕ). nat_eq p.value c.args.value)) c.get.ensures.rest ∙ told_pair (concat c.args.multi.now.nodes) c.args.key c.args.value
