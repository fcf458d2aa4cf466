use Rattle.std.proofs.Common.{is_some, ap, ◌∙◌}
use Rattle.std.specs.Cmp.Lexicographic.{slice_cmp}
use Rattle.std.specs.Ordering.{nat_cmp}
use Rattle.indexset_ffi.proofs.TextLemmas.{has_value}
use Rattle.indexset_ffi.proofs.text_edits.put.Goals as goal

-- a key without a value is absent
pub returns-in-None-clause-no_memory : goal.returns-in-None-clause-no_memory
returns-in-None-clause-no_memory c = λ there.
    ap is_some c.in-None.ensures.before ∙ (has_value (slice_cmp nat_cmp) c.args.map.now.pairs c.args.key.now ∙ there)
