use Rattle.std.proofs.Common.{sym, ◌∙◌}
use Rattle.std.specs.Cmp.Lexicographic.{slice_cmp}
use Rattle.std.specs.Ordering.{nat_cmp}
use Rattle.indexset_ffi.proofs.TextLemmas.{kept_entry}
use Rattle.indexset_ffi.proofs.text_edits.take.Goals as goal

pub returns-clause-unchanged : goal.returns-clause-unchanged
returns-clause-unchanged c = λ none. c.remove.ensures.rest ∙ kept_entry (slice_cmp nat_cmp) c.args.map.now c.args.key.now (sym c.remove.ensures.value ∙ none)
