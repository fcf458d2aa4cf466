use Rattle.std.proofs.Common.{ap, sym, ◌∙◌}
use Rattle.std.specs.Cmp.Lexicographic.{slice_cmp}
use Rattle.std.specs.Ordering.{nat_cmp}
use Rattle.indexset_core.specs.Pairs.{set_value}
use Rattle.indexset_ffi.proofs.TextLemmas.{put_set}
use Rattle.indexset_ffi.proofs.text_edits.replace_value.Goals as goal

-- the key has a value, which is replaced
pub returns-in-Some-clause-ok : goal.returns-in-Some-clause-ok
returns-in-Some-clause-ok c =
    let l = c.args.map.now.pairs in let k = c.args.key.now in
    ap (λ w. set_value (slice_cmp nat_cmp) l k w) c.replace.ensures.after
    ∙ put_set (slice_cmp nat_cmp) l k c.in-Some.place.now c.args.value (sym (c.in-Some.ensures {u = tt}).value)
