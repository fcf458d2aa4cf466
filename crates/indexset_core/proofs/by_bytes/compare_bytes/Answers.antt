use Rattle.std.proofs.Common.{drop, sym, ◌∙◌, arith}
use Rattle.std.specs.Cmp.Lexicographic.{slice_cmp}
use Rattle.std.specs.Ordering.{nat_cmp}
use Rattle.indexset_core.proofs.WordLemmas.{first_stands, words_decide}
use Rattle.indexset_core.proofs.by_bytes.compare_bytes.Goals as goal

pub returns-then-is_ne : goal.returns-then-is_ne
returns-then-is_ne c =
    let xs = c.args.first.now in let ys = c.args.second.now in let o = c.cmp-found.result in
    let long = c.if-first-ge8.true in let wide = c.if-second-ge8.true in
    sym (first_stands o (slice_cmp nat_cmp (drop 8 xs) (drop 8 ys)) (c.if-is_ne.ensures {u = tt}))
    ∙ words_decide xs ys _ _ o c.type_inv.first c.type_inv.second (omega (arith, long)) (omega (arith, wide)) c.first_word.ensures c.first_word-then-second-ge8.ensures c.cmp-found.ensures
