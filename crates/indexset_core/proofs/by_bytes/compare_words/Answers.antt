use Rattle.std.proofs.Common.{◌-◌, length, take, drop, ap, sym, ◌∙◌, arith}
use Rattle.std.specs.Cmp.Lexicographic.{slice_cmp}
use Rattle.std.specs.Ordering.{nat_cmp}
use Rattle.indexset_core.proofs.WordLemmas.{first_stands, rest_bytes, rest_is, rest_stands, words_decide}
use Rattle.indexset_core.proofs.by_bytes.compare_words.Goals as goal

pub returns-then-is_ne : goal.returns-then-is_ne
returns-then-is_ne c =
    let i = c.loop-left.invariant in let xs = c.loop-left.left.now in let ys = c.loop-left.right.now in let o = c.cmp-found.result in
    let long = c.loop-left-test.true in let wide = c.if-right-ge8.true in
    sym (first_stands o (slice_cmp nat_cmp (drop 8 xs) (drop 8 ys)) (c.if-is_ne.ensures {u = tt}))
    ∙ (words_decide xs ys _ _ o i.small i.other (omega (arith, long)) (omega (arith, wide)) c.first_word.ensures c.first_word-in-loop-left.ensures c.cmp-found.ensures ∙ i.decides)

pub loop-left-preserved : goal.loop-left-preserved
loop-left-preserved c =
    let i = c.loop-left.invariant in let xs = c.loop-left.left.now in let ys = c.loop-left.right.now in let o = c.cmp-found.result in
    let long = c.loop-left-test.true in let wide = c.if-right-ge8.true in
    record {
      small = rest_bytes xs i.small;
      other = rest_bytes ys i.other;
      decides = ap (λ l. slice_cmp nat_cmp l (take (length ys - 8) (drop 8 ys))) (rest_is xs) ∙ (ap (slice_cmp nat_cmp (drop 8 xs)) (rest_is ys)
          ∙ (sym (rest_stands o (slice_cmp nat_cmp (drop 8 xs) (drop 8 ys)) (c.if-is_ne.ensures {u = tt}))
          ∙ (words_decide xs ys _ _ o i.small i.other (omega (arith, long)) (omega (arith, wide)) c.first_word.ensures c.first_word-in-loop-left.ensures c.cmp-found.ensures ∙ i.decides)));
    }
