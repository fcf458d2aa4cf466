use Rattle.std.proofs.Common.{◌≡◌, ◌==◌, ◌+◌, ◌-◌, length, take, drop, sym, ap, ◌∙◌, arith, rules, take-append-drop, length-drop, false}
use Rattle.std.proofs.Math.Seq.{take-add}
use Rattle.std.proofs.lemmas.List.{take_rest}
use Rattle.std.specs.List.{list_any, position_or_len}
use Rattle.indexset_lines.proofs.Pieces.{none_in_both, position_or_len-behind}
use Rattle.indexset_lines.proofs.line.line_len.Goals as goal

pub loop-skipped-preserved : goal.loop-skipped-preserved
loop-skipped-preserved c =
    let at = c.loop-skipped.skipped in let xs = c.args.bytes.now in
    let wide : at + 32 - at ≡ 32 = omega arith in
    let none : list_any (λ b. b == 10) (take 32 (drop at xs)) ≡ false =
    ap (λ n. list_any (λ b. b == 10) (take n (drop at xs))) (sym wide) ∙ (sym c.contains.ensures.value ∙ c.if-not-contains.true) in
    record {
      within = omega (arith, c.loop-skipped-test.true, c.loop-skipped.invariant.within);
      none = rw (take-add at 32 xs) (none_in_both _ (take at xs) (take 32 (drop at xs)) c.loop-skipped.invariant.none none);
    }

pub overflow_add-result : goal.overflow_add-result
overflow_add-result c =
    let at = c.loop-skipped.skipped in let xs = c.args.bytes.now in
    let within = c.line_len_bytewise.ensures.within in
    let long : length (take (length xs - at) (drop at xs)) ≡ length xs - at = ap length (take_rest xs at) ∙ length-drop at xs in
    omega (arith, within, long, c.loop-skipped.invariant.within)

pub returns : goal.returns
returns c =
    let at = c.loop-skipped.skipped in let xs = c.args.bytes.now in
    let long : length (take at xs) ≡ at = search (rules, c.loop-skipped.invariant.within) in
    let front = position_or_len-behind (λ b. b == 10) (take at xs) (drop at xs) c.loop-skipped.invariant.none in
    ap (λ n. at + n) (c.line_len_bytewise.ensures.value ∙ ap (position_or_len (λ b. b == 10)) (take_rest xs at))
    ∙ (ap (λ n. n + position_or_len (λ b. b == 10) (drop at xs)) (sym long) ∙ (sym front ∙ ap (position_or_len (λ b. b == 10)) (take-append-drop at xs)))
