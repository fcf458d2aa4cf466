use Rattle.std.proofs.Common.{rules, arith, Some, not, eqb, ◌≡◌, ◌∙◌, ◌+◌, ◌∷◌, ◌++◌, [], ap, length, map, sym, length-append}
use Rattle.std.proofs.lemmas.List.{map_push}
use Rattle.std.specs.Option.{option_eq}
use Rattle.std.specs.Vec.{vec_len}
use Rattle.indexset_bench.specs.PairText.{event_text}
use Rattle.indexset_core.specs.Pairs.{pair}
use Rattle.indexset_follow.specs.Early.{consecutive}
use Rattle.indexset_follow.proofs.Consecutive.{line_more, number_ahead}
use Rattle.indexset_follow.proofs.early.consecutive_lines.Goals as goal

pub loop-event_number-preserved : goal.loop-event_number-preserved
loop-event_number-preserved g c =
    let lines = c.loop-event_number.lines.items in
    let n = c.args.number + length lines in
    let p = pair c.in-Some.event_number.now c.in-Some.event.now in
    let next : c.loop-event_number.event_number-iterator ≡ p ∷ c.next.new.self = search rules in
    let size : vec_len c.loop-event_number.lines ≡ length lines = search rules in
    let here : c.in-Some.event_number.now ≡ n =
    number_ahead c.checked_sub.result c.in-Some.event_number.now c.args.number (length lines) c.checked_sub.ensures
    (c.if-ne.ensures ∙ ap (λ k. not (option_eq eqb c.checked_sub.result (Some k))) (c.len.ensures ∙ size)) in
    let line : c.in_ok-line.line.items ≡ event_text g.T.Item.texts c.in-Some.event.now = search rules in
    let pushed : c.push.new.self.items ≡ lines ++ c.in_ok-line.line ∷ [] = search rules in
    let shown = ap (map (λ l. l.items)) pushed ∙ map_push (λ l. l.items) lines c.in_ok-line.line ∙ ap (λ t. map (λ l. l.items) lines ++ t ∷ []) line in
    let count : n + 1 ≡ c.args.number + length c.push.new.self.items = omega (arith, ap (λ l. length l) pushed, length-append lines (c.in_ok-line.line ∷ [])) in
    c.loop-event_number.invariant ∙ ap (λ it. map (λ l. l.items) lines ++ map (event_text g.T.Item.texts) (consecutive n it)) next
    ∙ line_more g.T.Item.texts (map (λ l. l.items) lines) n p c.next.new.self here
    ∙ (λ i. sym shown i ++ map (event_text g.T.Item.texts) (consecutive (count i) c.next.new.self))
