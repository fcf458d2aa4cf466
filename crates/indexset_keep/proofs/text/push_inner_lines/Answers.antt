use Rattle.std.proofs.Common.{rules, ◌≡◌, ◌∙◌, ◌∷◌, ◌++◌, [], None, Some, ap, sym, append-nil}
use Rattle.indexset_journal.specs.Kept.{texts}
use Rattle.indexset_wire.specs.Parts.{cut_at}
use Rattle.indexset_lines.specs.Lines.{whole_lines}
use Rattle.indexset_keep.proofs.Cuts.{but_last, but_last_end, but_last_more, inner_cut, inner_none, inner_one}
use Rattle.indexset_keep.proofs.text.push_inner_lines.Goals as goal

pub returns-in_default-clause-lines : goal.returns-in_default-clause-lines
returns-in_default-clause-lines c =
    let text = c.args.text.now in
    let none : cut_at 10 text ≡ None = search rules in
    sym (ap (λ ls. texts c.args.lines.now.items ++ ls) (inner_none text none) ∙ append-nil (texts c.args.lines.now.items))

pub returns-in_default-cut-clause-lines : goal.returns-in_default-cut-clause-lines
returns-in_default-cut-clause-lines c =
    let text = c.args.text.now in
    let first : cut_at 10 text ≡ Some (c.in-Some.field-0-0.now, c.in-Some.behind.now) = search rules in
    let none : cut_at 10 c.in-Some.behind.now ≡ None = search rules in
    sym (ap (λ ls. texts c.args.lines.now.items ++ ls) (inner_one text c.in-Some.field-0-0.now c.in-Some.behind.now first none) ∙ append-nil (texts c.args.lines.now.items))

pub loop-next-init : goal.loop-next-init
loop-next-init c =
    let text = c.args.text.now in
    let first : cut_at 10 text ≡ Some (c.in-Some.field-0-0.now, c.in-Some.behind.now) = search rules in
    let second : cut_at 10 c.in-Some.behind.now ≡ Some (c.in-Some-cut.second.now, c.in-Some-cut.behind.now) = search rules in
    ap (λ ls. texts c.args.lines.now.items ++ ls) (inner_cut text c.in-Some.field-0-0.now c.in-Some.behind.now c.in-Some-cut.second.now c.in-Some-cut.behind.now first second)

pub loop-next-preserved : goal.loop-next-preserved
loop-next-preserved c =
    let line = c.loop-next.line.now in
    let left = c.loop-next.left.now in
    let next = c.in-Some-cut-2.next.now in
    let rest = c.in-Some-cut-2.rest.now in
    let cut : cut_at 10 left ≡ Some (next, rest) = search rules in
    let kept : texts c.push_line.new.lines.items ≡ texts c.loop-next.lines.items ++ line ∷ [] = search rules in
    c.loop-next.invariant ∙ but_last_more (texts c.loop-next.lines.items) line left next rest cut ∙ ap (λ ls. ls ++ but_last next (whole_lines rest)) (sym kept)

pub returns-clause-lines : goal.returns-clause-lines
returns-clause-lines c =
    let left = c.loop-next.left.now in
    let none : cut_at 10 left ≡ None = search rules in
    sym (c.loop-next.invariant ∙ ap (λ ls. texts c.loop-next.lines.items ++ ls) (but_last_end c.loop-next.line.now left none) ∙ append-nil (texts c.loop-next.lines.items))
