use Rattle.std.proofs.Common.{rules, ◌≡◌, ◌∙◌, ◌∷◌, ◌++◌, [], None, Some, ap, sym, append-nil}
use Rattle.indexset_journal.specs.Kept.{texts}
use Rattle.indexset_wire.specs.Parts.{cut_at}
use Rattle.indexset_lines.specs.Lines.{whole_lines}
use Rattle.indexset_keep.proofs.Cuts.{line_more, uncut_lines}
use Rattle.indexset_keep.proofs.text.push_text_lines.Goals as goal

pub loop-line-preserved : goal.loop-line-preserved
loop-line-preserved c =
    let left = c.loop-line.left.now in
    let line = c.in-Some.line.now in
    let rest = c.in-Some.rest.now in
    let cut : cut_at 10 left ≡ Some (line, rest) = search rules in
    let kept : texts c.push_line.new.lines.items ≡ texts c.loop-line.lines.items ++ line ∷ [] = search rules in
    c.loop-line.invariant ∙ line_more (texts c.loop-line.lines.items) left line rest cut ∙ ap (λ ls. ls ++ whole_lines rest) (sym kept)

pub returns-clause-lines : goal.returns-clause-lines
returns-clause-lines c =
    let left = c.loop-line.left.now in
    let uncut : cut_at 10 left ≡ None = search rules in
    sym (c.loop-line.invariant ∙ ap (λ ls. texts c.loop-line.lines.items ++ ls) (uncut_lines left uncut) ∙ append-nil (texts c.loop-line.lines.items))
