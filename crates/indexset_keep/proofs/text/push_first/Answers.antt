use Rattle.std.proofs.Common.{◌∙◌, ◌++◌, ap, sym, take}
use Rattle.std.proofs.lemmas.List.{take-map, take_all, take_min}
use Rattle.indexset_journal.specs.Kept.{texts}
use Rattle.indexset_keep.proofs.text.push_first.Goals as goal

pub returns-clause-lines : goal.returns-clause-lines
returns-clause-lines c =
    let others = c.args.others.now in
    c.loop-line.invariant
    ∙ ap (λ ls. texts c.args.lines.now.items ++ texts ls)
    (take_all c.loop-line.line-index (take c.min-count.result others) c.loop-line-test.false
    ∙ ap (λ n. take n others) c.min-count.ensures ∙ take_min c.args.count others)
    ∙ ap (λ ls. texts c.args.lines.now.items ++ ls) (sym (take-map (λ v. v.items) c.args.count others))
