use Rattle.std.proofs.Common.{◌≡◌}
use Rattle.indexset_lines.proofs.Runs.{SoFar}
use Rattle.indexset_lines.proofs.run.answer_lines.Given as goal

abbrev pub invariant-loop : goal.invariant-loop
invariant-loop g l =
    SoFar (g.A.Answers.reply l.fn.answers) g.A.Answers.after (g.A.Answers.state l.fn.answers)
    (g.R.Read.remaining l.fn.reader) (g.R.Read.remaining l.reader) (g.W.Write.contents l.fn.writer)
    (g.W.Write.contents l.writer) (g.A.Answers.state l.answers)
    × (g.A.Answers.reply l.answers ≡ g.A.Answers.reply l.fn.answers)
    × (g.A.Answers.cut_reply l.answers ≡ g.A.Answers.cut_reply l.fn.answers)
