use Rattle.std.proofs.Common.{Err, refl, sym, ap, ◌∙◌}
use Rattle.std.proofs.KnownBytes.{Keeps-trans}
use Rattle.std.proofs.lemmas.Result.{on_ok_weaker}
use Rattle.std.proofs.Transfers.{StopsAt-of_All}
use Rattle.indexset_lines.specs.Lines.{HasNoEnd, IsLinePart}
use Rattle.indexset_lines.specs.declared.line.Part.TheVariants.{Whole, Last}
use Rattle.indexset_lines.proofs.Faults.{err_same, failed, ok_not_err, read_not_memory, read_not_numbers, write_not_memory, write_not_numbers, write_not_read}
use Rattle.indexset_lines.proofs.Runs.{all_but_end, all_read, flushed, further, lacking, last_not_end, rest_read, start, stopped, unanswered, unread, whole_not_end}
use Rattle.indexset_lines.proofs.run.answer_lines.Goals.{then-is_used_up+in_ok-flush-in-Whole, else-is_used_up}
use Rattle.indexset_lines.proofs.run.answer_lines.Goals as goal

pub loop-init : goal.loop-init
loop-init g c = (start _ _ _ _ _ _ refl, refl, refl)

pub returns-in_err-is_used_up-clause-read_failed : goal.returns-in_err-is_used_up-clause-read_failed
returns-in_err-is_used_up-clause-read_failed g c failed =
    let stops = c.in_err-is_used_up.ensures.err in
    stopped _ _ _ _ _ (g.R.Read.remaining c.next_line.new.reader) _ _ (g.W.Write.contents c.next_line.new.writer) _
    c.next_line.new.line.items c.loop.invariant.0 HasNoEnd stops.0 stops.1 c.next_line.ensures.unwritten

pub returns-in_err-is_used_up-clause-memory_refused : goal.returns-in_err-is_used_up-clause-memory_refused
returns-in_err-is_used_up-clause-memory_refused g c refused =
    let stops = c.in_err-is_used_up.ensures.err in
    stopped _ _ _ _ _ (g.R.Read.remaining c.next_line.new.reader) _ _ (g.W.Write.contents c.next_line.new.writer) _
    c.next_line.new.line.items c.loop.invariant.0 IsLinePart (StopsAt-of_All c.next_line.new.line.items 10 stops.0)
    stops.1 c.next_line.ensures.unwritten

pub returns-in_err-is_at_end-clause-read_failed : goal.returns-in_err-is_at_end-clause-read_failed
returns-in_err-is_at_end-clause-read_failed g c failed = unread _ _ _ _ _ (g.R.Read.remaining c.is_at_end.new.reader) _ _ _ c.loop.invariant.0 c.is_at_end.ensures.unread

pub returns-else-branch-clause-read_failed : goal.returns-else-branch-clause-read_failed
returns-else-branch-clause-read_failed g c failed = unread _ _ _ _ _ (g.R.Read.remaining c.is_at_end.new.reader) _ _ _ c.loop.invariant.0 c.is_at_end.ensures.unread

pub returns-in-Last-clause-memory_refused : goal.returns-in-Last-clause-memory_refused
returns-in-Last-clause-memory_refused g c refused =
    let kept = Keeps-trans _ _ _ c.next_line.ensures.unwritten (c.answer_cut.ensures.memory_refused refused) in
    unanswered _ _ _ _ _ (g.R.Read.remaining c.next_line.new.reader) _ _ _ _ c.next_line.new.line.items c.loop.invariant.0 Last last_not_end (rw c.in-Last.is at c.in_ok-is_used_up.ensures.ok) kept

pub returns-in_err-answer-in-Whole-clause-memory_refused : goal.returns-in_err-answer-in-Whole-clause-memory_refused
returns-in_err-answer-in-Whole-clause-memory_refused g c refused =
    let told = c.in_err-answer-in-Whole.was ∙ (sym (failed c.from_residual-in_err-answer-in-Whole.result _ c.from_residual-in_err-answer-in-Whole.ensures) ∙ refused) in
    let kept = Keeps-trans _ _ _ c.next_line.ensures.unwritten (c.answer.ensures.memory_refused told) in
    unanswered _ _ _ _ _ (g.R.Read.remaining c.next_line.new.reader) _ _ _ _ c.next_line.new.line.items
    c.loop.invariant.0 (Whole c.in-Whole.is_used_up) (whole_not_end c.in-Whole.is_used_up)
    (rw c.in-Whole.is at c.in_ok-is_used_up.ensures.ok) kept

pub returns-in_err-answer-in-Whole-clause-numbers_refused : goal.returns-in_err-answer-in-Whole-clause-numbers_refused
returns-in_err-answer-in-Whole-clause-numbers_refused g c refused =
    let told = c.in_err-answer-in-Whole.was ∙ (sym (failed c.from_residual-in_err-answer-in-Whole.result _ c.from_residual-in_err-answer-in-Whole.ensures) ∙ refused) in
    let kept = Keeps-trans _ _ _ c.next_line.ensures.unwritten (c.answer.ensures.numbers_refused told) in
    lacking _ _ _ _ _ (g.R.Read.remaining c.next_line.new.reader) _ _ _ _ c.next_line.new.line.items
    c.loop.invariant.0 g.A.Answers.lacks_numbers (Whole c.in-Whole.is_used_up) c.deref.result.now
    (whole_not_end c.in-Whole.is_used_up) c.deref.ensures.value
    (rw c.in-Whole.is at c.in_ok-is_used_up.ensures.ok) kept (c.answer.ensures.no_numbers told)

pub returns-in-Last-clause-given_answered : goal.returns-in-Last-clause-given_answered
returns-in-Last-clause-given_answered g c =
    on_ok_weaker c.answer_cut.result
    (all_but_end _ _ _ _ _ (g.R.Read.remaining c.next_line.new.reader) _ _
    (g.W.Write.contents c.answer_cut.new.writer) _ c.next_line.new.line.items
    (flushed _ _ _ _ _ _ _ _ _ c.loop.invariant.0 c.next_line.ensures.unwritten)
    (g.A.Answers.cut_reply c.args.answers.now) c.in_ok-is_used_up.field-0 c.deref-in-Last.result.now c.in-Last.is c.deref-in-Last.ensures.value c.in_ok-is_used_up.ensures.ok)
    (rw c.loop.invariant.2 at c.answer_cut.ensures.told)

pub returns-in-Last-clause-numbers_refused : goal.returns-in-Last-clause-numbers_refused
returns-in-Last-clause-numbers_refused g c refused =
    let kept = Keeps-trans _ _ _ c.next_line.ensures.unwritten (c.answer_cut.ensures.numbers_refused refused) in
    lacking _ _ _ _ _ (g.R.Read.remaining c.next_line.new.reader) _ _ _ _ c.next_line.new.line.items
    c.loop.invariant.0 g.A.Answers.lacks_numbers Last c.deref-in-Last.result.now last_not_end
    c.deref-in-Last.ensures.value
    (rw c.in-Last.is at c.in_ok-is_used_up.ensures.ok) kept (c.answer_cut.ensures.no_numbers refused)

pub loop-preserved : goal.loop-preserved
loop-preserved g c =
    let far = flushed _ _ _ _ _ _ _ _ _ c.loop.invariant.0 c.next_line.ensures.unwritten in
    let told =
    further _ _ _ _ _ (g.R.Read.remaining c.next_line.new.reader) _ _ (g.W.Write.contents c.answer.new.writer)
    (g.A.Answers.state c.loop.answers) c.next_line.new.line.items far c.in_ok-is_used_up.field-0
    c.in-Whole.is_used_up c.deref.result.now (g.A.Answers.state c.answer.new.self)
    c.in-Whole.is c.deref.ensures.value c.in_ok-is_used_up.ensures.ok (rw c.loop.invariant.1 at c.in_ok-answer-in-Whole.ensures.told) c.in_ok-answer-in-Whole.ensures.held in
    let alike = c.in_ok-answer-in-Whole.ensures.alike ∙ c.loop.invariant.1 in
    let cut_alike = c.in_ok-answer-in-Whole.ensures.cut_alike ∙ c.loop.invariant.2 in
    elim c.if-is_used_up.branch [
      | then-is_used_up+in_ok-flush-in-Whole w ↦ (rw w.writer-is (flushed _ _ _ _ _ _ _ _ _ told w.flush.ensures.unwritten), alike, cut_alike)
      | else-is_used_up w ↦ (rw w.writer-is told, alike, cut_alike)
    ]

pub returns-in-End-clause-given_answered : goal.returns-in-End-clause-given_answered
returns-in-End-clause-given_answered g c =
    all_read _ _ _ _ _ (g.R.Read.remaining c.next_line.new.reader) _ _ _ _ c.next_line.new.line.items
    c.loop.invariant.0 (g.A.Answers.cut_reply c.args.answers.now) c.in_ok-is_used_up.field-0 c.in-End.is
    c.in_ok-is_used_up.ensures.ok c.next_line.ensures.unwritten

pub returns-in_err-is_used_up-clause-given_answered : goal.returns-in_err-is_used_up-clause-given_answered
returns-in_err-is_used_up-clause-given_answered g c = rw (failed c.from_residual.result _ c.from_residual.ensures) tt

pub returns-in_err-is_used_up-clause-numbers_refused : goal.returns-in_err-is_used_up-clause-numbers_refused
returns-in_err-is_used_up-clause-numbers_refused g c refused =
    absurd (c.next_line.ensures.numbers_fit (c.in_err-is_used_up.was ∙ ap Err (err_same c.from_residual.result (failed c.from_residual.result _ c.from_residual.ensures) refused)))

pub returns-in_err-answer-in-Whole-clause-given_answered : goal.returns-in_err-answer-in-Whole-clause-given_answered
returns-in_err-answer-in-Whole-clause-given_answered g c = rw (failed c.from_residual-in_err-answer-in-Whole.result _ c.from_residual-in_err-answer-in-Whole.ensures) tt

pub returns-in_err-answer-in-Whole-clause-read_failed : goal.returns-in_err-answer-in-Whole-clause-read_failed
returns-in_err-answer-in-Whole-clause-read_failed g c failure =
    absurd (c.answer.ensures.no_read (c.in_err-answer-in-Whole.was ∙ (sym (failed c.from_residual-in_err-answer-in-Whole.result _ c.from_residual-in_err-answer-in-Whole.ensures) ∙ failure)))

pub returns-in_err-flush-in-Whole-clause-given_answered : goal.returns-in_err-flush-in-Whole-clause-given_answered
returns-in_err-flush-in-Whole-clause-given_answered g c = rw (failed c.from_residual-in_err-flush-in-Whole.result _ c.from_residual-in_err-flush-in-Whole.ensures) tt

pub returns-in_err-flush-in-Whole-clause-read_failed : goal.returns-in_err-flush-in-Whole-clause-read_failed
returns-in_err-flush-in-Whole-clause-read_failed g c failure =
    write_not_read
    (rw
    c.in_err-flush-in-Whole.ensures.fault at
    (err_same c.from_residual-in_err-flush-in-Whole.result
    (failed c.from_residual-in_err-flush-in-Whole.result _ c.from_residual-in_err-flush-in-Whole.ensures) failure))

pub returns-in_err-flush-in-Whole-clause-memory_refused : goal.returns-in_err-flush-in-Whole-clause-memory_refused
returns-in_err-flush-in-Whole-clause-memory_refused g c failure =
    write_not_memory
    (rw
    c.in_err-flush-in-Whole.ensures.fault at
    (err_same c.from_residual-in_err-flush-in-Whole.result
    (failed c.from_residual-in_err-flush-in-Whole.result _ c.from_residual-in_err-flush-in-Whole.ensures) failure))

pub returns-in_err-flush-in-Whole-clause-numbers_refused : goal.returns-in_err-flush-in-Whole-clause-numbers_refused
returns-in_err-flush-in-Whole-clause-numbers_refused g c failure =
    write_not_numbers
    (rw
    c.in_err-flush-in-Whole.ensures.fault at
    (err_same c.from_residual-in_err-flush-in-Whole.result
    (failed c.from_residual-in_err-flush-in-Whole.result _ c.from_residual-in_err-flush-in-Whole.ensures) failure))

pub returns-in-Last-clause-read_failed : goal.returns-in-Last-clause-read_failed
returns-in-Last-clause-read_failed g c failure = absurd (c.answer_cut.ensures.no_read failure)

pub returns-in-End-clause-read_failed : goal.returns-in-End-clause-read_failed
returns-in-End-clause-read_failed g c failure = ok_not_err failure

pub returns-in-End-clause-memory_refused : goal.returns-in-End-clause-memory_refused
returns-in-End-clause-memory_refused g c failure = ok_not_err failure

pub returns-in-End-clause-numbers_refused : goal.returns-in-End-clause-numbers_refused
returns-in-End-clause-numbers_refused g c failure = ok_not_err failure

pub returns-in_err-is_at_end-clause-given_answered : goal.returns-in_err-is_at_end-clause-given_answered
returns-in_err-is_at_end-clause-given_answered g c = rw (failed c.from_residual-in_err-is_at_end.result _ c.from_residual-in_err-is_at_end.ensures) tt

pub returns-in_err-is_at_end-clause-memory_refused : goal.returns-in_err-is_at_end-clause-memory_refused
returns-in_err-is_at_end-clause-memory_refused g c failure =
    read_not_memory
    (rw
    c.in_err-is_at_end.ensures.err at
    (err_same c.from_residual-in_err-is_at_end.result
    (failed c.from_residual-in_err-is_at_end.result _ c.from_residual-in_err-is_at_end.ensures) failure))

pub returns-in_err-is_at_end-clause-numbers_refused : goal.returns-in_err-is_at_end-clause-numbers_refused
returns-in_err-is_at_end-clause-numbers_refused g c failure =
    read_not_numbers
    (rw
    c.in_err-is_at_end.ensures.err at
    (err_same c.from_residual-in_err-is_at_end.result
    (failed c.from_residual-in_err-is_at_end.result _ c.from_residual-in_err-is_at_end.ensures) failure))

pub returns-then-branch-clause-given_answered : goal.returns-then-branch-clause-given_answered
returns-then-branch-clause-given_answered g c =
    rest_read _ _ _ (g.A.Answers.cut_reply c.args.answers.now) _ _ (g.R.Read.remaining c.is_at_end.new.reader) _ _ _
    c.loop.invariant.0 c.is_at_end.ensures.unread (c.in_ok-is_at_end.ensures.end c.if-branch.true)

pub returns-then-branch-clause-read_failed : goal.returns-then-branch-clause-read_failed
returns-then-branch-clause-read_failed g c failure = ok_not_err failure

pub returns-then-branch-clause-memory_refused : goal.returns-then-branch-clause-memory_refused
returns-then-branch-clause-memory_refused g c failure = ok_not_err failure

pub returns-then-branch-clause-numbers_refused : goal.returns-then-branch-clause-numbers_refused
returns-then-branch-clause-numbers_refused g c failure = ok_not_err failure

pub returns-else-branch-clause-given_answered : goal.returns-else-branch-clause-given_answered
returns-else-branch-clause-given_answered g c = tt

pub returns-else-branch-clause-memory_refused : goal.returns-else-branch-clause-memory_refused
returns-else-branch-clause-memory_refused g c failure = read_not_memory (err_same _ refl failure)

pub returns-else-branch-clause-numbers_refused : goal.returns-else-branch-clause-numbers_refused
returns-else-branch-clause-numbers_refused g c failure = read_not_numbers (err_same _ refl failure)
