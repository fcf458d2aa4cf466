use Rattle.std.proofs.Common.{ap, Err, ◌∙◌, ◌++◌, ◌∷◌, [], refl}
use Rattle.std.proofs.KnownBytes.{Consumes-nil, Keeps-refl}
use Rattle.indexset_lines.proofs.Faults.{failed as refused}
use Rattle.indexset_keep.specs.Keep.{state_held}
use Rattle.indexset_keep.proofs.Reading.{read_on}
use Rattle.indexset_keep.proofs.Runs.{begun, ended, failed, on_err, put, stopped}
use Rattle.indexset_keep.proofs.answer.answer_whole.Goals.{then-is_asked+in_ok-put-in-Whole, else-is_asked+else-is_full+else-not-has_line}
use Rattle.indexset_keep.proofs.answer.answer_whole.Goals as goal

pub loop-init : goal.loop-init
loop-init g c = (begun g.T.Ord.cmp g.T.Item.texts _ _ _ _ _ _ _ _ _ _ _ c.new-batch.ensures.answers c.new-batch.ensures.told c.requires refl, refl, refl)

pub returns-in_err-next_line-clause-some : goal.returns-in_err-next_line-clause-some
returns-in_err-next_line-clause-some g c =
    on_err _ _ (λ fault.
    stopped g.T.Ord.cmp g.T.Item.texts _ _ _ _ _ _ _ _ _ _ _ _ _ _ _ c.loop.invariant.0 _ _ c.next_line.new.line.items _
    c.in_err-next_line.ensures.err.1 c.next_line.ensures.unwritten)

pub returns-in_err-answer-in-Whole-clause-some : goal.returns-in_err-answer-in-Whole-clause-some
returns-in_err-answer-in-Whole-clause-some g c =
    let read = rw c.in-Whole.is at c.in_ok-next_line.ensures.ok in
    on_err _ _ (λ fault. stopped g.T.Ord.cmp g.T.Item.texts _ _ _ _ _ _ _ _ _ _ _ _ _ _ _ c.loop.invariant.0 _ _ (c.next_line.new.line.items ++ 10 ∷ []) _ read.1 c.next_line.ensures.unwritten)

pub returns-in_err-put-in-Whole-clause-some : goal.returns-in_err-put-in-Whole-clause-some
returns-in_err-put-in-Whole-clause-some g c =
    let read = rw c.in-Whole.is at c.in_ok-next_line.ensures.ok in
    let ok = c.in_ok-answer-in-Whole.ensures in
    let far =
    read_on g.T.Ord.cmp g.T.Item.texts g.met.T.Ord.total g.met.T.Token.tokens _ _ _ _ _ _ _ _ _ _ _ _ _ _ _
    c.loop.invariant.0 c.loop.invariant.1 _ _ _ _ _ _ _ c.next_line.ensures.unwritten read.0 read.1
    c.as_slice.ensures.value ok.answers (ok.told c.loop.invariant.0.sound) ok.map ok.next in
    rw (refused c.from_residual-in_err-put-in-Whole.result _ c.from_residual-in_err-put-in-Whole.ensures)
    (failed g.T.Ord.cmp g.T.Item.texts _ _ _ _ _ _ _ _ _ _ _ _ _ _ _ far _ _ _ _ [] _ (Consumes-nil _) (Keeps-refl _)
    (λ other. let it = c.in_err-put-in-Whole.ensures.keep_failed other in (it.0 (state_held far.between) far.waits far.sound.role, it.1))
    (λ e. c.put.ensures.write_failed (c.in_err-put-in-Whole.was ∙ ap Err e) (state_held far.between) far.waits far.sound.role))

pub returns-in_err-put-in-Last-clause-some : goal.returns-in_err-put-in-Last-clause-some
returns-in_err-put-in-Last-clause-some g c =
    let read = rw c.in-Last.is at c.in_ok-next_line.ensures.ok in
    let so = c.loop.invariant.0 in
    rw (refused c.from_residual-in_err-put-in-Last.result _ c.from_residual-in_err-put-in-Last.ensures)
    (failed g.T.Ord.cmp g.T.Item.texts _ _ _ _ _ _ _ _ _ _ _ _ _ _ _ so _ _ _ _ c.next_line.new.line.items _ read.1 c.next_line.ensures.unwritten
    (λ other. let it = c.in_err-put-in-Last.ensures.keep_failed other in (it.0 (state_held so.between) so.waits so.sound.role, it.1))
    (λ e. c.put-in-Last.ensures.write_failed (c.in_err-put-in-Last.was ∙ ap Err e) (state_held so.between) so.waits so.sound.role))

pub returns-in-Last-clause-whole : goal.returns-in-Last-clause-whole
returns-in-Last-clause-whole g c =
    let read = rw c.in-Last.is at c.in_ok-next_line.ensures.ok in
    let so = c.loop.invariant.0 in
    ended g.T.Ord.cmp g.T.Item.texts _ _ _ _ _ _ _ _ _ _ _ _ _ _ _ so _ _ _ _ c.next_line.new.line.items read.1
    c.next_line.ensures.unwritten (c.in_ok-put-in-Last.ensures.leads (state_held so.between) so.waits so.sound.role)
    c.in_ok-put-in-Last.ensures.written

pub returns-in_err-put-in-End-clause-some : goal.returns-in_err-put-in-End-clause-some
returns-in_err-put-in-End-clause-some g c =
    let read = rw c.in-End.is at c.in_ok-next_line.ensures.ok in
    let so = c.loop.invariant.0 in
    rw (refused c.from_residual-in_err-put-in-End.result _ c.from_residual-in_err-put-in-End.ensures)
    (failed g.T.Ord.cmp g.T.Item.texts _ _ _ _ _ _ _ _ _ _ _ _ _ _ _ so _ _ _ _ [] _ read.1 c.next_line.ensures.unwritten
    (λ other. let it = c.in_err-put-in-End.ensures.keep_failed other in (it.0 (state_held so.between) so.waits so.sound.role, it.1))
    (λ e. c.put-in-End.ensures.write_failed (c.in_err-put-in-End.was ∙ ap Err e) (state_held so.between) so.waits so.sound.role))

pub returns-in-End-clause-whole : goal.returns-in-End-clause-whole
returns-in-End-clause-whole g c =
    let read = rw c.in-End.is at c.in_ok-next_line.ensures.ok in
    let so = c.loop.invariant.0 in
    ended g.T.Ord.cmp g.T.Item.texts _ _ _ _ _ _ _ _ _ _ _ _ _ _ _ so _ _ _ _ [] read.1 c.next_line.ensures.unwritten
    (c.in_ok-put-in-End.ensures.leads (state_held so.between) so.waits so.sound.role)
    c.in_ok-put-in-End.ensures.written

pub loop-preserved : goal.loop-preserved
loop-preserved g c =
    let read = rw c.in-Whole.is at c.in_ok-next_line.ensures.ok in
    let ok = c.in_ok-answer-in-Whole.ensures in
    let far =
    read_on g.T.Ord.cmp g.T.Item.texts g.met.T.Ord.total g.met.T.Token.tokens _ _ _ _ _ _ _ _ _ _ _ _ _ _ _
    c.loop.invariant.0 c.loop.invariant.1 _ _ _ _ _ _ _ c.next_line.ensures.unwritten read.0 read.1
    c.as_slice.ensures.value ok.answers (ok.told c.loop.invariant.0.sound) ok.map ok.next in
    let alike = ok.alike ∙ c.loop.invariant.1 in
    let cut = ok.cut_alike ∙ c.loop.invariant.2 in
    elim c.if-is_asked.branch [
      | then-is_asked+in_ok-put-in-Whole w ↦
          let done = w.in_ok-put-in-Whole.ensures in
          rw (w.kept-is, w.writer-is, w.batch-is) (
            put g.T.Ord.cmp g.T.Item.texts _ _ _ _ _ _ _ _ _ _ _ _ _ _ _ far _ _ (done.leads (state_held far.between) far.waits far.sound.role) done.written _ _ done.emptied done.none_told,
            alike,
            cut,
          )
      | else-is_asked+else-is_full+else-not-has_line w ↦ rw (w.kept-is, w.writer-is, w.batch-is) (far, alike, cut)
    ]

pub returns-clause-some : goal.returns-clause-some
returns-clause-some g c = stopped g.T.Ord.cmp g.T.Item.texts _ _ _ _ _ _ _ _ _ _ _ _ _ _ _ c.loop.invariant.0 _ _ [] _ (Consumes-nil _) (Keeps-refl _)
