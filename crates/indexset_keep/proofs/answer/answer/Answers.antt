use Rattle.std.proofs.Common.{Err, Ok, ap, subst, ◌∙◌}
use Rattle.std.specs.Io.KnownBytes.{Appends}
use Rattle.indexset_lines.proofs.Faults.{failed as refused}
use Rattle.indexset_keep.specs.Map.{map_held}
use Rattle.indexset_keep.proofs.Runs.{ended_cut, ended_whole, not_answered}
use Rattle.indexset_keep.proofs.answer.answer.Goals.{in-Cut+in_ok-answer_cut, in_default}
use Rattle.indexset_keep.proofs.answer.answer.Goals as goal

pub returns-in_err-answer_cut-clause-some : goal.returns-in_err-answer_cut-clause-some
returns-in_err-answer_cut-clause-some g c =
    let whole = rw c.in-Cut.is at c.in_ok-end.ensures.whole in
    let none = rw c.in-Cut.is at c.in_ok-end.ensures.rest in
    let was = c.in_err-answer_cut.was in
    rw (refused c.from_residual-in_err-answer_cut.result _ c.from_residual-in_err-answer_cut.ensures)
    (not_answered g.T.Ord.cmp g.T.Item.texts _ _ _ _ _ _ _ _ _ _ _ _ _ _ whole none _ _
    (λ e. c.answer_cut.ensures.memory_refused (was ∙ ap Err e))
    (λ e. c.answer_cut.ensures.numbers_refused (was ∙ ap Err e))
    (λ e. c.answer_cut.ensures.no_read (was ∙ ap Err e)))

pub returns-clause-all : goal.returns-clause-all
returns-clause-all g c = elim c.match-end.branch [
  | in-Cut+in_ok-answer_cut w ↦
      let whole = rw w.in-Cut.is at c.in_ok-end.ensures.whole in
      let none = rw w.in-Cut.is at c.in_ok-end.ensures.rest in
      let some = c.in_ok-end.ensures.cut (ap Ok w.in-Cut.is) in
      let told =
      subst (λ f.
      Appends (g.W.Write.contents c.answer_whole.new.writer) (g.W.Write.contents w.answer_cut.new.writer)
      (f (map_held c.answer_whole.new.map) w.as_slice.result.now))
      c.in_ok-end.ensures.cut_alike w.in_ok-answer_cut.ensures.told in
      rw w.writer-is (ended_cut g.T.Ord.cmp g.T.Item.texts _ _ _ _ _ _ _ _ _ _ _ _ _ _ _ _ whole none some c.in_ok-end.ensures.end w.as_slice.ensures.value told)
  | in_default w ↦
      rw w.writer-is
      (ended_whole g.T.Ord.cmp g.T.Item.texts _ _ _ _ _ _ _ _ _ _ _ _ _ _ c.in_ok-end.end w.in_default.not-Cut
      c.in_ok-end.ensures.whole c.in_ok-end.ensures.rest c.in_ok-end.ensures.end)
]
