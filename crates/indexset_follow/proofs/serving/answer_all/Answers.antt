use Rattle.indexset_follow.proofs.serving.answer_all.Goals as goal

pub returns-clause-numbers_refused : goal.returns-clause-numbers_refused
returns-clause-numbers_refused g c refused =
    let made = c.new-store.ensures in
    rw made.held at (rw made.voice at c.answer_lines.ensures.numbers_refused refused)
