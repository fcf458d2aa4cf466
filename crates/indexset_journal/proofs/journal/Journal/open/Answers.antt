use Rattle.indexset_journal.proofs.Steps.{clean_before}
use Rattle.indexset_journal.proofs.Causes.{explained, faults_since}
use Rattle.indexset_journal.proofs.Commits.{open_if_sound}
use Rattle.indexset_journal.proofs.Opens.{shut_or_fault, not_only_lines}
use Rattle.indexset_journal.proofs.journal.Journal.open.Goals as goal

pub returns-in-Err-clause-cause : goal.returns-in-Err-clause-cause
returns-in-Err-clause-cause g c clean =
    let old = g.S.Store.view c.args.store in
    let mid = g.S.Store.view c.rollback.new.self in
    let new = g.S.Store.view c.find_lines.new.store in
    let before = clean_before mid new c.find_lines.ensures.quiet.clean clean in
    explained _ _ _ _ _ _ _ _ _ _
    (faults_since _ _ _ c.rollback.ensures.quiet.counts)
    (shut_or_fault old mid _ _ _ c.rollback.ensures.undone c.find_lines.ensures.quiet.counts (c.rollback.ensures.quiet.closes before))
    (λ none. none)
    (λ none. none)
    (λ other. not_only_lines old mid c.rollback.ensures.undone before (open_if_sound _ _ (g.met.S.Store.broken_if_shut c.rollback.new.self) other.0) other.1)
    c.in-Err.error (c.in-Err.ensures.cause clean)
