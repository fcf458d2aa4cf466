use Rattle.std.proofs.Common.{◌≡◌, ◌+◌, [], length, inl, inr, refl, ap, sym, subst, ◌∙◌, rules}
use Rattle.std.proofs.lemmas.List.{length-map}
use Rattle.sqlite_trees.specs.Tree.{Trees}
use Rattle.indexset_journal.specs.Kept.{texts, lines_in}
use Rattle.indexset_journal.specs.State.{IsAtRest}
use Rattle.indexset_journal.proofs.Steps.{clean_before}
use Rattle.indexset_journal.proofs.Commits.{on_ok, open_if_sound, still_open, committed_of, lines_put, rests_put}
use Rattle.indexset_journal.proofs.journal.Journal.replace.Goals as goal

pub returns-in_err-commit_or_undo-clause-any_moment : goal.returns-in_err-commit_or_undo-clause-any_moment
returns-in_err-commit_or_undo-clause-any_moment g c clean db found =
    let old = g.S.Store.view c.self.inside.store in
    let mid = g.S.Store.view c.put_instead-staged.new.store in
    let new = g.S.Store.view c.commit_or_undo.new.store in
    let before = clean_before mid new c.commit_or_undo.ensures.steady.clean clean in
    let begun = clean_before old mid c.put_instead-staged.ensures.quiet.clean before in
    let is_open = open_if_sound _ _ (g.met.S.Store.broken_if_shut c.self.inside.store) (c.in_ok-end.ensures.sound begun) in
    let rests = c.self.invariant begun is_open in
    rw (← c.self.view_is) (elim (c.commit_or_undo.ensures.crash db found) [
      | inl done ↦ inr (ap lines_in done.1 ∙ lines_put c.self.inside.next 0 [] (texts c.args.lines.now) old mid rests (on_ok _ _ c.put_instead-staged.ensures.ok done.0 before))
      | inr was ↦ inl (c.put_instead-staged.ensures.quiet.outcomes db was)
    ])

pub returns-clause-any_moment : goal.returns-clause-any_moment
returns-clause-any_moment g c clean db found =
    let old = g.S.Store.view c.self.inside.store in
    let mid = g.S.Store.view c.put_instead-staged.new.store in
    let new = g.S.Store.view c.commit_or_undo.new.store in
    let before = clean_before mid new c.commit_or_undo.ensures.steady.clean clean in
    let begun = clean_before old mid c.put_instead-staged.ensures.quiet.clean before in
    let is_open = open_if_sound _ _ (g.met.S.Store.broken_if_shut c.self.inside.store) (c.in_ok-end.ensures.sound begun) in
    let rests = c.self.invariant begun is_open in
    rw (← c.self.view_is) (elim (c.commit_or_undo.ensures.crash db found) [
      | inl done ↦ inr (ap lines_in done.1 ∙ lines_put c.self.inside.next 0 [] (texts c.args.lines.now) old mid rests (on_ok _ _ c.put_instead-staged.ensures.ok done.0 before))
      | inr was ↦ inl (c.put_instead-staged.ensures.quiet.outcomes db was)
    ])

pub returns-clause-kept : goal.returns-clause-kept
returns-clause-kept g c clean =
    let old = g.S.Store.view c.self.inside.store in
    let mid = g.S.Store.view c.put_instead-staged.new.store in
    let new = g.S.Store.view c.commit_or_undo.new.store in
    let before = clean_before mid new c.commit_or_undo.ensures.steady.clean clean in
    let begun = clean_before old mid c.put_instead-staged.ensures.quiet.clean before in
    let is_open = open_if_sound _ _ (g.met.S.Store.broken_if_shut c.self.inside.store) (c.in_ok-end.ensures.sound begun) in
    let stages = on_ok _ _ c.put_instead-staged.ensures.ok c.in_ok-commit_or_undo.ensures.staged before in
    let commits = c.in_ok-commit_or_undo.ensures.ok clean in
    let lines = lines_put c.self.inside.next 0 [] (texts c.args.lines.now) old mid (c.self.invariant begun is_open) stages in
    (still_open old mid new _ stages commits is_open, ap lines_in (committed_of mid new commits) ∙ lines)

pub returns-clause-durable : goal.returns-clause-durable
returns-clause-durable g c clean db found =
    let old = g.S.Store.view c.self.inside.store in
    let mid = g.S.Store.view c.put_instead-staged.new.store in
    let new = g.S.Store.view c.commit_or_undo.new.store in
    let before = clean_before mid new c.commit_or_undo.ensures.steady.clean clean in
    let begun = clean_before old mid c.put_instead-staged.ensures.quiet.clean before in
    let is_open = open_if_sound _ _ (g.met.S.Store.broken_if_shut c.self.inside.store) (c.in_ok-end.ensures.sound begun) in
    let stages = on_ok _ _ c.put_instead-staged.ensures.ok c.in_ok-commit_or_undo.ensures.staged before in
    let commits = c.in_ok-commit_or_undo.ensures.ok clean in
    let lines = lines_put c.self.inside.next 0 [] (texts c.args.lines.now) old mid (c.self.invariant begun is_open) stages in
    let left = g.met.S.Store.settled c.commit_or_undo.new.store db (still_open old mid new _ stages commits is_open) found in
    ap lines_in (left ∙ committed_of mid new commits) ∙ lines

pub invariant_of-self-2 : goal.invariant_of-self-2
invariant_of-self-2 g c clean still =
    let old = g.S.Store.view c.self.inside.store in
    let mid = g.S.Store.view c.put_instead-staged.new.store in
    let new = g.S.Store.view c.commit_or_undo.new.store in
    let before = clean_before mid new c.commit_or_undo.ensures.steady.clean clean in
    let begun = clean_before old mid c.put_instead-staged.ensures.quiet.clean before in
    let is_open = open_if_sound _ _ (g.met.S.Store.broken_if_shut c.self.inside.store) (c.in_ok-end.ensures.sound begun) in
    let stages = on_ok _ _ c.put_instead-staged.ensures.ok c.in_ok-commit_or_undo.ensures.staged before in
    let past : c.in_ok-end.end ≡ 0 + length c.args.lines.now = search rules in
    let size : 0 + length (texts c.args.lines.now) ≡ c.in_ok-end.end = ap (λ n. 0 + n) (length-map c.args.lines.now _) ∙ sym past in
    subst (λ n. IsAtRest n new) size
    (rests_put c.self.inside.next 0 [] (texts c.args.lines.now) old mid (c.self.invariant begun is_open) stages new
    tt tt refl (c.in_ok-commit_or_undo.ensures.ok clean))

pub returns-clause-numbered : goal.returns-clause-numbered
returns-clause-numbered g c clean =
    let mid = g.S.Store.view c.put_instead-staged.new.store in
    let new = g.S.Store.view c.commit_or_undo.new.store in
    let before = clean_before mid new c.commit_or_undo.ensures.steady.clean clean in
    let stages = on_ok _ _ c.put_instead-staged.ensures.ok c.in_ok-commit_or_undo.ensures.staged before in
    ap (λ (t : Trees). t 0) (committed_of mid new (c.in_ok-commit_or_undo.ensures.ok clean)) ∙ stages.this
