use Rattle.std.proofs.Common.{◌≡◌, ◌+◌, ap, sym, ◌∙◌, arith, rules}
use Rattle.std.proofs.lemmas.Result.{err_from_is_err_and}
use Rattle.sqlite_trees.specs.View.{View}
use Rattle.indexset_journal.specs.Kept.{row_of}
use Rattle.indexset_journal.proofs.Causes.{cause_before, faults_since, too_long}
use Rattle.indexset_journal.proofs.Steps.{clean_before, put_one}
use Rattle.indexset_journal.proofs.write.put_lines.Goals as goal

pub returns-in_err-put-clause-cause : goal.returns-in_err-put-clause-cause
returns-in_err-put-clause-cause g c clean =
    let old = g.S.Store.view c.args.store.now in
    let was = g.S.Store.view c.loop-at.store in
    let new = g.S.Store.view c.put.new.self in
    let before = clean_before was new c.put.ensures.quiet.clean clean in
    let begun = clean_before old was c.loop-at.invariant.quiet.clean before in
    let staged = (c.loop-at.invariant.stages before).rest in
    let row : c.set_line.new.row ≡ row_of (c.args.next + c.loop-at.at) c.index-lines-at.result.items = search rules in
    let plain = ap (λ (v : View). v.reals 0) staged ∙ (c.requires.ready begun).plain in
    let failed = c.in_err-put.ensures.cause clean in
    let is = err_from_is_err_and c.from_residual-in_err-put.result c.from_residual-in_err-put.ensures.1 in
    rw (is.1, is.2) (cause_before old was _ _ _ _
    (λ broken. ap (λ (v : View). v.is_broken) (sym staged) ∙ broken)
    (faults_since _ _ _ c.loop-at.invariant.quiet.counts)
    (λ refused. (
      c.loop-at.at,
      c.index-lines-at.result,
      omega arith,
      sym c.index-lines-at.is,
      too_long (was.reals 0) (c.args.next + c.loop-at.at) c.index-lines-at.result.items plain (λ stored. refused (rw row stored)),
    ))
    c.in_err-put.field-0.0 failed)

pub loop-at-preserved : goal.loop-at-preserved
loop-at-preserved g c = record {
  quiet = search rules;
  stages = λ clean.
      let old = g.S.Store.view c.args.store.now in
      let was = g.S.Store.view c.loop-at.store in
      let new = g.S.Store.view c.put.new.self in
      let before = clean_before was new c.put.ensures.quiet.clean clean in
      let begun = clean_before old was c.loop-at.invariant.quiet.clean before in
      put_one c.args.next c.args.lines.now c.loop-at.at c.index-lines-at.result old was new c.set_line.new.row (omega arith) (c.requires.below begun)
      (c.loop-at.invariant.stages before) (search rules) (c.in_ok-put.ensures.ok clean);
}
