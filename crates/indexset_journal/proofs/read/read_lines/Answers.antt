use Rattle.std.proofs.Common.{◌≡◌, ◌+◌, max, [], ◌∷◌, ◌++◌, ap, sym, subst, ◌∙◌, arith, rules}
use Rattle.std.specs.List.{AllByRecursion}
use Rattle.std.specs.Prelude.{Vec}
use Rattle.std.specs.declared.alloc.Global.{Global}
use Rattle.std.proofs.lemmas.List.{map-append}
use Rattle.sqlite_trees.specs.Tree.{order_of}
use Rattle.indexset_journal.specs.Kept.{IsLine, line_of, texts}
use Rattle.indexset_journal.proofs.Steps.{clean_before}
use Rattle.indexset_journal.proofs.Scans.{IsReadUpTo, begin, within_lines, row_next, one_more}
use Rattle.indexset_journal.proofs.read.read_lines.Goals as goal

pub rows-init : goal.rows-init
rows-init g c = record {
  live = search rules;
  quiet = search rules;
  small = omega arith;
  read = λ clean.
      let old = g.S.Store.view c.args.store.now in
      let now = g.S.Store.view c.seek.new.self in
      let sought = rw c.new-row.ensures at (c.in_ok-seek.ensures.ok clean) in
      subst (λ l. IsReadUpTo old now (texts l) 0) (sym c.new-lines.ensures.items) (begin old now (order_of (old.shape 0)) (c.in_ok-seek.ensures.sound clean) sought);
}

pub returns-in_default-clause-cause : goal.returns-in_default-clause-cause
returns-in_default-clause-cause g c clean all =
    let old = g.S.Store.view c.args.store.now in
    let now = g.S.Store.view c.rows.store in
    let new = g.S.Store.view c.next.new.self in
    let read = c.rows.invariant.read (clean_before now new c.next.ensures.quiet.clean clean) in
    let given = rw c.if-not-branch.false at (c.in_ok-next.ensures.ok clean) in
    let rows = row_next old now new (texts c.rows.lines.items) c.rows.next c.next.new.row read given in
    c.in_default.ensures.none (search rules) (within_lines read.done given.0 c.next.new.row (subst (AllByRecursion IsLine) (sym rows) all))

pub rows-preserved : goal.rows-preserved
rows-preserved g c = record {
  live = search rules;
  quiet = search rules;
  small = omega (arith, c.in-Some.ensures.line, c.rows.invariant.small);
  read = λ clean.
      let old = g.S.Store.view c.args.store.now in
      let now = g.S.Store.view c.rows.store in
      let new = g.S.Store.view c.next.new.self in
      let read = c.rows.invariant.read (clean_before now new c.next.ensures.quiet.clean clean) in
      let given = rw c.if-not-branch.false at (c.in_ok-next.ensures.ok clean) in
      let line = c.in-Some.ensures.line.1.0 in
      let is = c.in-Some.ensures.line.1.1 in
      let most : c.max-next.result ≡ max c.rows.next (c.in-Some.number + 1) = search rules in
      let copied : c.in_ok-to_vec.field-0.items ≡ line_of c.next.new.row = search rules in
      let pushed : texts c.push.new.self.items ≡ texts c.rows.lines.items ++ line ∷ [] =
      ap texts c.in_ok-push.ensures.items ∙ map-append (λ (v : Vec _ Global). v.items) c.rows.lines.items (c.in_ok-to_vec.field-0 ∷ [])
      ∙ ap (λ l. texts c.rows.lines.items ++ l ∷ []) (copied ∙ ap line_of is) in
      subst (IsReadUpTo old new (texts c.push.new.self.items)) (sym most)
      (one_more old now new (texts c.rows.lines.items) (texts c.push.new.self.items) c.rows.next c.in-Some.number line c.next.new.row read given is pushed);
}
