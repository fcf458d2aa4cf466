use Rattle.std.proofs.Common.{◌≡◌, length, ap, sym, ◌∙◌, arith}
use Rattle.std.proofs.lemmas.Option.{none-some}
use Rattle.std.specs.Cmp.Lexicographic.{slice_cmp}
use Rattle.std.specs.Ordering.{nat_cmp}
use Rattle.indexset_log.specs.Changed.{key_removal}
use Rattle.indexset_ffi.specs.TextLogs.{ToldTree}
use Rattle.indexset_c.proofs.TextLogLemmas.{few_kept}
use Rattle.indexset_c.proofs.text_log_edits.indexset_text_log_remove.Goals.{in-Ok-Some, in-Ok-None, in-Err}
use Rattle.indexset_c.proofs.text_log_edits.indexset_text_log_remove.Goals as goal

pub returns-clause-at_most_three_events : goal.returns-clause-at_most_three_events
returns-clause-at_most_three_events c =
    let m = c.deref_mut.result.now in let made = key_removal (slice_cmp nat_cmp) m.tree c.args.key.now in
    elim c.match-remove.branch [
      | in-Ok-Some w ↦
          let e = w.in-Ok-Some.ensures in let is = w.event_count-is in
          let few =
          few_kept c.remove.new.self m.tree made (e.ok (λ none. none-some _ (sym none ∙ w.in-Ok-Some.field-0-is)))
          (e.changed (λ none. none-some _ (sym none ∙ w.in-Ok-Some.field-0-is))).at_most_three_events in
          let many : w.told.result ≡ length c.remove.new.self.told = w.told.ensures ∙ ap (λ (u : ToldTree). length u.told) w.deref.ensures in
          omega (arith, few, is, many)
      | in-Ok-None w ↦ let is = w.event_count-is in omega (arith, is)
      | in-Err w ↦ let is = w.event_count-is in omega (arith, is)
    ]
