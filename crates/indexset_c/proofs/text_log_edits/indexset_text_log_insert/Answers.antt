use Rattle.std.proofs.Common.{◌≡◌, length, ap, ◌∙◌, arith}
use Rattle.std.specs.Cmp.Lexicographic.{slice_cmp}
use Rattle.std.specs.Ordering.{nat_cmp}
use Rattle.indexset_core.specs.Pairs.{by_key, pair}
use Rattle.indexset_log.specs.Changed.{put_change}
use Rattle.indexset_ffi.specs.TextLogs.{ToldTree}
use Rattle.indexset_c.proofs.TextLogLemmas.{few_kept}
use Rattle.indexset_c.proofs.text_log_edits.indexset_text_log_insert.Goals.{in-Ok+then-write, in-Ok+else-write, in-Err}
use Rattle.indexset_c.proofs.text_log_edits.indexset_text_log_insert.Goals as goal

pub returns-clause-at_most_three_events : goal.returns-clause-at_most_three_events
returns-clause-at_most_three_events c =
    let m = c.deref_mut.result.now in let made = put_change (by_key (slice_cmp nat_cmp)) m.tree (pair c.args.key.now c.args.value) in
    elim c.match-insert.branch [
      | in-Ok+then-write w ↦
          let e = w.in-Ok.ensures in let few = few_kept c.insert.new.self m.tree made e.ok e.changed.at_most_three_events in let is = w.event_count-is in
          let many : w.told.result ≡ length c.insert.new.self.told = w.told.ensures ∙ ap (λ (u : ToldTree). length u.told) w.deref.ensures in
          omega (arith, few, is, many)
      | in-Ok+else-write w ↦
          let e = w.in-Ok.ensures in let few = few_kept c.insert.new.self m.tree made e.ok e.changed.at_most_three_events in let is = w.event_count-is in
          let many : w.told.result ≡ length c.insert.new.self.told = w.told.ensures ∙ ap (λ (u : ToldTree). length u.told) w.deref.ensures in
          omega (arith, few, is, many)
      | in-Err w ↦ let is = w.event_count-is in omega (arith, is)
    ]
