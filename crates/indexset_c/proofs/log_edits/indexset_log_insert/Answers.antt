use Rattle.std.proofs.Common.{◌≡◌, Some, None, length, refl, ap, sym, ◌∙◌, arith}
use Rattle.std.proofs.lemmas.Bool.{leb-true}
use Rattle.std.proofs.lemmas.Option.{none-some}
use Rattle.std.specs.Ordering.{nat_cmp}
use Rattle.indexset_core.specs.Pairs.{by_key, pair}
use Rattle.indexset_events.specs.Table.{put_events}
use Rattle.indexset_log.specs.Tree.{refusal_for}
use Rattle.indexset_ffi.specs.declared.status.TheConstants.{NO, YES, MEMORY, NONE, HELD, NUMBERS, UNFIT}
use Rattle.indexset_c.proofs.StatusLemmas.{IsRefused, for_events, is_refused, not_at, not_least}
use Rattle.indexset_c.proofs.StatusLemmas.{not_most, refused_not_done, refused_not_no, refused_not_none}
use Rattle.indexset_c.proofs.StatusLemmas.{refused_not_unfit, refused_not_yes, refused_status}
use Rattle.indexset_c.proofs.log_edits.indexset_log_insert.Goals.{in-Ok+then-write, in-Ok+else-write, in-Err}
use Rattle.indexset_c.proofs.log_edits.indexset_log_insert.Goals as goal

pub returns-in_default : goal.returns-in_default
returns-in_default c =
    let none : None ≡ c.args.log.now.slot.value = c.in_default.ensures.taken in
    rw (← none) record {
      before = (λ h. not_at 3 NONE YES refl refl h, λ h. not_at 3 NONE NO refl refl h);
      ok = λ h. tt;
      events = λ h. tt;
      led = λ h. tt;
      at_most_three_events = leb-true 0 3 refl;
      unwritten = λ h. refl;
      unchanged = λ h. (refl, refl, c.in_default.ensures.left);
      cause = tt;
      status = ((λ h. refl, λ h. refl), (λ h. not_at 3 NONE UNFIT refl refl h, λ h. absurd (h.0 refl)), leb-true NONE UNFIT refl, λ h. not_at 3 NONE HELD refl refl h);
    }

pub returns-then-events-lt3 : goal.returns-then-events-lt3
returns-then-events-lt3 c =
    let was : Some c.in-Some.held.value ≡ c.args.log.now.slot.value = c.in-Some.ensures.taken in
    rw (← was) record {
      before = (λ h. not_at 6 UNFIT YES refl refl h, λ h. not_at 6 UNFIT NO refl refl h);
      ok = λ h. not_most 6 UNFIT YES refl refl h;
      events = λ h. not_most 6 UNFIT YES refl refl h;
      led = λ h. not_most 6 UNFIT YES refl refl h;
      at_most_three_events = leb-true 0 3 refl;
      unwritten = λ h. refl;
      unchanged = λ h. (refl, refl, c.put.ensures);
      cause = record { memory = λ h. not_at 6 UNFIT MEMORY refl refl h; numbers = λ h. not_at 6 UNFIT NUMBERS refl refl h };
      status = (
        (λ h. not_at 6 UNFIT NONE refl refl h, λ h. absurd (none-some _ (sym h))),
        (λ h. ((λ e. absurd (none-some _ (sym e))), c.if-events-lt3.true), λ h. refl),
        leb-true 6 UNFIT refl,
        λ h. not_at 6 UNFIT HELD refl refl h,
      );
    }

pub returns : goal.returns
returns c =
    let m = c.deref_mut.result.now in let s = c.match-insert_told.status in let new = c.put-2.ensures in
    let n = length (put_events (by_key nat_cmp) m.size m.nodes (pair c.args.key c.args.value)) in
    let was : Some m ≡ c.args.log.now.slot.value = ap Some c.deref_mut.ensures.value ∙ c.in-Some.ensures.taken in
    rw (← was) (elim c.match-insert_told.branch [
      | in-Ok+then-write w ↦
          let e = w.in-Ok.ensures in let told : c.match-insert_told.event_count ≡ n = w.event_count-is ∙ e.event_count in
          record {
            before = (λ h. not_at s NO YES w.status-is refl h, λ h. sym e.before ∙ w.write.ensures.found w.if-write.true ∙ ap Some (sym w.before-is));
            ok = λ h. rw told (new ∙ ap Some e.ok);
            events = λ h. record { told = told; events = rw told e.events };
            led = λ h. rw new e.led;
            at_most_three_events = rw w.event_count-is e.at_most_three_events;
            unwritten = λ h. absurd (h w.status-is);
            unchanged = λ h. not_least s NO MEMORY w.status-is refl h;
            cause = record { memory = λ h. not_at s NO MEMORY w.status-is refl h; numbers = λ h. not_at s NO NUMBERS w.status-is refl h };
            status = (
              (λ h. not_at s NO NONE w.status-is refl h, λ h. absurd (none-some _ (sym h))),
              (λ h. not_at s NO UNFIT w.status-is refl h, λ h. absurd (omega (arith, c.if-events-lt3.false, h.1))),
              rw w.status-is (leb-true NO UNFIT refl),
              λ h. not_at s NO HELD w.status-is refl h,
            );
          }
      | in-Ok+else-write w ↦
          let e = w.in-Ok.ensures in let told : c.match-insert_told.event_count ≡ n = w.event_count-is ∙ e.event_count in
          record {
            before = (λ h. sym e.before ∙ w.write.ensures.absent w.if-write.false, λ h. not_at s YES NO w.status-is refl h);
            ok = λ h. rw told (new ∙ ap Some e.ok);
            events = λ h. record { told = told; events = rw told e.events };
            led = λ h. rw new e.led;
            at_most_three_events = rw w.event_count-is e.at_most_three_events;
            unwritten = λ h. w.before-is ∙ w.write.ensures.unwritten w.if-write.false;
            unchanged = λ h. not_least s YES MEMORY w.status-is refl h;
            cause = record { memory = λ h. not_at s YES MEMORY w.status-is refl h; numbers = λ h. not_at s YES NUMBERS w.status-is refl h };
            status = (
              (λ h. not_at s YES NONE w.status-is refl h, λ h. absurd (none-some _ (sym h))),
              (λ h. not_at s YES UNFIT w.status-is refl h, λ h. absurd (omega (arith, c.if-events-lt3.false, h.1))),
              rw w.status-is (leb-true YES UNFIT refl),
              λ h. not_at s YES HELD w.status-is refl h,
            );
          }
      | in-Err w ↦
          let e = w.in-Err.ensures in
          let r : IsRefused s (refusal_for m.next n) =
          is_refused s w.of_refusal-status.result w.in-Err.cause (refusal_for m.next n) w.status-is e.refusal
          (for_events m.next n) w.of_refusal-status.ensures.memory w.of_refusal-status.ensures.numbers in
          record {
            before = (λ h. refused_not_yes s _ r h, λ h. refused_not_no s _ r h);
            ok = λ h. refused_not_done s _ r h;
            events = λ h. refused_not_done s _ r h;
            led = λ h. refused_not_done s _ r h;
            at_most_three_events = rw w.event_count-is (leb-true 0 3 refl);
            unwritten = λ h. w.before-is;
            unchanged = λ h. (w.event_count-is, e.unwritten, (new ∙ ap Some e.unchanged));
            cause = record { memory = r.memory; numbers = r.numbers };
            status = (
              (λ h. refused_not_none s _ r h, λ h. absurd (none-some _ (sym h))),
              (λ h. refused_not_unfit s _ r h, λ h. absurd (omega (arith, c.if-events-lt3.false, h.1))),
              refused_status s _ r,
              r.not_held,
            );
          }
    ])
