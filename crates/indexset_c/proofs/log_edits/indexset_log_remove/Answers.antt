use Rattle.std.proofs.Common.{◌≡◌, Some, None, length, refl, ap, sym, ◌∙◌, arith}
use Rattle.std.proofs.lemmas.Bool.{false≢true, leb-true}
use Rattle.std.proofs.lemmas.Option.{none-some}
use Rattle.std.specs.Ordering.{nat_cmp}
use Rattle.indexset_events.specs.Keys.{key_removal_events}
use Rattle.indexset_log.specs.Tree.{refusal_for}
use Rattle.indexset_ffi.specs.declared.status.TheConstants.{NO, YES, MEMORY, NONE, HELD, NUMBERS, UNFIT}
use Rattle.indexset_c.proofs.StatusLemmas.{IsRefused, for_events, is_refused, not_at, not_most, refused_not_done, refused_not_no, refused_not_unfit, refused_not_yes, refused_status}
use Rattle.indexset_c.proofs.log_edits.indexset_log_remove.Goals.{in-Ok+then-write, in-Ok+else-write, in-Err}
use Rattle.indexset_c.proofs.log_edits.indexset_log_remove.Goals as goal
use Rattle.indexset_core.specs.Order.{unequal}

pub returns-in_default : goal.returns-in_default
unfolding unequal
returns-in_default c =
    let none : None ≡ c.args.log.now.slot.value = c.in_default.ensures.taken in let left = c.in_default.ensures.left in
    rw (← none) record {
      found = (λ h. not_at 0 NO YES refl refl h, λ h. refl, λ none enough. refl);
      rest = λ h. rw left refl;
      changed = λ h. not_at 0 NO YES refl refl h;
      contains = (λ h. refl, λ h. left);
      events = λ h. tt;
      at_most_three_events = leb-true 0 3 refl;
      unchanged = λ h. (refl, refl, refl, left);
      cause = tt;
      status = ((λ h. not_at 0 NO UNFIT refl refl h, λ h. absurd (h.0 refl)), leb-true NO UNFIT refl, (λ h. not_at 0 NO NONE refl refl h), (λ h. not_at 0 NO HELD refl refl h));
    }

pub returns-then-events-lt3 : goal.returns-then-events-lt3
returns-then-events-lt3 c =
    let was : Some c.in-Some.held.value ≡ c.args.log.now.slot.value = c.in-Some.ensures.taken in let put = c.put.ensures in
    rw (← was) record {
      found = (λ h. not_at 6 UNFIT YES refl refl h, λ h. not_at 6 UNFIT NO refl refl h, λ none enough. absurd (omega (arith, c.if-events-lt3.true, enough)));
      rest = λ h. not_most 6 UNFIT YES refl refl h;
      changed = λ h. not_at 6 UNFIT YES refl refl h;
      contains = (λ h. absurd (none-some _ (sym h ∙ put)), λ h. absurd (none-some _ (sym h)));
      events = λ h. not_most 6 UNFIT YES refl refl h;
      at_most_three_events = leb-true 0 3 refl;
      unchanged = λ h. (refl, refl, refl, put);
      cause = record { memory = λ h. not_at 6 UNFIT MEMORY refl refl h; numbers = λ h. not_at 6 UNFIT NUMBERS refl refl h };
      status = ((λ h. ((λ e. absurd (none-some _ (sym e))), c.if-events-lt3.true), λ h. refl), leb-true 6 UNFIT refl, (λ h. not_at 6 UNFIT NONE refl refl h), (λ h. not_at 6 UNFIT HELD refl refl h));
    }

pub returns : goal.returns
returns c =
    let m = c.deref_mut.result.now in let s = c.match-remove_told.status in let new = c.put-2.ensures in
    let n = length (key_removal_events nat_cmp m.size m.nodes c.args.key) in
    let was : Some m ≡ c.args.log.now.slot.value = ap Some c.deref_mut.ensures.value ∙ c.in-Some.ensures.taken in
    rw (← was) (elim c.match-remove_told.branch [
      | in-Ok+then-write w ↦
          let e = w.in-Ok.ensures in let told : c.match-remove_told.event_count ≡ n = w.event_count-is ∙ e.event_count in
          record {
            found = (
              λ h. sym e.found ∙ w.write.ensures.found w.if-write.true ∙ ap Some (sym w.out-is),
              λ h. not_at s YES NO w.status-is refl h,
              λ none enough. absurd (none-some _ (sym none ∙ (sym e.found ∙ w.write.ensures.found w.if-write.true))),
            );
            rest = λ h. rw new e.changed.contents;
            changed = λ h. rw new e.changed;
            contains = (λ h. absurd (none-some _ (sym h ∙ new)), λ h. absurd (none-some _ (sym h)));
            events = λ h. record { told = told; events = rw told e.events };
            at_most_three_events = rw w.event_count-is e.at_most_three_events;
            unchanged = λ h. absurd (h w.status-is);
            cause = record { memory = λ h. not_at s YES MEMORY w.status-is refl h; numbers = λ h. not_at s YES NUMBERS w.status-is refl h };
            status = (
              (λ h. not_at s YES UNFIT w.status-is refl h, λ h. absurd (omega (arith, c.if-events-lt3.false, h.1))),
              rw w.status-is (leb-true YES UNFIT refl),
              (λ h. not_at s YES NONE w.status-is refl h),
              (λ h. not_at s YES HELD w.status-is refl h),
            );
          }
      | in-Ok+else-write w ↦
          let e = w.in-Ok.ensures in let told : c.match-remove_told.event_count ≡ n = w.event_count-is ∙ e.event_count in
          let gone = e.absent (w.write.ensures.absent w.if-write.false) in let zero : n ≡ 0 = sym e.event_count ∙ gone.0 in
          record {
            found = (λ h. not_at s NO YES w.status-is refl h, λ h. sym e.found ∙ w.write.ensures.absent w.if-write.false, λ none enough. w.status-is);
            rest = λ h. rw new e.changed.contents;
            changed = λ h. not_at s NO YES w.status-is refl h;
            contains = (λ h. absurd (none-some _ (sym h ∙ new)), λ h. absurd (none-some _ (sym h)));
            events = λ h. record { told = told; events = rw told e.events };
            at_most_three_events = rw w.event_count-is e.at_most_three_events;
            unchanged = λ h. ((w.out-is ∙ w.write.ensures.unwritten w.if-write.false), (w.event_count-is ∙ gone.0), (e.events ∙ rw zero refl), (new ∙ ap Some gone.1));
            cause = record { memory = λ h. not_at s NO MEMORY w.status-is refl h; numbers = λ h. not_at s NO NUMBERS w.status-is refl h };
            status = (
              (λ h. not_at s NO UNFIT w.status-is refl h, λ h. absurd (omega (arith, c.if-events-lt3.false, h.1))),
              rw w.status-is (leb-true NO UNFIT refl),
              (λ h. not_at s NO NONE w.status-is refl h),
              (λ h. not_at s NO HELD w.status-is refl h),
            );
          }
      | in-Err w ↦
          let e = w.in-Err.ensures in
          let r : IsRefused s (refusal_for m.next n) =
          is_refused s w.of_refusal-status.result w.in-Err.cause (refusal_for m.next n) w.status-is e.refusal
          (for_events m.next n) w.of_refusal-status.ensures.memory w.of_refusal-status.ensures.numbers in
          record {
            found = (λ h. refused_not_yes s _ r h, λ h. refused_not_no s _ r h, λ none enough. absurd (false≢true (e.no_event none)));
            rest = λ h. refused_not_done s _ r h;
            changed = λ h. refused_not_yes s _ r h;
            contains = (λ h. absurd (none-some _ (sym h ∙ new)), λ h. absurd (none-some _ (sym h)));
            events = λ h. refused_not_done s _ r h;
            at_most_three_events = rw w.event_count-is (leb-true 0 3 refl);
            unchanged = λ h. (w.out-is, w.event_count-is, e.unchanged.1, (new ∙ ap Some e.unchanged.0));
            cause = record { memory = r.memory; numbers = r.numbers };
            status = ((λ h. refused_not_unfit s _ r h, λ h. absurd (omega (arith, c.if-events-lt3.false, h.1))), refused_status s _ r, r.not_none, r.not_held);
          }
    ])
