use Rattle.std.proofs.Common.{◌≡◌, Some, None, length, slice_get, refl, ap, sym, ◌∙◌}
use Rattle.std.proofs.lemmas.Bool.{false≢true, leb-true}
use Rattle.std.specs.Ordering.{nat_cmp}
use Rattle.indexset_core.specs.Nodes.{concat}
use Rattle.indexset_log.specs.Tree.{refusal_for}
use Rattle.indexset_multi.specs.Tree.{pair_removal_events}
use Rattle.indexset_ffi.specs.declared.status.TheConstants.{NO, YES, MEMORY, NONE, HELD, NUMBERS}
use Rattle.indexset_ffi.specs.Elements.{numbered_pairs}
use Rattle.indexset_c.proofs.MultiLemmas.{no_pair, none_removed, pair_there, past_end}
use Rattle.indexset_c.proofs.StatusLemmas.{IsRefused, for_events, is_refused, not_at, refused_not_no, refused_not_yes}
use Rattle.indexset_c.proofs.multi_positions.indexset_multi_remove_at.Goals.{in-Ok-Some, in-Ok-None, in-Err}
use Rattle.indexset_c.proofs.multi_positions.indexset_multi_remove_at.Goals as goal

pub returns-in_default : goal.returns-in_default
returns-in_default c =
    let none : None ≡ c.args.multi.now.slot.value = c.in_default.ensures.taken in
    rw (← none) record {
      found = λ h. not_at 0 NO YES refl refl h;
      absent = (λ h. refl, λ h. refl);
      ok = λ h. not_at 0 NO YES refl refl h;
      unchanged = λ h. (refl, refl, c.in_default.ensures.left);
      cause = tt;
      tree = λ h. not_at 0 NO YES refl refl h;
      status = (leb-true 0 NUMBERS refl, (λ h. not_at 0 NO NONE refl refl h), (λ h. not_at 0 NO HELD refl refl h));
    }

pub returns : goal.returns
returns c =
    let m = c.deref_mut.result.now in let s = c.match-pop_index.status in let new = c.put.ensures in
    let p = slice_get (concat m.nodes) c.args.position in let n = length (pair_removal_events nat_cmp m.size m.nodes p) in
    let was : Some m ≡ c.args.multi.now.slot.value = ap Some c.deref_mut.ensures.value ∙ c.in-Some.ensures.taken in
    rw (← was) (elim c.match-pop_index.branch [
      | in-Ok-Some w ↦
          let e = w.in-Ok-Some.ensures in let answer = sym w.in-Ok-Some.field-0-is ∙ e.answer in
          record {
            found = λ h. sym answer ∙ (λ i. Some (sym w.key-is i, sym w.value-is i));
            absent = (λ h. not_at s YES NO w.status-is refl h, λ h. pair_there p _ answer h);
            ok = λ h. ap numbered_pairs new ∙ e.changed.contents;
            unchanged = λ h. absurd (h w.status-is);
            cause = record { memory = λ h. not_at s YES MEMORY w.status-is refl h; numbers = λ h. not_at s YES NUMBERS w.status-is refl h };
            tree = λ h. new ∙ ap Some e.changed.tree;
            status = (rw w.status-is (leb-true YES NUMBERS refl), (λ h. not_at s YES NONE w.status-is refl h), (λ h. not_at s YES HELD w.status-is refl h));
          }
      | in-Ok-None w ↦
          let e = w.in-Ok-None.ensures in let answer = sym w.in-Ok-None.field-0-is ∙ e.answer in
          record {
            found = λ h. not_at s NO YES w.status-is refl h;
            absent = (λ h. no_pair p answer, λ h. w.status-is);
            ok = λ h. not_at s NO YES w.status-is refl h;
            unchanged = λ h. (w.key-is, w.value-is, (new ∙ ap Some (e.changed.tree ∙ none_removed m p (no_pair p answer))));
            cause = record { memory = λ h. not_at s NO MEMORY w.status-is refl h; numbers = λ h. not_at s NO NUMBERS w.status-is refl h };
            tree = λ h. not_at s NO YES w.status-is refl h;
            status = (rw w.status-is (leb-true NO NUMBERS refl), (λ h. not_at s NO NONE w.status-is refl h), (λ h. not_at s NO HELD w.status-is refl h));
          }
      | in-Err w ↦
          let e = w.in-Err.ensures in
          let r : IsRefused s (refusal_for m.next n) =
          is_refused s w.of_refusal-status.result w.in-Err.cause (refusal_for m.next n) w.status-is e.refusal
          (for_events m.next n) w.of_refusal-status.ensures.memory w.of_refusal-status.ensures.numbers in
          record {
            found = λ h. refused_not_yes s _ r h;
            absent = (λ h. refused_not_no s _ r h, λ h. absurd (false≢true (e.no_event (past_end (concat m.nodes) c.args.position h))));
            ok = λ h. refused_not_yes s _ r h;
            unchanged = λ h. (w.key-is, w.value-is, (new ∙ ap Some e.unchanged));
            cause = record { memory = r.memory; numbers = r.numbers };
            tree = λ h. refused_not_yes s _ r h;
            status = (r.most, r.not_none, r.not_held);
          }
    ])
