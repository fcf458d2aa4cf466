use Rattle.std.proofs.Common.{◌≡◌, Some, None, refl, ap, sym, ◌∙◌}
use Rattle.std.proofs.lemmas.Bool.{false≢true, leb-true}
use Rattle.std.proofs.lemmas.Option.{none-some}
use Rattle.std.specs.Ordering.{nat_cmp}
use Rattle.indexset_ffi.specs.declared.status.TheConstants.{NO, YES, MEMORY, NONE}
use Rattle.indexset_ffi.specs.Elements.{pairs}
use Rattle.indexset_c.proofs.PairLemmas.{no_value_no_key}
use Rattle.indexset_c.proofs.StatusLemmas.{not_at, not_least, not_most}
use Rattle.indexset_c.proofs.map_keys.indexset_map_insert.Goals.{in-Ok-None, in-Ok-Some, in-Err}
use Rattle.indexset_c.proofs.map_keys.indexset_map_insert.Goals as goal

pub returns-in_default : goal.returns-in_default
returns-in_default c =
    let none : None ≡ c.args.map.now.slot.value = c.in_default.ensures.taken in
    rw (← none) record {
      added = λ h. not_at 3 NONE YES refl refl h;
      replaced = λ h. not_at 3 NONE NO refl refl h;
      ok = λ h. not_most 3 NONE YES refl refl h;
      unwritten = λ h. refl;
      unchanged = λ h. c.in_default.ensures.left;
      none = (λ h. refl, λ h. refl);
      no_memory = λ h. absurd (false≢true h);
      status = leb-true NONE NONE refl;
    }

pub returns : goal.returns
returns c =
    let m = c.deref_mut.result.now in let s = c.match-insert.status in let new = c.put.ensures in
    let was : Some m ≡ c.args.map.now.slot.value = ap Some c.deref_mut.ensures.value ∙ c.in-Some.ensures.taken in
    rw (← was) (elim c.match-insert.branch [
      | in-Ok-None w ↦
          let e = w.in-Ok-None.ensures in let absent = sym e.old ∙ w.in-Ok-None.field-0-is in
          record {
            added = λ h. absent;
            replaced = λ h. not_at s YES NO w.status-is refl h;
            ok = λ h. ap pairs new ∙ ap (λ m. m.pairs) e.ok;
            unwritten = λ h. w.before-is;
            unchanged = λ h. not_least s YES MEMORY w.status-is refl h;
            none = (λ h. not_at s YES NONE w.status-is refl h, λ h. absurd (none-some _ (sym h)));
            no_memory = λ h. absurd (false≢true (sym (no_value_no_key nat_cmp m.pairs c.args.key absent) ∙ h));
            status = rw w.status-is (leb-true YES NONE refl);
          }
      | in-Ok-Some w ↦
          let e = w.in-Ok-Some.ensures in
          record {
            added = λ h. not_at s NO YES w.status-is refl h;
            replaced = λ h. sym e.old ∙ w.in-Ok-Some.field-0-is ∙ ap Some (sym w.before-is);
            ok = λ h. ap pairs new ∙ ap (λ m. m.pairs) e.ok;
            unwritten = λ h. absurd (h w.status-is);
            unchanged = λ h. not_least s NO MEMORY w.status-is refl h;
            none = (λ h. not_at s NO NONE w.status-is refl h, λ h. absurd (none-some _ (sym h)));
            no_memory = λ h. w.status-is;
            status = rw w.status-is (leb-true NO NONE refl);
          }
      | in-Err w ↦
          let e = w.in-Err.ensures in
          record {
            added = λ h. not_at s MEMORY YES w.status-is refl h;
            replaced = λ h. not_at s MEMORY NO w.status-is refl h;
            ok = λ h. not_most s MEMORY YES w.status-is refl h;
            unwritten = λ h. w.before-is;
            unchanged = λ h. new ∙ ap Some e.unchanged;
            none = (λ h. not_at s MEMORY NONE w.status-is refl h, λ h. absurd (none-some _ (sym h)));
            no_memory = λ h. absurd (false≢true (e.no_memory h));
            status = rw w.status-is (leb-true MEMORY NONE refl);
          }
    ])
