use Rattle.std.proofs.Common.{◌≡◌, ℕ, Option, Some, None, is_some, false, nat_eq, refl, ap, sym, ◌∙◌}
use Rattle.std.proofs.lemmas.Bool.{false≢true, leb-true}
use Rattle.std.proofs.lemmas.Option.{none-some}
use Rattle.std.specs.Ordering.{nat_cmp}
use Rattle.indexset_core.specs.Nodes.{concat}
use Rattle.indexset_multi.specs.Keys.{equal_pair, pairs_of}
use Rattle.indexset_multi.specs.Tree.{MultiTree, insertion_refusal}
use Rattle.indexset_ffi.specs.declared.status.TheConstants.{NO, YES, MEMORY, NONE, HELD, NUMBERS}
use Rattle.indexset_ffi.specs.Elements.{numbered_pairs, key_values}
use Rattle.indexset_c.proofs.MultiLemmas.{for_insertion}
use Rattle.indexset_c.proofs.StatusLemmas.{IsRefused, is_refused, not_at, refused_not_no, refused_not_none, refused_not_yes}
use Rattle.indexset_c.proofs.multi_edits.indexset_multi_insert.Goals.{in-Ok, in-Err}
use Rattle.indexset_c.proofs.multi_edits.indexset_multi_insert.Goals as goal

pub returns-in_default : goal.returns-in_default
returns-in_default c =
    let none : None ≡ c.args.multi.now.slot.value = c.in_default.ensures.taken in
    rw (← none) record {
      contains = (λ h. not_at 3 NONE NO refl refl h, λ h. absurd (false≢true h));
      ok = λ h. tt;
      last = λ h. not_at 3 NONE YES refl refl h;
      others = λ h. not_at 3 NONE YES refl refl h;
      unchanged = λ h. c.in_default.ensures.left;
      none = (λ h. refl, λ h. refl);
      cause = tt;
      tree = λ h. tt;
      status = (leb-true NONE NUMBERS refl, λ h. not_at 3 NONE HELD refl refl h);
    }

pub returns-then-has_pair : goal.returns-then-has_pair
returns-then-has_pair c =
    let was : Some c.deref.result.now ≡ c.args.multi.now.slot.value = ap Some c.deref.ensures ∙ c.in-Some.ensures.taken in
    rw (← was) record {
      contains = (λ h. sym c.has_pair.ensures ∙ c.if-has_pair.true, λ h. refl);
      ok = λ h. not_at 0 NO YES refl refl h;
      last = λ h. not_at 0 NO YES refl refl h;
      others = λ h. not_at 0 NO YES refl refl h;
      unchanged = λ h. c.put.ensures ∙ ap Some (sym c.deref.ensures);
      none = (λ h. not_at 0 NO NONE refl refl h, λ h. absurd (none-some _ (sym h)));
      cause = record { memory = λ h. not_at 0 NO MEMORY refl refl h; numbers = λ h. not_at 0 NO NUMBERS refl refl h };
      tree = λ h. not_at 0 NO YES refl refl h;
      status = (leb-true 0 NUMBERS refl, λ h. not_at 0 NO HELD refl refl h);
    }

pub returns : goal.returns
returns c =
    let m = c.deref_mut.result.now in let k = c.args.key in let v = c.args.value in let s = c.match-insert_new.status in let new = c.put-2.ensures in
    let same : c.deref.result.now ≡ m = c.deref.ensures ∙ sym c.deref_mut.ensures.value in
    let was : Some m ≡ c.args.multi.now.slot.value = ap Some c.deref_mut.ensures.value ∙ c.in-Some.ensures.taken in
    let absent : is_some (equal_pair nat_cmp nat_eq (concat m.nodes) k v) ≡ false =
    sym (ap (λ (t : MultiTree ℕ ℕ). is_some (equal_pair nat_cmp nat_eq (concat t.nodes) k v)) same)
    ∙ sym c.has_pair.ensures ∙ c.if-has_pair.false in
    rw (← was) (elim c.match-insert_new.branch [
      | in-Ok w ↦
          let e = w.in-Ok.ensures in
          record {
            contains = (λ h. not_at s YES NO w.status-is refl h, λ h. absurd (false≢true (sym absent ∙ h)));
            ok = λ h. ap numbered_pairs new ∙ e.ok;
            last = λ h. ap (λ (o : Option (MultiTree ℕ ℕ)). key_values (numbered_pairs o) k) new ∙ e.last;
            others = λ h other apart. ap (λ (o : Option (MultiTree ℕ ℕ)). pairs_of nat_cmp (numbered_pairs o) other) new ∙ e.others other apart;
            unchanged = λ h. absurd (h w.status-is);
            none = (λ h. not_at s YES NONE w.status-is refl h, λ h. absurd (none-some _ (sym h)));
            cause = record { memory = λ h. not_at s YES MEMORY w.status-is refl h; numbers = λ h. not_at s YES NUMBERS w.status-is refl h };
            tree = λ h. new ∙ ap Some e.tree;
            status = (rw w.status-is (leb-true YES NUMBERS refl), λ h. not_at s YES HELD w.status-is refl h);
          }
      | in-Err w ↦
          let e = w.in-Err.ensures in
          let r : IsRefused s (insertion_refusal nat_cmp nat_eq m k v) =
          is_refused s w.of_refusal-status.result w.in-Err.cause (insertion_refusal nat_cmp nat_eq m k v)
          w.status-is e.refusal (for_insertion nat_eq m k v) w.of_refusal-status.ensures.memory
          w.of_refusal-status.ensures.numbers in
          record {
            contains = (λ h. refused_not_no s _ r h, λ h. absurd (false≢true (sym absent ∙ h)));
            ok = λ h. refused_not_yes s _ r h;
            last = λ h. refused_not_yes s _ r h;
            others = λ h. refused_not_yes s _ r h;
            unchanged = λ h. new ∙ ap Some e.unchanged;
            none = (λ h. refused_not_none s _ r h, λ h. absurd (none-some _ (sym h)));
            cause = record { memory = r.memory; numbers = r.numbers };
            tree = λ h. refused_not_yes s _ r h;
            status = (r.most, r.not_held);
          }
    ])
