use Rattle.std.proofs.Common.{◌≡◌, ℕ, Option, Some, None, false, refl, ap, sym, ◌∙◌}
use Rattle.std.proofs.lemmas.Bool.{leb-true}
use Rattle.std.proofs.lemmas.Option.{none-some}
use Rattle.std.specs.Ordering.{nat_cmp}
use Rattle.indexset_core.specs.MultiPairs.{numbered_pair}
use Rattle.indexset_core.specs.Nodes.{concat}
use Rattle.indexset_core.specs.Pairs.{pair_values}
use Rattle.indexset_multi.specs.Changed.{addition_refusal}
use Rattle.indexset_multi.specs.Keys.{entries, pairs_of}
use Rattle.indexset_multi.specs.Tree.{MultiTree}
use Rattle.indexset_ffi.specs.declared.status.TheConstants.{NO, YES, MEMORY, NONE, HELD, NUMBERS}
use Rattle.indexset_ffi.specs.Elements.{numbered_pairs, key_values}
use Rattle.indexset_c.proofs.MultiLemmas.{for_insertion, value_last}
use Rattle.indexset_c.proofs.StatusLemmas.{IsRefused, is_refused, not_at, refused_not_no, refused_not_none, refused_not_yes}
use Rattle.indexset_c.proofs.multi_edits.indexset_multi_push.Goals.{in-Ok, in-Err}
use Rattle.indexset_c.proofs.multi_edits.indexset_multi_push.Goals as goal

pub returns-in_default : goal.returns-in_default
returns-in_default c =
    let none : None ≡ c.args.multi.now.slot.value = c.in_default.ensures.taken in
    rw (← none) record {
      last = λ h. not_at 3 NONE YES refl refl h;
      others = λ h. not_at 3 NONE YES refl refl h;
      unchanged = λ h. c.in_default.ensures.left;
      none = (λ h. refl, λ h. refl);
      cause = tt;
      tree = λ h. tt;
      status = (leb-true NONE NUMBERS refl, (λ h. not_at 3 NONE NO refl refl h), (λ h. not_at 3 NONE HELD refl refl h));
    }

pub returns : goal.returns
returns c =
    let m = c.deref_mut.result.now in let k = c.args.key in let v = c.args.value in let s = c.match-push.status in let new = c.put.ensures in
    let was : Some m ≡ c.args.multi.now.slot.value = ap Some c.deref_mut.ensures.value ∙ c.in-Some.ensures.taken in
    rw (← was) (elim c.match-push.branch [
      | in-Ok w ↦
          let e = w.in-Ok.ensures in
          record {
            last =
                λ h. ap (λ (o : Option (MultiTree ℕ ℕ)). key_values (numbered_pairs o) k) new
                ∙ (ap (λ l. pair_values (entries l)) e.added.last
                ∙ value_last (pairs_of nat_cmp (concat m.nodes) k) (numbered_pair k v m.pair_next));
            others = λ h other apart. ap (λ (o : Option (MultiTree ℕ ℕ)). pairs_of nat_cmp (numbered_pairs o) other) new ∙ e.added.others other apart;
            unchanged = λ h. absurd (h w.status-is);
            none = (λ h. not_at s YES NONE w.status-is refl h, λ h. absurd (none-some _ (sym h)));
            cause = record { memory = λ h. not_at s YES MEMORY w.status-is refl h; numbers = λ h. not_at s YES NUMBERS w.status-is refl h };
            tree = λ h. new ∙ ap Some e.changed.tree;
            status = (rw w.status-is (leb-true YES NUMBERS refl), (λ h. not_at s YES NO w.status-is refl h), (λ h. not_at s YES HELD w.status-is refl h));
          }
      | in-Err w ↦
          let e = w.in-Err.ensures in
          let r : IsRefused s (addition_refusal nat_cmp m k v) =
          is_refused s w.of_refusal-status.result w.in-Err.refused.cause (addition_refusal nat_cmp m k v)
          w.status-is e.refusal (for_insertion (λ _ _. false) m k v) w.of_refusal-status.ensures.memory
          w.of_refusal-status.ensures.numbers in
          record {
            last = λ h. refused_not_yes s _ r h;
            others = λ h. refused_not_yes s _ r h;
            unchanged = λ h. new ∙ ap Some e.unchanged;
            none = (λ h. refused_not_none s _ r h, λ h. absurd (none-some _ (sym h)));
            cause = record { memory = r.memory; numbers = r.numbers };
            tree = λ h. refused_not_yes s _ r h;
            status = (r.most, (λ h. refused_not_no s _ r h), r.not_held);
          }
    ])
