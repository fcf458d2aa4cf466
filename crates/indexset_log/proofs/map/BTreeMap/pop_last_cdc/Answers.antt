use Rattle.std.proofs.Common.{rules, ◌≡◌, IfErr, ap, refl, subst, ◌∙◌}
use Rattle.std.specs.Option.{option_map}
use Rattle.indexset_core.specs.Pairs.{entry_of}
use Rattle.indexset_log.proofs.ChangeLemmas.{pairs_told}
use Rattle.indexset_log.proofs.map.BTreeMap.pop_last_cdc.Goals as goal

pub returns-in_err-pair-clause-refusal : goal.returns-in_err-pair-clause-refusal
returns-in_err-pair-clause-refusal g c =
    let told : IfErr c.from_residual.result (λ e. e ≡ c.in_err-pair.field-0.0) = search rules in
    subst (λ r. IfErr c.from_residual.result (λ e. e ≡ r)) (rw c.self.view_is at c.in_err-pair.ensures.refusal) told

pub returns : goal.returns
returns g c =
    let done = rw c.self.view_is at c.in_ok-pair.ensures in
    record {
      answer = c.entry_of.ensures ∙ ap (option_map entry_of) done.answer;
      refusal = tt;
      no_event = λ _. refl;
      unchanged = tt;
      changed = done.changed;
      events = pairs_told g.K.Ord.cmp g.K.Clone.is_clone g.V.Clone.is_clone done.events;
    }
