use Rattle.std.proofs.Common.{rules, ◌≡◌, length, IfErr, refl, arith, ap, subst, ◌∙◌}
use Rattle.indexset_core.specs.Nodes.{concat}
use Rattle.indexset_core.specs.Pairs.{has_key}
use Rattle.indexset_core.proofs.CallerLemmas.{key_gone}
use Rattle.indexset_events.specs.Keys.{IsPairClone}
use Rattle.indexset_events.specs.Table.{place_removal_count}
use Rattle.indexset_log.specs.Tree.{refusal_for}
use Rattle.indexset_log.proofs.ChangeLemmas.{pairs_told, told}
use Rattle.indexset_log.proofs.OtherKeyLemmas.{others_removed}
use Rattle.indexset_log.proofs.KeySearchLemmas.{key_changed, key_count, key_taken, key_told, no_key, no_key_changed}
use Rattle.indexset_events.proofs.CallerLemmas.{some_taken}
use Rattle.indexset_log.proofs.map.BTreeMap.remove_cdc.Goals as goal

pub returns-in_err-pair-in-Ok-clause-refusal : goal.returns-in_err-pair-in-Ok-clause-refusal
returns-in_err-pair-in-Ok-clause-refusal g c =
    let refused = subst (λ t. c.in_err-pair-in-Ok.field-0.0 ≡ refusal_for t.next (place_removal_count t.size t.nodes c.in-Ok.node c.in-Ok.offset)) c.self.view_is c.in_err-pair-in-Ok.ensures.refusal in
    let told : IfErr c.from_residual.result (λ e. e ≡ c.in_err-pair-in-Ok.field-0.0) = search rules in
    rw
    (key_count g.met.K.Ord.total g.met.Q.LookupKey.acts_as_key g.met.Q.UniqueKey.equals_at_most_one
    c.locate.ensures.lawful c.args.key c.locate.ensures.place c.in-Ok.is)
    (subst (λ r. IfErr c.from_residual.result (λ e. e ≡ r)) refused told)

pub returns-in_err-pair-in-Ok-clause-no_event : goal.returns-in_err-pair-in-Ok-clause-no_event
returns-in_err-pair-in-Ok-clause-no_event g c =
    λ none.
    absurd
    (omega (
      arith,
      key_count g.met.K.Ord.total g.met.Q.LookupKey.acts_as_key g.met.Q.UniqueKey.equals_at_most_one c.locate.ensures.lawful c.args.key c.locate.ensures.place c.in-Ok.is,
      some_taken c.args.self.now.size c.args.self.now.nodes c.in-Ok.node c.in-Ok.offset,
      ap (λ l. length l) none,
    ))

pub returns-in_ok-pair-in-Ok : goal.returns-in_ok-pair-in-Ok
returns-in_ok-pair-in-Ok g c =
    let done = rw c.self.view_is at c.in_ok-pair-in-Ok.ensures in
    let taken = key_taken g.met.K.Ord.total g.met.Q.LookupKey.acts_as_key g.met.Q.UniqueKey.equals_at_most_one c.locate.ensures.lawful c.args.key c.locate.ensures.place c.in-Ok.is done.item in
    let d = key_changed g.met.K.Ord.total g.met.Q.LookupKey.acts_as_key g.met.Q.UniqueKey.equals_at_most_one c.args.self.now c.locate.ensures.lawful c.args.key taken done.changed in
    record {
      answer = rw taken.pair_is refl;
      refusal = tt;
      no_event = λ _. refl;
      unchanged = tt;
      gone = ap (λ l. has_key g.Q.LookupKey.order l c.args.key) d.contents ∙ key_gone g.Q.LookupKey.order (concat c.args.self.now.nodes) c.args.key;
      others = others_removed c.args.self.now.nodes c.remove_at_cdc.new.self.nodes g.met.Q.LookupKey.acts_as_key c.args.key d.contents;
      changed = d;
      events =
          key_told g.met.K.Ord.total g.met.Q.LookupKey.acts_as_key g.met.Q.UniqueKey.equals_at_most_one c.args.self.now
          c.locate.ensures.lawful c.args.key taken
          (pairs_told g.K.Ord.cmp g.K.Clone.is_clone g.V.Clone.is_clone done.events);
    }

pub returns-in-Err : goal.returns-in-Err
returns-in-Err g c =
    let none = no_key g.met.K.Ord.total g.met.Q.LookupKey.acts_as_key g.met.Q.UniqueKey.equals_at_most_one c.locate.ensures.lawful c.args.key c.locate.ensures.place c.in-Err.is in
    let d = no_key_changed g.met.K.Ord.total g.met.Q.LookupKey.acts_as_key g.met.Q.UniqueKey.equals_at_most_one c.args.self.now c.locate.ensures.lawful c.args.key none c.locate.ensures.number in
    record {
      answer = rw none.pair_is refl;
      refusal = tt;
      no_event = λ _. refl;
      unchanged = tt;
      gone = ap (λ l. has_key g.Q.LookupKey.order l c.args.key) none.contents ∙ key_gone g.Q.LookupKey.order (concat c.args.self.now.nodes) c.args.key;
      others = others_removed c.args.self.now.nodes c.args.self.now.nodes g.met.Q.LookupKey.acts_as_key c.args.key none.contents;
      changed = d;
      events = pairs_told g.K.Ord.cmp g.K.Clone.is_clone g.V.Clone.is_clone (told (IsPairClone g.K.Clone.is_clone g.V.Clone.is_clone) c.new.result.items d (rw (none.events, c.new.ensures.items) tt));
    }
