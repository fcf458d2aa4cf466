use Rattle.std.proofs.Common.{◌≡◌, Some, None, is_some, refl, ap, sym, ◌∙◌}
use Rattle.std.proofs.lemmas.Bool.{false≢true}
use Rattle.std.proofs.lemmas.Option.{none-some}
use Rattle.std.specs.Option.{option_map}
use Rattle.indexset_ffi.specs.Replicas.{replica_of}
use Rattle.indexset_ffi.specs.declared.status.TheConstants.{YES, MEMORY, NONE, HELD}
use Rattle.indexset_c.proofs.StatusLemmas.{not_at}
use Rattle.indexset_c.proofs.replica_life.indexset_replica_from_log.Goals as goal

pub returns-in_default : goal.returns-in_default
returns-in_default c =
    let none : None ≡ c.args.log.now.slot.value = c.in_default.ensures.taken in
    record {
      made = λ h. not_at 3 NONE YES refl refl h;
      refused = λ h. refl;
      none = (λ h. sym none, λ h. refl);
      held = λ some. absurd (some (sym none));
      unchanged = c.in_default.ensures.left ∙ none;
      status = λ done absent. absurd (absent refl);
    }

pub returns-in-Some-take : goal.returns-in-Some-take
returns-in-Some-take c =
    let was : Some c.in-Some.held.value ≡ c.args.log.now.slot.value = c.in-Some.ensures.taken in
    let there : Some c.in-Some-take.other.value ≡ c.args.replica.now.slot.value = c.in-Some-take.ensures.taken in
    record {
      made = λ h. not_at 4 HELD YES refl refl h;
      refused = λ h. c.put.ensures ∙ there;
      none = (λ h. not_at 4 HELD NONE refl refl h, λ h. absurd (none-some _ (sym (was ∙ h))));
      held = λ some. (λ h. sym (ap is_some there), λ h. refl);
      unchanged = c.put-in-Some-take.ensures ∙ was;
      status = λ done absent held. absurd (held refl);
    }

pub returns-in_default-made : goal.returns-in_default-made
returns-in_default-made c =
    let was : Some c.in-Some.held.value ≡ c.args.log.now.slot.value = c.in-Some.ensures.taken in
    let empty : None ≡ c.args.replica.now.slot.value = c.in_default-take.ensures.taken in
    record {
      made = λ h. not_at 2 MEMORY YES refl refl h;
      refused = λ h. c.in_default-take.ensures.left ∙ empty;
      none = (λ h. not_at 2 MEMORY NONE refl refl h, λ h. absurd (none-some _ (sym (was ∙ h))));
      held = λ some. (λ h. not_at 2 MEMORY HELD refl refl h, λ h. absurd (false≢true (ap is_some empty ∙ h)));
      unchanged = c.put-2.ensures ∙ was;
      status = λ done absent held. refl;
    }

pub returns-in-Ok : goal.returns-in-Ok
returns-in-Ok c =
    let was : Some c.in-Some.held.value ≡ c.args.log.now.slot.value = c.in-Some.ensures.taken in
    let empty : None ≡ c.args.replica.now.slot.value = c.in_default-take.ensures.taken in
    record {
      made = λ h. c.put-in-Ok.ensures ∙ ap Some (c.in-Ok.ensures.ok ∙ c.in-Some-made.ensures ∙ ap replica_of c.deref.ensures) ∙ ap (option_map replica_of) was;
      refused = λ h. absurd (h refl);
      none = (λ h. not_at 1 YES NONE refl refl h, λ h. absurd (none-some _ (sym (was ∙ h))));
      held = λ some. (λ h. not_at 1 YES HELD refl refl h, λ h. absurd (false≢true (ap is_some empty ∙ h)));
      unchanged = c.put-2.ensures ∙ was;
      status = λ done. absurd (done refl);
    }

pub returns : goal.returns
returns c =
    let was : Some c.in-Some.held.value ≡ c.args.log.now.slot.value = c.in-Some.ensures.taken in
    let empty : None ≡ c.args.replica.now.slot.value = c.in_default-take.ensures.taken in
    record {
      made = λ h. not_at 2 MEMORY YES refl refl h;
      refused = λ h. c.in_default-take.ensures.left ∙ empty;
      none = (λ h. not_at 2 MEMORY NONE refl refl h, λ h. absurd (none-some _ (sym (was ∙ h))));
      held = λ some. (λ h. not_at 2 MEMORY HELD refl refl h, λ h. absurd (false≢true (ap is_some empty ∙ h)));
      unchanged = c.put-2.ensures ∙ was;
      status = λ done absent held. refl;
    }
