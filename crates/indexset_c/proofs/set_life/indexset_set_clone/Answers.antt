use Rattle.std.proofs.Common.{◌≡◌, Some, None, is_some, refl, ap, sym, ◌∙◌}
use Rattle.std.proofs.lemmas.Bool.{false≢true}
use Rattle.std.proofs.lemmas.Option.{none-some}
use Rattle.indexset_ffi.specs.declared.status.TheConstants.{YES, MEMORY, NONE, HELD}
use Rattle.indexset_c.proofs.StatusLemmas.{not_at}
use Rattle.indexset_c.proofs.set_life.indexset_set_clone.Goals as goal

pub returns-in_default : goal.returns-in_default
returns-in_default c =
    let none : None ≡ c.args.set.now.slot.value = c.in_default.ensures.taken in
    record {
      ok = λ h. not_at 3 NONE YES refl refl h;
      refused = λ h. refl;
      none = (λ h. sym none, λ h. refl);
      held = λ some. absurd (some (sym none));
      unchanged = c.in_default.ensures.left ∙ none;
      status = λ made there held. absurd (there refl);
    }

pub returns-in-Some-take : goal.returns-in-Some-take
returns-in-Some-take c =
    let was : Some c.in-Some.held.value ≡ c.args.set.now.slot.value = c.in-Some.ensures.taken in
    let there : Some c.in-Some-take.other.value ≡ c.args.to.now.slot.value = c.in-Some-take.ensures.taken in
    record {
      ok = λ h. not_at 4 HELD YES refl refl h;
      refused = λ h. c.put.ensures ∙ there;
      none = (λ h. not_at 4 HELD NONE refl refl h, λ h. absurd (none-some _ (sym (was ∙ h))));
      held = λ some. (λ h. sym (ap is_some there), λ h. refl);
      unchanged = c.put-in-Some-take.ensures ∙ was;
      status = λ made there held. absurd (held refl);
    }

pub returns-in_default-cloned : goal.returns-in_default-cloned
returns-in_default-cloned c =
    let was : Some c.in-Some.held.value ≡ c.args.set.now.slot.value = c.in-Some.ensures.taken in
    let empty : None ≡ c.args.to.now.slot.value = c.in_default-take.ensures.taken in
    record {
      ok = λ h. not_at 2 MEMORY YES refl refl h;
      refused = λ h. c.in_default-take.ensures.left ∙ empty;
      none = (λ h. not_at 2 MEMORY NONE refl refl h, λ h. absurd (none-some _ (sym (was ∙ h))));
      held = λ some. (λ h. not_at 2 MEMORY HELD refl refl h, λ h. absurd (false≢true (ap is_some empty ∙ h)));
      unchanged = c.put-2.ensures ∙ was;
      status = λ made there held. refl;
    }

pub returns-in-Ok-new : goal.returns-in-Ok-new
returns-in-Ok-new c =
    let was : Some c.in-Some.held.value ≡ c.args.set.now.slot.value = c.in-Some.ensures.taken in
    let empty : None ≡ c.args.to.now.slot.value = c.in_default-take.ensures.taken in
    record {
      ok = λ h. c.put-in-Ok-new.ensures ∙ ap Some (c.in-Ok-new.ensures.ok ∙ c.in-Ok.ensures.ok (λ x y e. e) ∙ c.deref.ensures) ∙ was;
      refused = λ h. absurd (h refl);
      none = (λ h. not_at 1 YES NONE refl refl h, λ h. absurd (none-some _ (sym (was ∙ h))));
      held = λ some. (λ h. not_at 1 YES HELD refl refl h, λ h. absurd (false≢true (ap is_some empty ∙ h)));
      unchanged = c.put-2.ensures ∙ was;
      status = λ made there held. absurd (made refl);
    }

pub returns : goal.returns
returns c =
    let was : Some c.in-Some.held.value ≡ c.args.set.now.slot.value = c.in-Some.ensures.taken in
    let empty : None ≡ c.args.to.now.slot.value = c.in_default-take.ensures.taken in
    record {
      ok = λ h. not_at 2 MEMORY YES refl refl h;
      refused = λ h. c.in_default-take.ensures.left ∙ empty;
      none = (λ h. not_at 2 MEMORY NONE refl refl h, λ h. absurd (none-some _ (sym (was ∙ h))));
      held = λ some. (λ h. not_at 2 MEMORY HELD refl refl h, λ h. absurd (false≢true (ap is_some empty ∙ h)));
      unchanged = c.put-2.ensures ∙ was;
      status = λ made there held. refl;
    }
