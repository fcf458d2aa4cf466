use Rattle.std.proofs.Common.{◌≡◌, Some, None, refl, sym, ap, subst, ◌∙◌}
use Rattle.std.specs.Map.Calls.{MayWrite, ModifiesValue}
use Rattle.indexset_map.specs.Entry.{entry_key, entry_value, map_with_value, map_without_entry, missing_key}
use Rattle.indexset_map.proofs.EntryLemmas.{written_again, written_key, written_removed, written_value}
use Rattle.indexset_map.proofs.entry.Entry.and_modify.Goals as goal

at_both : {X : Type 0} (P : X → X → Type 0) (p q a b : X) → p ≡ a → q ≡ b → P a b → P p q
at_both P p q a b x y h = subst (λ r. P r q) (sym x) (subst (P a) (sym y) h)

pub returns-in-Occupied-clause-value : goal.returns-in-Occupied-clause-value
returns-in-Occupied-clause-value g c =
    let u = c.f.new.arg2 in
    let old = ap entry_value c.in-Occupied.is ∙ c.get_mut.ensures.value in
    let did : MayWrite g.F.FnOnce c.args.f c.get_mut.result.now u
    = record { lent = c.get_mut.result; result = c.f.result; left = _; before = refl; met = c.f.ensures; after = refl } in
    at_both (ModifiesValue g.F.FnOnce c.args.f) _ _ _ _ old (written_value c.in-Occupied.occupied u) did

pub returns-in-Occupied-clause-update : goal.returns-in-Occupied-clause-update
returns-in-Occupied-clause-update g c = λ w. written_again c.in-Occupied.occupied c.f.new.arg2 w ∙ ap (λ e. map_with_value e w) (sym c.in-Occupied.is)

pub returns-in-Occupied-clause-absent : goal.returns-in-Occupied-clause-absent
returns-in-Occupied-clause-absent g c = λ none. let h : Some c.f.new.arg2 ≡ None = sym (written_value c.in-Occupied.occupied c.f.new.arg2) ∙ none in absurd (cc)

pub returns-in-Vacant-clause-value : goal.returns-in-Vacant-clause-value
returns-in-Vacant-clause-value g c = at_both (ModifiesValue g.F.FnOnce c.args.f) _ _ _ _ (ap entry_value c.in-Vacant.is) refl refl

pub returns-in-Occupied-clause-missing : goal.returns-in-Occupied-clause-missing
returns-in-Occupied-clause-missing g c = sym (ap missing_key c.in-Occupied.is)

pub returns-in-Occupied-clause-key : goal.returns-in-Occupied-clause-key
returns-in-Occupied-clause-key g c = written_key c.in-Occupied.occupied c.f.new.arg2 ∙ ap entry_key (sym c.in-Occupied.is)

pub returns-in-Occupied-clause-removal : goal.returns-in-Occupied-clause-removal
returns-in-Occupied-clause-removal g c = written_removed c.in-Occupied.occupied c.f.new.arg2 ∙ ap map_without_entry (sym c.in-Occupied.is)
