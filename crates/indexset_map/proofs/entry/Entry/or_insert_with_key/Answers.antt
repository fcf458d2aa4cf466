use Rattle.std.proofs.Common.{◌≡◌, None, Option, Some, Result, Ok, Err, IfErr, IfOk, IfSome, OnErr, rules, ap, sym, subst, ◌∙◌}
use Rattle.std.specs.Borrow.{MutBor}
use Rattle.std.specs.Fn.{FnOnceReturnsAt}
use Rattle.std.specs.Option.{UnwrapsOrElse}
use Rattle.indexset_core.specs.declared.refusal.Refused.{Refused}
use Rattle.indexset_core.specs.declared.refusal.Refusal.{Refusal}
use Rattle.indexset_map.specs.Entry.{entry_value, missing_key}
use Rattle.indexset_map.proofs.entry.Entry.or_insert_with_key.Goals as goal

module _ {K V : Type 0} (P : K → V → Type 0) (k : K) (v : V) (made : P k v) (old : Option V) (none : old ≡ None) (asked : Option K) (is : asked ≡ Some k) where
  value_made : {E : Type 0} (r : Result (MutBor V) E) → IfOk r (λ x. x.now ≡ v) → IfOk r (λ x. UnwrapsOrElse old (λ u. IfSome asked (λ j. P j u)) x.now)
  value_made (Ok x) told = rw (none, is, told) made
  value_made (Err e) told = tt

  handed_back : (r : Result (MutBor V) (Refused (K × V))) (c : Refusal)
      → IfErr r (λ e. (Some k ≡ Some e.value.0) × (e.value.1 ≡ v) × (e.cause ≡ c))
      → IfErr r (λ e. (asked ≡ Some e.value.0) × P e.value.0 e.value.1 × (e.cause ≡ c))
  handed_back (Ok x) c told = tt
  handed_back (Err e) c told = let same : k ≡ e.value.0 = cc in (is ∙ told.0, subst (λ u. P e.value.0 u) (sym told.1) (subst (λ j. P j v) same made), told.2)

  refused : {A E : Type 0} (r : Result A E) → OnErr r (old ≡ None)
  refused (Ok x) = tt
  refused (Err e) = none

pub returns-in-Vacant : goal.returns-in-Vacant
returns-in-Vacant g c =
    let none = ap entry_value c.in-Vacant.is in
    let asked = ap missing_key c.in-Vacant.is in
    let key : c.key.result.now ≡ c.in-Vacant.entry.key = cc in
    let P = FnOnceReturnsAt g.F.FnOnce c.args.default in
    let gave : P c.in-Vacant.entry.key c.default-value.result = (_, c.default-value.ensures, key) in (
      search rules,
      record {
        writes_back = tt;
        value = value_made P _ _ gave _ none _ asked c.insert.result c.insert.ensures.value;
        refused = refused P _ _ gave _ none _ asked c.insert.result;
        given_back = handed_back P _ _ gave _ none _ asked c.insert.result _ c.insert.ensures.given_back;
      },
    )
