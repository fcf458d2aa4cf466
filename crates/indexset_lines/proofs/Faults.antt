-- The results of failed calls.
use Rattle.std.proofs.Common.{◌≡◌, ◌⊎◌, true, Result, Ok, Err, OnOk, refl, ap, inl, inr}
use Rattle.std.proofs.lemmas.Bool.{false≢true}
use Rattle.std.specs.Result.{IsErr, IsErrAnd, is_err}
use Rattle.indexset_lines.specs.declared.fault.RunFault.{RunFault}
use Rattle.indexset_lines.specs.declared.fault.RunFault.TheVariants.{Memory, Numbers, Read, Write}

-- a `?` returns the error
pub failed : {T E : Type 0} (r : Result T E) (e : E) → IsErr r × IsErrAnd r (λ f. f ≡ e) → r ≡ Err e
failed (Ok x) e h = absurd h.1
failed (Err f) e h = ap Err h.1

pub ok_not_err : {T E P : Type 0} {x : T} {y : E} → Ok x ≡ Err y → P
ok_not_err e = cc

pub err_is : {T E : Type 0} (r : Result T E) → is_err r ≡ true → (e : E) × (r ≡ Err e)
err_is (Ok x) e = absurd (false≢true e)
err_is (Err f) e = (f, refl)

module _ {P : Type 0} where
  pub write_not_read : Write ≡ Read → P
  write_not_read e = cc

  pub write_not_memory : Write ≡ Memory → P
  write_not_memory e = cc

  pub write_not_numbers : Write ≡ Numbers → P
  write_not_numbers e = cc

  pub read_not_memory : Read ≡ Memory → P
  read_not_memory e = cc

  pub read_not_numbers : Read ≡ Numbers → P
  read_not_numbers e = cc

  pub neither_numbers : (f : RunFault) → (f ≡ Memory) ⊎ (f ≡ Read) → f ≡ Numbers → P
  neither_numbers f (inl memory) e = cc
  neither_numbers f (inr read) e = cc

pub err_same : {T E : Type 0} {x y : E} (r : Result T E) → r ≡ Err x → r ≡ Err y → x ≡ y
err_same r a b = cc

pub on_ok_any : {T E : Type 0} {P : Type 0} (r : Result T E) → P → OnOk r P
on_ok_any (Ok x) p = p
on_ok_any (Err e) p = tt
