-- What holds of a call with any result, and of the value of an option.
use Rattle.std.proofs.Common.{◌≡◌, true, is_some, Option, Some, None, Result, Ok, Err, refl}
use Rattle.std.specs.Result.{OnErr}

-- what holds in any case
pub on_err : {T E P : Type 0} (r : Result T E) → P → OnErr r P
on_err (Ok x) p = tt
on_err (Err e) p = p

-- the value of an option that is not `None`
pub some_held : {X : Type 0} (o : Option X) → is_some o ≡ true → (x : X) × (o ≡ Some x)
some_held None e = absurd (cc)
some_held (Some x) e = (x, refl)
