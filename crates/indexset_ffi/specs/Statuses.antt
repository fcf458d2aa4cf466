-- The status of a refusal.
use Rattle.std.specs.Prelude.{◌≡◌, ℕ}
use Rattle.indexset_core.specs.declared.refusal.Refusal.{Refusal}
use Rattle.indexset_core.specs.declared.refusal.Refusal.TheVariants as refusals
use Rattle.indexset_ffi.specs.declared.status.TheConstants.{MEMORY, NUMBERS}

-- the status is `MEMORY` or `NUMBERS` only if that is the refusal
pub record IsToldAs (status : ℕ) (why : Refusal) : Type 0 where
  pub memory : status ≡ MEMORY → why ≡ refusals.Memory
  pub numbers : status ≡ NUMBERS → why ≡ refusals.Numbers
