-- Statuses that differ, and the status of a refusal.
use Rattle.std.proofs.Common.{◌≡◌, ◌≢◌, ℕ, ◌+◌, ◌<◌, ◌≤◌, Bool, true, false, eqb, ltb, nat_lt, refl, sym, ◌∙◌, arith}
use Rattle.std.proofs.lemmas.Bool.{eqb-false, eqb-true, ltb-true}
use Rattle.std.proofs.Math.Logic.{◌⊎◌, inl, inr}
use Rattle.std.specs.Prelude.{if◌then◌else◌, ◌↔◌}
use Rattle.indexset_core.specs.declared.refusal.Refusal.{Refusal}
use Rattle.indexset_core.specs.declared.refusal.Refusal.TheVariants as refusals
use Rattle.std.below.core.specs.declared.int.u64.TheConstants.{MAX}
use Rattle.indexset_log.specs.Tree.{refusal_for}
use Rattle.indexset_ffi.specs.declared.status.TheConstants.{NO, YES, MEMORY, NONE, HELD, NUMBERS, UNFIT}

-- a status is only one number
pub not_at : {P : Type 0} (s m n : ℕ) → s ≡ m → eqb m n ≡ false → s ≡ n → P
not_at s m n is other at = absurd (eqb-false m n other (sym is ∙ at))

pub not_most : {P : Type 0} (s m n : ℕ) → s ≡ m → ltb n m ≡ true → s ≤ n → P
not_most s m n is other at = let over : n < m = ltb-true n m other in absurd (omega (arith, is, over, at))

pub not_least : {P : Type 0} (s m n : ℕ) → s ≡ m → ltb m n ≡ true → n ≤ s → P
not_least s m n is other at = let under : m < n = ltb-true m n other in absurd (omega (arith, is, under, at))

-- the status of the refusal `Memory` or `Numbers`
pub record IsRefused (s : ℕ) (cause : Refusal) : Type 0 where
  pub memory : s ≡ MEMORY → cause ≡ refusals.Memory
  pub numbers : s ≡ NUMBERS → cause ≡ refusals.Numbers
  pub least : MEMORY ≤ s
  pub most : s ≤ NUMBERS
  pub not_none : s ≢ NONE
  pub not_held : s ≢ HELD

pub is_refused : (s t : ℕ) (cause why : Refusal) → s ≡ t → cause ≡ why
    → (why ≡ refusals.Memory) ⊎ (why ≡ refusals.Numbers) → (t ≡ MEMORY ↔ (cause ≡ refusals.Memory))
    → (t ≡ NUMBERS ↔ (cause ≡ refusals.Numbers)) → IsRefused s why
is_refused s t cause why is same (inl m) memory numbers =
    let at : s ≡ MEMORY = is ∙ memory.1 (same ∙ m) in
    record {
      memory = λ h. m;
      numbers = λ h. not_at s MEMORY NUMBERS at refl h;
      least = omega (arith, at);
      most = omega (arith, at);
      not_none = λ h. not_at s MEMORY NONE at refl h;
      not_held = λ h. not_at s MEMORY HELD at refl h;
    }
is_refused s t cause why is same (inr n) memory numbers =
    let at : s ≡ NUMBERS = is ∙ numbers.1 (same ∙ n) in
    record {
      memory = λ h. not_at s NUMBERS MEMORY at refl h;
      numbers = λ h. n;
      least = omega (arith, at);
      most = omega (arith, at);
      not_none = λ h. not_at s NUMBERS NONE at refl h;
      not_held = λ h. not_at s NUMBERS HELD at refl h;
    }

pub for_events : (next n : ℕ) → (refusal_for next n ≡ refusals.Memory) ⊎ (refusal_for next n ≡ refusals.Numbers)
for_events next n = either (nat_lt MAX (next + n)) where
  either : (b : Bool) → ((if b then refusals.Numbers else refusals.Memory) ≡ refusals.Memory) ⊎ ((if b then refusals.Numbers else refusals.Memory) ≡ refusals.Numbers)
  either true = inr refl
  either false = inl refl

-- the status of the refusal `Memory`, or of the stated refusal
pub record IsToldOr (s : ℕ) (cause why : Refusal) : Type 0 where
  pub refused : IsRefused s cause
  pub numbers : s ≡ NUMBERS → why ≡ refusals.Numbers

pub is_told_or : (s t : ℕ) (cause why : Refusal) → s ≡ t → (cause ≢ refusals.Memory → cause ≡ why)
    → (why ≡ refusals.Memory) ⊎ (why ≡ refusals.Numbers) → (t ≡ MEMORY ↔ (cause ≡ refusals.Memory))
    → (t ≡ NUMBERS ↔ (cause ≡ refusals.Numbers)) → IsToldOr s cause why
is_told_or s t cause why is other one memory numbers = decide (eqb t MEMORY) refl where
  apart : eqb t MEMORY ≡ false → cause ≢ refusals.Memory
  apart e m = eqb-false t MEMORY e (memory.1 m)

  else_why : (why ≡ refusals.Memory) ⊎ (why ≡ refusals.Numbers) → eqb t MEMORY ≡ false → IsToldOr s cause why
  else_why (inl m) e = absurd (apart e (other (apart e) ∙ m))
  else_why (inr n) e = record { refused = is_refused s t cause cause is refl (inr (other (apart e) ∙ n)) memory numbers; numbers = λ h. n }

  decide : (b : Bool) → eqb t MEMORY ≡ b → IsToldOr s cause why
  decide true e =
      let at : t ≡ MEMORY = eqb-true t MEMORY e in
      record { refused = is_refused s t cause cause is refl (inl (memory.0 at)) memory numbers; numbers = λ h. not_at s MEMORY NUMBERS (is ∙ at) refl h }
  decide false e = else_why one e

-- numbers that such a status differs from
module _ (s : ℕ) (cause : Refusal) (r : IsRefused s cause) where
  pub refused_not_yes : {P : Type 0} → s ≡ YES → P
  refused_not_yes h = let least = r.least in absurd (omega (arith, least, h))

  pub refused_not_no : {P : Type 0} → s ≡ NO → P
  refused_not_no h = let least = r.least in absurd (omega (arith, least, h))

  pub refused_not_done : {P : Type 0} → s ≤ YES → P
  refused_not_done h = let least = r.least in absurd (omega (arith, least, h))

  pub refused_not_none : {P : Type 0} → s ≡ NONE → P
  refused_not_none h = absurd (r.not_none h)

  pub refused_not_unfit : {P : Type 0} → s ≡ UNFIT → P
  refused_not_unfit h = let most = r.most in absurd (omega (arith, most, h))

  pub refused_status : s ≤ UNFIT
  refused_status = let most = r.most in omega (arith, most)
