-- Causes of failures of the store, in terms of the state before an earlier call.
use Rattle.std.proofs.Common.{◌≡◌, ℕ, ◌+◌, ◌<◌, ◌≤◌, ◌^◌, IsTrue, List, length, ap, arith}
use Rattle.std.specs.Int.{bit_at}
use Rattle.std.proofs.lemmas.Nat.Bits.{bit_at-zero}
use Rattle.std.proofs.Math.Decide.{dec_le}
use Rattle.std.specs.Float.{NotNan}
use Rattle.sqlite_value.specs.Order.{number as number_of}
use Rattle.std.proofs.lemmas.List.Elements.{All-from_recursion}
use Rattle.sqlite_disk.specs.Disk.{MoreFaults}
use Rattle.sqlite_trees.specs.View.{View, HasCause, IsStorableRow}
use Rattle.sqlite_trees.specs.declared.error.StoreError.{StoreError}
use Rattle.sqlite_trees.specs.declared.error.StoreError.TheVariants as store
use Rattle.indexset_journal.specs.declared.error.JournalError.{JournalError}
use Rattle.indexset_journal.specs.declared.error.JournalError.TheVariants.{OutOfMemory, Disk, Damaged, Full, Shut, TooLong, NotLines, Numbers, InUse, CannotOpen}
use Rattle.indexset_journal.specs.Kept.{row_of}
use Rattle.indexset_journal.specs.Cause.{Explains}

pub cause_before : (old mid : View) (fault later unstorable too : Type 0) → (IsTrue mid.is_broken → IsTrue old.is_broken) → (later → fault) → (too → unstorable)
    → (error : StoreError) → HasCause mid later too error → HasCause old fault unstorable error
cause_before old mid fault later unstorable too broken first refused store.OutOfMemory cause = tt
cause_before old mid fault later unstorable too broken first refused store.Io cause = first cause
cause_before old mid fault later unstorable too broken first refused store.Corrupt cause = first cause
cause_before old mid fault later unstorable too broken first refused store.Full cause = first cause
cause_before old mid fault later unstorable too broken first refused store.Broken cause = broken cause
cause_before old mid fault later unstorable too broken first refused store.Unstorable cause = refused cause

pub faults_since : (old mid new : ℕ) → old ≤ mid → MoreFaults mid new → MoreFaults old new
faults_since old mid new within more = omega (arith, within, more)

storable : (reals number : ℕ) (line : List ℕ) → reals ≡ 0 → 54 + length line ≤ 10 ^ 9 → IsStorableRow reals (row_of number line)
unfolding lib.Ieee.is_nan
storable reals number line none short = (
  record {
    typed = λ c set. absurd (omega (arith, set, bit_at-zero c, ap (λ r. bit_at r c) none));
    columns = (omega arith, omega arith);
    numbers = All-from_recursion (λ v. NotNan (number_of v)) (row_of number line) (tt, (tt, (tt, tt)));
    short = omega (arith, short);
  },
  omega arith,
)

pub faults_until : (old mid new : ℕ) → MoreFaults old mid → mid ≤ new → MoreFaults old new
faults_until old mid new more within = omega (arith, within, more)

-- an error that has a cause has each weaker cause
pub explained : (fault shut long numbers other fault2 shut2 long2 numbers2 other2 : Type 0) → (fault → fault2) → (shut → shut2) → (long → long2) → (numbers → numbers2)
    → (other → other2) → (error : JournalError) → Explains fault shut long numbers other error → Explains fault2 shut2 long2 numbers2 other2 error
explained a b c d e a2 b2 c2 d2 e2 f g h i j OutOfMemory is = tt
explained a b c d e a2 b2 c2 d2 e2 f g h i j Disk is = f is
explained a b c d e a2 b2 c2 d2 e2 f g h i j Damaged is = f is
explained a b c d e a2 b2 c2 d2 e2 f g h i j Full is = f is
explained a b c d e a2 b2 c2 d2 e2 f g h i j Shut is = g is
explained a b c d e a2 b2 c2 d2 e2 f g h i j TooLong is = h is
explained a b c d e a2 b2 c2 d2 e2 f g h i j Numbers is = i is
explained a b c d e a2 b2 c2 d2 e2 f g h i j NotLines is = j is
explained a b c d e a2 b2 c2 d2 e2 f g h i j InUse is = is
explained a b c d e a2 b2 c2 d2 e2 f g h i j CannotOpen is = is

-- a line that cannot be stored is too long
pub too_long : (reals number : ℕ) (line : List ℕ) → reals ≡ 0 → ¬ IsStorableRow reals (row_of number line) → 10 ^ 9 < 54 + length line
too_long reals number line none refused = elim (dec_le (54 + length line) (10 ^ 9)) [ yes short ↦ absurd (refused (storable reals number line none short)) | no long ↦ omega (arith, long) ]
