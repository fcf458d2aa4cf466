-- The causes of each error.
use Rattle.std.specs.Prelude.{◌≡◌, ◌⊎◌, false, true, ℕ, ◌+◌, ◌<◌, ◌^◌, Bool}
use Rattle.std.specs.Prelude.{List, length, Any, Option, Some, IsTrue, Vec, ⊤}
use Rattle.std.specs.declared.alloc.Global.{Global}
use Rattle.sqlite_trees.specs.View.{View}
use Rattle.sqlite_trees.specs.declared.error.StoreError.{StoreError}
use Rattle.sqlite_trees.specs.declared.error.StoreError.TheVariants as store
use Rattle.indexset_journal.specs.declared.error.JournalError.{JournalError}
use Rattle.indexset_journal.specs.declared.error.JournalError.TheVariants.{
  OutOfMemory,
  Disk,
  Damaged,
  Full,
  Shut,
  TooLong,
  NotLines,
  Numbers,
  InUse,
  CannotOpen,
}
use Rattle.indexset_journal.specs.Kept.{IsTooLong}
use Rattle.indexset_journal.specs.State.{HoldsLines, IsAlone}

-- the journal's error for a store's error
abbrev pub named : StoreError → JournalError
named store.OutOfMemory = OutOfMemory
named store.Io = Disk
named store.Corrupt = Damaged
named store.Full = Full
named store.Broken = Shut
named store.Unstorable = TooLong

-- the error is a failure of the disk
abbrev pub is_of_disk : JournalError → Bool
is_of_disk Disk = true
is_of_disk Damaged = true
is_of_disk Full = true
is_of_disk _ = false

-- if the disk failed, the error is that for the store's last error, if the store records it
abbrev pub TellsFault : Option StoreError → JournalError → Type 0
TellsFault last error =
    (kind : StoreError) → last ≡ Some kind → IsTrue (is_of_disk error) → error ≡ named kind

-- the cause of an error: the disk failed meanwhile, the store was shut, a line is too long, the
-- numbers run out, or a row is not a line; lack of memory needs none
abbrev pub Explains : (fault shut long numbers other : Type 0) → JournalError → Type 0
Explains fault shut long numbers other OutOfMemory = ⊤
Explains fault shut long numbers other Disk = fault
Explains fault shut long numbers other Damaged = fault
Explains fault shut long numbers other Full = fault
Explains fault shut long numbers other Shut = shut
Explains fault shut long numbers other TooLong = long
Explains fault shut long numbers other Numbers = numbers
Explains fault shut long numbers other NotLines = other
Explains fault shut long numbers other InUse = ⊥
Explains fault shut long numbers other CannotOpen = ⊥

-- the causes of a failure to store lines that are numbered from `start` on
abbrev pub FailsToKeep : View → Type 0 → ℕ → List (Vec ℕ Global) → JournalError → Type 0
FailsToKeep old fault start lines =
    Explains fault (old.is_open ≡ false) (Any IsTooLong lines) (2 ^ 63 < start + length lines) ⊥

-- the causes of a failure to open
abbrev pub FailsToOpen : View → Type 0 → JournalError → Type 0
FailsToOpen old fault =
    Explains fault ((old.is_open ≡ false) ⊎ fault) ⊥ ⊥
    (¬ (HoldsLines old × IsAlone old.committed_shape))
