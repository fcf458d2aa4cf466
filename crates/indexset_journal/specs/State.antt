-- The state of a journal's store, and the effects of a call on it.
use Rattle.std.specs.Prelude.{◌≡◌, ◌⊎◌, false, ℕ, ◌<◌, ◌≤◌, ◌^◌, List, map, IsTrue}
use Rattle.std.specs.List.{AllByRecursion}
use Rattle.sqlite_disk.specs.Disk.{MoreFaults}
use Rattle.sqlite_value.specs.Order.{Row}
use Rattle.sqlite_trees.specs.declared.store.Shape.{Shape}
use Rattle.sqlite_trees.specs.declared.store.Shape.TheVariants.{Absent, Table}
use Rattle.sqlite_trees.specs.Tree.{IsIndexShape}
use Rattle.sqlite_trees.specs.View.{View, IsClean, doubt}
use Rattle.indexset_journal.specs.Kept.{IsLine, line_of, next_number, AreBelow}

-- the first tree is a table without an index and without a REAL column
pub record IsForLines (shape : ℕ → Shape) (reals : ℕ → ℕ) : Type 0 where
  pub table : shape 0 ≡ Table
  pub plain : reals 0 ≡ 0
  pub bare : (t : ℕ) → t < 2 ^ 32 → ¬ IsIndexShape (shape t)

-- there is no other tree
abbrev pub IsAlone : (ℕ → Shape) → Type 0
IsAlone shape = (t : ℕ) → 0 < t → t < 2 ^ 32 → shape t ≡ Absent

-- the committed tree is a table of lines
pub record HoldsLines (v : View) : Type 0 where
  pub form : IsForLines v.committed_shape v.committed_reals
  pub lines : AllByRecursion IsLine (v.committed 0)

-- no transaction is open, and `next` is the least number that is greater than those of all rows
pub record IsAtRest (next : ℕ) (v : View) : Type 0 where
  pub sound : v.is_broken ≡ false
  pub settled : v.trees ≡ v.committed
  pub shape : v.shape ≡ v.committed_shape
  pub reals : v.reals ≡ v.committed_reals
  pub holds : HoldsLines v
  pub below : AreBelow next (v.committed 0)
  pub first : next ≡ next_number (v.committed 0)

-- an open store is at rest
abbrev pub RestsIfOpen : ℕ → View → Type 0
RestsIfOpen next v = IsClean v → IsTrue v.is_open → IsAtRest next v

-- the transaction may write the table of lines
pub record IsReady (v : View) : Type 0 where
  pub sound : v.is_broken ≡ false
  pub table : v.shape 0 ≡ Table
  pub plain : v.reals 0 ≡ 0

-- the first tree has these rows, and only trees and cursors changed
pub record Stages (old new : View) (rows : List Row) : Type 0 where
  pub this : new.trees 0 ≡ rows
  pub rest : new ≡ record old { trees = new.trees; cursors = new.cursors }

-- the rows of the transaction are these lines, and only cursors changed
pub record Reads (old new : View) (lines : List (List ℕ)) (next : ℕ) : Type 0 where
  pub sound : old.is_broken ≡ false
  pub rows : AllByRecursion IsLine (old.trees 0)
  pub found : lines ≡ map line_of (old.trees 0)
  pub below : AreBelow next (old.trees 0)
  pub first : next ≡ next_number (old.trees 0)
  pub rest : new ≡ record old { cursors = new.cursors }

-- the store stays clean only if it was, faults are not forgotten, and only a fault shuts it
pub record IsSteady {S : Type 0} (view : S → View) (faults : S → ℕ) (Shielded : S → Type 0)
    (old new : S) : Type 0 where
  pub clean : doubt (view old).is_clean ≤ doubt (view new).is_clean
  pub closes : IsClean (view new) → IsTrue (view old).is_open
      → IsTrue (view new).is_open ⊎ MoreFaults (faults old) (faults new)
  pub shield : Shielded old → Shielded new
  pub counts : faults old ≤ faults new
