-- Ownership of a handle.
use base.Fml.{Fml, ftrue}
use denote.RawPtr.{Ptr}
use denote.RattleType.{RattleType}
use mir.Syntax.{Ty}
use Rattle.std.specs.Prelude.{Option, Some, None}
use Rattle.std.specs.Box.Ownership.{box_owns}

-- for a value, the ownership of its box; otherwise nothing
abbrev pub holds : (Ty → Ptr → Fml) → (R : RattleType) → Ptr → Option R.Denot → Fml
holds token R at None = ftrue
holds token R at (Some value) = box_owns token R at value
