-- What a follower keeps of a line that it has read.
use Rattle.std.specs.Prelude.{ℕ, ◌-◌, List, [], ◌∷◌, take}
use Rattle.indexset_follow.specs.declared.role.Role.{Role}
use Rattle.indexset_journal.specs.Kept.{texts as lines_texts}
use Rattle.indexset_keep.specs.Roles.{copy_held, snapshot_of}
use Rattle.indexset_keep.specs.declared.followed.Tells.{Tells}
use Rattle.indexset_keep.specs.declared.followed.Tells.TheVariants.{Nothing, Line, Steps, Snapshot}
use Rattle.indexset_wire.specs.Texts.{Texts}

module _ {T : Type 0} (texts : Texts T) where
  -- the lines that are kept, from the number awaited before the line and the role after it
  abbrev pub lines_told : Tells → List ℕ → ℕ → Role T → List (List ℕ)
  lines_told Nothing line next r = []
  lines_told Line line next r = line ∷ []
  lines_told (Steps lines) line next r = take ((copy_held r).next - next) (lines_texts lines.items)
  lines_told Snapshot line next r = snapshot_of texts r
