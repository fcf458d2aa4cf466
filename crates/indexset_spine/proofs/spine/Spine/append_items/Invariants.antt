-- A prefix of the items is appended to the spine, and the others are left.
use Rattle.std.proofs.Common.{◌≡◌, length}
use Rattle.indexset_spine.specs.NodeList.{with_last}
use Rattle.indexset_spine.specs.Edits.{FoldsPrefix}
use Rattle.indexset_spine.proofs.spine.Spine.append_items.Given as goal

abbrev pub invariant-loop-self : goal.invariant-loop-self
invariant-loop-self g l = record {
  moved : FoldsPrefix (with_last l.initial.self.size) l.initial.self.nodes l.initial.from.items l.self.nodes l.from.items;
  size : l.self.size ≡ l.initial.self.size;
}

abbrev pub decreases-loop-self : goal.decreases-loop-self
decreases-loop-self g l = length l.from.items
