use Rattle.std.proofs.Common.{◌≡◌, ◌+◌, ◌-◌, length}
use Rattle.indexset_core.specs.Nodes.{node_lengths, vec_items}
use Rattle.indexset_ffi.specs.Cursors.{cursor_position}
use Rattle.indexset_ffi.proofs.cursor.moved.Given as goal

-- moving on by the remaining count gives the same cursor as moving the first cursor by the whole
-- count
abbrev pub invariant-loop-at : goal.invariant-loop-at
invariant-loop-at g l = cursor_position (node_lengths (vec_items l.nodes)) l.at + l.left ≡ cursor_position (node_lengths (vec_items l.nodes)) l.fn.from + l.fn.count

abbrev pub decreases-loop-at : goal.decreases-loop-at
decreases-loop-at g l = length l.nodes - l.at.node
