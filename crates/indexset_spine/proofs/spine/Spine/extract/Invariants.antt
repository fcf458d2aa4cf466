-- The items for which the closure was called stay, and the next is the first for which it was not.
use Rattle.std.proofs.Common.{◌≡◌, ◌-◌, length}
use Rattle.std.specs.Fn.{CalledAtMut}
use Rattle.indexset_core.specs.Nodes.{node_lengths}
use Rattle.indexset_spine.specs.NodeList.{items}
use Rattle.indexset_spine.specs.Extract.{IsExtractRange, extract_state}
use Rattle.indexset_spine.proofs.ExtractSteps.{ExtractedTo}
use Rattle.indexset_spine.proofs.spine.Spine.extract.Given as goal

abbrev pub invariant-loop-at : goal.invariant-loop-at
invariant-loop-at g l = record {
  extracted : ExtractedTo (CalledAtMut g.F.FnMut) l.initial.f (extract_state (items l.initial.self) l.initial.at.front l.initial.at.back) l.f (extract_state (items l.self) l.at.front l.at.back);
  lengths : node_lengths l.self.nodes ≡ node_lengths l.initial.self.nodes;
  stretch : IsExtractRange (node_lengths l.self.nodes) (length (items l.self)) l.at;
  back : l.at.back ≡ l.initial.at.back;
  callable : goal.F-IsAlwaysCallable g l.f;
  size : l.self.size ≡ l.initial.self.size;
}

abbrev pub decreases-loop-at : goal.decreases-loop-at
decreases-loop-at g l = l.at.back - l.at.front
