-- The pairs so far and those of the rest are those of the text.
use Rattle.std.proofs.Common.{◌≡◌, ◌++◌, length}
use Rattle.std.specs.Option.{option_map}
use Rattle.indexset_follow.specs.NodeLine.{pairs_of, words}
use Rattle.indexset_follow.proofs.node.read_pairs.Given as goal

abbrev pub invariant-loop-word : goal.invariant-loop-word
invariant-loop-word g l = pairs_of g.T.Item.texts (words l.text) ≡ option_map (λ ps. l.items.items ++ ps) (pairs_of g.T.Item.texts (words l.left))

abbrev pub decreases-loop-word : goal.decreases-loop-word
decreases-loop-word g l = length l.left
