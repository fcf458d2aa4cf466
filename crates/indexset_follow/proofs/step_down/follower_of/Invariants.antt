use Rattle.std.proofs.Common.{◌≡◌, ◌++◌, map}
use Rattle.indexset_core.specs.Nodes.{vec_items}
use Rattle.indexset_follow.proofs.step_down.follower_of.Given as goal

abbrev pub invariant-loop-node : goal.invariant-loop-node
invariant-loop-node g l = vec_items l.nodes.items ++ map (λ n. n.items) l.node-iterator ≡ l.pairs.nodes
