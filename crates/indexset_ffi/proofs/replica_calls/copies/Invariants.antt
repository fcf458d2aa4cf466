use Rattle.std.proofs.Common.{◌≡◌, ◌++◌, map}
use Rattle.indexset_core.specs.Nodes.{vec_items}
use Rattle.indexset_ffi.proofs.replica_calls.copies.Given as goal

-- the copies are those of the nodes so far
abbrev pub invariant-loop-node : goal.invariant-loop-node
invariant-loop-node l = record {
  whole : map (λ n. n.now.items) l.yielded ++ vec_items l.node-iterator ≡ vec_items l.fn.walk;
  copied : vec_items l.nodes.items ≡ map (λ n. n.now.items) l.yielded;
}
