use Rattle.std.proofs.Common.{◌≡◌, ◌++◌, map}
use Rattle.std.specs.Io.KnownBytes.{Appends}
use Rattle.indexset_bench.specs.PairText.{lines_for, node_text}
use Rattle.indexset_bench.proofs.write.write_nodes.Given as goal

abbrev pub invariant-loop-node : goal.invariant-loop-node
invariant-loop-node g l =
    (map (λ n. n.now.items) l.yielded ++ map (λ n. n.items) l.node-iterator ≡ l.pairs.nodes)
    × Appends (g.W.Write.contents l.fn.writer) (g.W.Write.contents l.writer) (lines_for (node_text g.T.Item.texts) (map (λ n. n.now.items) l.yielded))
