use Rattle.std.proofs.Common.{rules, ap, map, subst}
use Rattle.std.specs.Io.KnownBytes.{Appends}
use Rattle.indexset_bench.specs.PairText.{ended, node_text}
use Rattle.indexset_bench.proofs.Written.{on_ok_given, one_line, one_read}
use Rattle.indexset_bench.proofs.write.write_nodes.Goals as goal

pub loop-node-preserved : goal.loop-node-preserved
loop-node-preserved g c =
    let done = c.loop-node.yielded in
    let told = on_ok_given _ c.write_node.result _ c.write_node.ensures.told (search rules) in
    let line = subst (λ n. Appends (g.W.Write.contents c.loop-node.writer) (g.W.Write.contents c.write_node.new.writer) (ended (node_text g.T.Item.texts n))) c.deref.ensures.value told in (
      one_read (node_text g.T.Item.texts) (λ n. n.now.items) done c.in-Some.node _ _ _ c.loop-node.invariant.0 (ap (map (λ n. n.items)) c.in-Some.ensures.steps),
      one_line (node_text g.T.Item.texts) (λ n. n.now.items) done c.in-Some.node _ _ _ c.loop-node.invariant.1 line,
    )
