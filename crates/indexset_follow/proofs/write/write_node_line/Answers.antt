use Rattle.std.proofs.Common.{rules}
use Rattle.std.proofs.lemmas.Result.{on_ok_weaker}
use Rattle.indexset_bench.proofs.CallerLemmas.{on_ok_given}
use Rattle.indexset_follow.proofs.Rows.{node_written}
use Rattle.indexset_follow.proofs.write.write_node_line.Goals as goal

pub returns-clause-told : goal.returns-clause-told
returns-clause-told g c =
    let word = on_ok_given _ c.write.result _ c.write.ensures.bytes (search rules) in
    on_ok_weaker c.write_node.result (λ told.
    node_written g.T.Item.texts c.args.node.now (g.W.Write.contents c.args.writer.now)
    (g.W.Write.contents c.write.new.self) (g.W.Write.contents c.write_node.new.writer) word told)
    c.write_node.ensures.told
