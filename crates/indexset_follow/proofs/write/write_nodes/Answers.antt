use Rattle.std.proofs.Common.{rules, ◌≡◌, [], ◌∷◌, ◌++◌, ap, sym, ◌∙◌, subst, refl, append-nil}
use Rattle.std.proofs.KnownBytes.{Appends-nil, Appends-trans}
use Rattle.std.proofs.lemmas.Result.{on_ok_weaker}
use Rattle.std.specs.Io.KnownBytes.{Appends}
use Rattle.indexset_bench.proofs.CallerLemmas.{on_ok_given}
use Rattle.indexset_bench.specs.PairText.{lines_for, node_text}
use Rattle.indexset_follow.specs.Reply.{reply_ended}
use Rattle.indexset_follow.specs.declared.reply.Reply.TheVariants.{Next}
use Rattle.indexset_follow.proofs.Rows.{line_behind, walked_on}
use Rattle.indexset_follow.proofs.write.write_nodes.Goals as goal

pub loop-node-init : goal.loop-node-init
loop-node-init g c = ([], refl, Appends-nil _)

pub loop-node-preserved : goal.loop-node-preserved
loop-node-preserved g c =
    let before = c.loop-node.invariant in
    let node = c.in-Some.node.now in
    let told = on_ok_given _ c.write_node.result _ c.write_node.ensures.told (search rules) in
    let next : g.N.WalkNodes.rest c.loop-node.walk ≡ node ∷ g.N.WalkNodes.rest c.next_node.new.self = search rules in
    (before.0 ++ node ∷ [], walked_on before.0 node _ _ _ before.1 next, line_behind (node_text g.T.Item.texts) [] before.0 node _ _ _ before.2 told)

pub returns-clause-told : goal.returns-clause-told
returns-clause-told g c =
    let before = c.loop-node.invariant in
    let none : g.N.WalkNodes.rest c.loop-node.walk ≡ [] = search rules in
    let all : before.0 ≡ g.N.WalkNodes.rest c.args.nodes = sym (append-nil before.0) ∙ ap (λ l. before.0 ++ l) (sym none) ∙ before.1 in
    let far = subst (λ ns. Appends (g.W.Write.contents c.args.writer.now) (g.W.Write.contents c.loop-node.writer) (lines_for (node_text g.T.Item.texts) ns)) all before.2 in
    on_ok_weaker c.write_reply.result (Appends-trans _ _ _ (lines_for (node_text g.T.Item.texts) (g.N.WalkNodes.rest c.args.nodes)) (reply_ended (Next c.args.next)) far) c.write_reply.ensures.told
