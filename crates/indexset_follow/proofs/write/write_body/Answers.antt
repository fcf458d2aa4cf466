use Rattle.std.proofs.Common.{rules, ◌≡◌, [], ◌∷◌, ◌++◌, ap, sym, ◌∙◌, subst, refl, append-nil}
use Rattle.std.specs.Io.KnownBytes.{Appends}
use Rattle.indexset_bench.proofs.CallerLemmas.{on_ok_given}
use Rattle.indexset_bench.specs.PairText.{ended, lines_for}
use Rattle.indexset_follow.specs.Mark.{mark_line}
use Rattle.indexset_follow.specs.NodeLine.{node_line}
use Rattle.indexset_follow.specs.declared.mark.Mark.TheVariants.{Start}
use Rattle.indexset_follow.proofs.Rows.{line_behind, walked_on}
use Rattle.indexset_follow.proofs.write.write_body.Goals as goal

pub loop-node-init : goal.loop-node-init
loop-node-init g c =
    let told = on_ok_given _ c.write_mark.result _ c.write_mark.ensures.told (search rules) in
    ([], refl, subst (Appends _ _) (sym (append-nil _)) told)

pub loop-node-preserved : goal.loop-node-preserved
loop-node-preserved g c =
    let before = c.loop-node.invariant in
    let node = c.in-Some.node.now in
    let told = on_ok_given _ c.write_node_line.result _ c.write_node_line.ensures.told (search rules) in
    let next : g.N.WalkNodes.rest c.loop-node.walk ≡ node ∷ g.N.WalkNodes.rest c.next_node.new.self = search rules in
    (before.0 ++ node ∷ [], walked_on before.0 node _ _ _ before.1 next, line_behind (node_line g.T.Item.texts) (ended (mark_line (Start c.args.next c.args.done))) before.0 node _ _ _ before.2 told)

pub returns-clause-told : goal.returns-clause-told
returns-clause-told g c =
    let before = c.loop-node.invariant in
    let none : g.N.WalkNodes.rest c.loop-node.walk ≡ [] = search rules in
    let all : before.0 ≡ g.N.WalkNodes.rest c.args.nodes = sym (append-nil before.0) ∙ ap (λ l. before.0 ++ l) (sym none) ∙ before.1 in
    subst (λ ns.
    Appends (g.W.Write.contents c.args.writer.now) (g.W.Write.contents c.loop-node.writer)
    (ended (mark_line (Start c.args.next c.args.done)) ++ lines_for (node_line g.T.Item.texts) ns))
    all before.2
