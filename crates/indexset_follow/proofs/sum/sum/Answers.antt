use Rattle.std.proofs.Common.{rules, ◌≡◌, [], ◌∷◌, ◌++◌, take, sym, ap, subst, refl, ◌∙◌, append-nil}
use Rattle.sha2.specs.Hashers.{Holds256}
use Rattle.sha2.specs.Sha256.{sha256}
use Rattle.std.specs.Int.{w64, from_be_bytes}
use Rattle.indexset_bench.proofs.CallerLemmas.{on_ok_given}
use Rattle.indexset_bench.specs.PairText.{ended, lines_for}
use Rattle.indexset_follow.specs.Copy.{body_text, copy, sum_of}
use Rattle.indexset_follow.specs.Mark.{mark_line}
use Rattle.indexset_follow.specs.NodeLine.{node_line}
use Rattle.indexset_follow.specs.declared.mark.Mark.TheVariants.{Start}
use Rattle.indexset_follow.proofs.Rows.{line_push, walked_on}
use Rattle.indexset_follow.proofs.Sums.{appended_alone, first_eight}
use Rattle.indexset_follow.proofs.sum.sum.Goals as goal

pub loop-node-init : goal.loop-node-init
loop-node-init g c =
    let front = ended (mark_line (Start c.args.next c.args.done)) in
    let told = on_ok_given _ c.write_mark.result _ c.write_mark.ensures.told (search rules) in
    let text : c.as_slice.result.now ≡ front = c.as_slice.ensures.value ∙ appended_alone _ _ _ told c.new-text.ensures.items in
    ([], refl, subst (Holds256 c.update.new.self) (text ∙ sym (append-nil front)) (c.update.ensures [] c.new-hasher.ensures))

pub loop-node-preserved : goal.loop-node-preserved
loop-node-preserved g c =
    let before = c.loop-node.invariant in
    let node = c.in-Some.node.now in
    let front = ended (mark_line (Start c.args.next c.args.done)) in
    let told = on_ok_given _ c.write_node_line.result _ c.write_node_line.ensures.told (search rules) in
    let text : c.as_slice-in-Some.result.now ≡ ended (node_line g.T.Item.texts node) = c.as_slice-in-Some.ensures.value ∙ appended_alone _ _ _ told c.clear.ensures.items in
    let next : g.N.WalkNodes.rest c.loop-node.walk ≡ node ∷ g.N.WalkNodes.rest c.next_node.new.self = search rules in
    let more = ap (λ t. (front ++ lines_for (node_line g.T.Item.texts) before.0) ++ t) text ∙ line_push (node_line g.T.Item.texts) front before.0 node in (
      before.0 ++ node ∷ [],
      walked_on before.0 node _ _ _ before.1 next,
      subst (Holds256 c.update-in-Some.new.self) more (c.update-in-Some.ensures (front ++ lines_for (node_line g.T.Item.texts) before.0) before.2),
    )

pub returns-clause-sum : goal.returns-clause-sum
unfolding sum_of
returns-clause-sum g c =
    let before = c.loop-node.invariant in
    let front = ended (mark_line (Start c.args.next c.args.done)) in
    let none : g.N.WalkNodes.rest c.loop-node.walk ≡ [] = search rules in
    let all : before.0 ≡ g.N.WalkNodes.rest c.args.nodes = sym (append-nil before.0) ∙ ap (λ l. before.0 ++ l) (sym none) ∙ before.1 in
    let whole : front ++ lines_for (node_line g.T.Item.texts) before.0
    ≡ body_text g.T.Item.texts (copy (g.N.WalkNodes.rest c.args.nodes) c.args.next) c.args.done =
    ap (λ ns. front ++ lines_for (node_line g.T.Item.texts) ns) all in
    let digest : c.finalize-digest.result
    ≡ sha256 (body_text g.T.Item.texts (copy (g.N.WalkNodes.rest c.args.nodes) c.args.next) c.args.done) =
    c.finalize-digest.ensures _ before.2 ∙ ap sha256 whole in
    c.from_be_bytes.ensures ∙ first_eight c.finalize-digest.result ∙ ap (λ d. from_be_bytes w64 (take 8 d)) digest
