use Rattle.std.proofs.Common.{rules, arith, ◌≡◌, [], ◌∷◌, ◌++◌, OnOk, refl, subst, take}
use Rattle.std.proofs.KnownBytes.{Appends-nil, Appends-trans}
use Rattle.std.proofs.lemmas.List.{take_all}
use Rattle.std.proofs.lemmas.Result.{on_ok_weaker}
use Rattle.std.specs.Io.KnownBytes.{Appends}
use Rattle.indexset_bench.specs.PairText.{node_text, pair_text}
use Rattle.indexset_bench.proofs.Written.{more_joined, next_lead, on_ok_given}
use Rattle.indexset_bench.proofs.write.write_node.Goals as goal

pub loop-pair-init : goal.loop-pair-init
loop-pair-init g c = (([], (refl, refl)), refl, Appends-nil _)

pub loop-pair-preserved : goal.loop-pair-preserved
unfolding lib.Utf8.encode
loop-pair-preserved g c =
    let node = c.args.node.now in
    let told = on_ok_given _ c.write.result _ c.write.ensures.bytes (search rules) in
    let shown = subst (λ p. Appends (g.W.Write.contents c.loop-pair.writer) (g.W.Write.contents c.write.new.self) (c.loop-pair.lead.now ++ pair_text g.T.Item.texts p)) c.pair-item.is told in (
      (32 ∷ [], (refl, refl)),
      next_lead node c.loop-pair.pair-index (omega arith),
      more_joined (pair_text g.T.Item.texts) node c.loop-pair.pair-index c.pair-item.result (omega arith) c.loop-pair.lead.now _ _ _ c.loop-pair.invariant.1 c.loop-pair.invariant.2 shown,
    )

pub returns-clause-told : goal.returns-clause-told
returns-clause-told g c =
    let node = c.args.node.now in
    let all : take c.loop-pair.pair-index node ≡ node = take_all _ _ c.loop-pair-test.false in
    let far : Appends (g.W.Write.contents c.args.writer.now) (g.W.Write.contents c.loop-pair.writer) (node_text g.T.Item.texts node) = rw all at c.loop-pair.invariant.2 in
    let last : OnOk c.map_err-2.result (Appends (g.W.Write.contents c.loop-pair.writer) (g.W.Write.contents c.writeln.new.self) (10 ∷ [])) = search rules in
    on_ok_weaker c.map_err-2.result (Appends-trans _ _ _ (node_text g.T.Item.texts node) (10 ∷ []) far) last
