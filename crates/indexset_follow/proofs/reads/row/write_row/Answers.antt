use Rattle.std.proofs.Common.{rules, arith, Option, ◌≡◌, ◌≢◌, ◌∙◌, ◌++◌, ◌∷◌, [], OnOk, map, ℕ, List, refl, ap, subst, sym, append-nil}
use Rattle.std.proofs.KnownBytes.{Appends-nil, Appends-trans}
use Rattle.std.proofs.lemmas.Grind.{common_steps}
use Rattle.std.proofs.lemmas.Result.{on_ok_weaker}
use Rattle.std.specs.Io.KnownBytes.{Appends}
use Rattle.indexset_bench.proofs.CallerLemmas.{lead_after, on_ok_given, one_read}
use Rattle.indexset_wire.specs.Texts.{Texts}
use Rattle.indexset_bench.specs.PairText.{node_text, pair_text}
use Rattle.indexset_core.specs.Pairs.{pair}
use Rattle.indexset_core.specs.declared.pair.Pair.{Pair}
use Rattle.indexset_follow.specs.Reads.{row_text}
use Rattle.indexset_follow.specs.Reply.{reply_ended}
use Rattle.indexset_follow.specs.declared.reply.Reply.TheVariants.{Nothing}
use Rattle.indexset_follow.proofs.Rows.{lead_now, one_joined, row_full}
use Rattle.indexset_follow.proofs.reads.row.write_row.Goals as goal

module _ {T : Type 0} where
  -- the pair of a key and a value
  abbrev read : T × T → Pair T T
  read e = pair e.0 e.1

  -- there were no pairs
  row_none : (texts : Texts T) (done : List (T × T)) (all : List (Pair T T)) (lead : List ℕ) → lead ≡ lead_after (map read done) → lead ≡ [] → map read done ++ [] ≡ all → (w w1 w2 : Option (List ℕ))
      → Appends w w1 (node_text texts (map read done)) → Appends w1 w2 (reply_ended Nothing) → Appends w w2 (row_text texts all)
  row_none texts [] all lead led none walked w w1 w2 far told = subst (λ ps. Appends w w2 (row_text texts ps)) walked (Appends-trans w w1 w2 [] (reply_ended Nothing) far told)
  row_none texts (e ∷ done) all lead led none walked w w1 w2 far told = absurd (cc)

pub loop-key-init : goal.loop-key-init
loop-key-init g c = (([], (refl, refl)), ([], refl, refl, Appends-nil _))

pub loop-key-preserved : goal.loop-key-preserved
unfolding lib.Utf8.encode
loop-key-preserved g c =
    let before = c.loop-key.invariant.1 in
    let entry : g.row.T.Denot × g.row.T.Denot = (c.in-Some.key.now, c.in-Some.value.now) in
    let told = on_ok_given _ c.write.result _ c.write.ensures.bytes (search rules) in
    let next : g.P.Walk.rest c.loop-key.walk ≡ read entry ∷ g.P.Walk.rest c.next_entry.new.self = search rules in (
      (32 ∷ [], (refl, refl)),
      (
        before.0 ++ entry ∷ [],
        lead_now (pair_text g.T.Item.texts) read before.0 entry,
        one_read (pair_text g.T.Item.texts) read before.0 entry _ _ _ before.2 next,
        one_joined (pair_text g.T.Item.texts) read before.0 entry c.loop-key.lead.now _ _ _ before.1 before.3 told,
      ),
    )

pub returns-then-is_empty-clause-told : goal.returns-then-is_empty-clause-told
returns-then-is_empty-clause-told g c =
    let before = c.loop-key.invariant.1 in
    let none : g.P.Walk.rest c.loop-key.walk ≡ [] = search rules in
    let empty : c.loop-key.lead.now ≡ [] = grind (arith, common_steps) in
    let walked = rw none at before.2 in
    on_ok_weaker c.write_reply.result (row_none g.T.Item.texts before.0 _ c.loop-key.lead.now before.1 empty walked _ _ _ before.3) c.write_reply.ensures.told

pub returns-clause-told : goal.returns-clause-told
returns-clause-told g c =
    let before = c.loop-key.invariant.1 in
    let none : g.P.Walk.rest c.loop-key.walk ≡ [] = search rules in
    let some : c.loop-key.lead.now ≢ [] = grind (arith, common_steps) in
    let same : map read before.0 ≡ g.P.Walk.rest c.args.pairs = sym (append-nil (map read before.0)) ∙ ap (λ l. map read before.0 ++ l) (sym none) ∙ before.2 in
    let far = subst (λ ps. Appends (g.W.Write.contents c.args.writer.now) (g.W.Write.contents c.loop-key.writer) (node_text g.T.Item.texts ps)) same before.3 in
    let last : OnOk c.map_err-else-is_empty.result (Appends (g.W.Write.contents c.loop-key.writer) (g.W.Write.contents c.writeln.new.self) (10 ∷ [])) = search rules in
    on_ok_weaker c.map_err-else-is_empty.result (row_full g.T.Item.texts (g.P.Walk.rest c.args.pairs) _ _ _ (λ e. some (before.1 ∙ ap lead_after same ∙ e)) far) last
