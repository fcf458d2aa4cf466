use Rattle.std.proofs.Common.{rules, ◌≡◌, ◌∙◌, ◌+◌, ◌∷◌, ◌++◌, [], ap, arith, append_assoc, sym, take}
use Rattle.std.proofs.lemmas.List.{map_more, take_all}
use Rattle.std.specs.Hash.DefaultHasher as sip
use Rattle.indexset_bench.specs.PairText.{ended, lines_for}
use Rattle.indexset_follow.proofs.Rows.{line_push}
use Rattle.indexset_journal.specs.Kept.{texts}
use Rattle.indexset_keep.specs.Seal.{seal_line, seal_of}
use Rattle.indexset_keep.proofs.Seals.{hashed, hashed_none}
use Rattle.indexset_keep.proofs.seal.seal_of.Goals as goal
use Rattle.indexset_keep.proofs.seal.seal_of.Goals.{then-len-ge-TOGETHER, else-len-ge-TOGETHER}

pub loop-line-preserved : goal.loop-line-preserved
loop-line-preserved c =
    let i = c.loop-line.line-index in
    let lines = c.args.lines.now in
    let item = c.line-item.result in
    let text = c.loop-line.text.items in
    let hasher = c.loop-line.hasher in
    let front = ended (seal_line c.args.seal) in
    let all = c.push-in-loop-line.new.self.items in
    let grown : all ≡ (text ++ item.items) ++ 10 ∷ [] = search rules in
    let more : texts (take (i + 1) lines) ≡ texts (take i lines) ++ item.items ∷ [] =
    map_more (λ v. v.items) lines i item (omega (arith, c.loop-line-test.true))
    ∙ ap (λ v. texts (take i lines) ++ v.items ∷ []) (sym c.line-item.is) in
    let before = front ++ lines_for (λ line. line) (texts (take i lines)) in
    let both : sip.write hasher all ≡ sip.write sip.initial (front ++ lines_for (λ line. line) (texts (take (i + 1) lines))) =
    ap (sip.write hasher) (grown ∙ append_assoc text item.items (10 ∷ []))
    ∙ hashed hasher text (ended item.items)
    ∙ ap (λ h. sip.write h (ended item.items)) c.loop-line.invariant
    ∙ sym (hashed sip.initial before (ended item.items))
    ∙ ap (sip.write sip.initial) (line_push (λ line. line) front (texts (take i lines)) item.items ∙ ap (λ ls. front ++ lines_for (λ line. line) ls) (sym more)) in
    let now = c.if-len-ge-TOGETHER in
    elim c.if-len-ge-TOGETHER.branch [
      | then-len-ge-TOGETHER w ↦
          ap (λ t. sip.write now.hasher t.items) w.text-is
          ∙ ap (sip.write now.hasher) w.clear.ensures.items
          ∙ hashed_none now.hasher
          ∙ w.hasher-is
          ∙ w.write.ensures
          ∙ ap (sip.write hasher) w.as_slice-then-len-ge-TOGETHER.ensures.value
          ∙ both
      | else-len-ge-TOGETHER w ↦ ap (λ t. sip.write now.hasher t.items) w.text-is ∙ ap (λ h. sip.write h all) w.hasher-is ∙ both
    ]

pub returns-clause-seal : goal.returns-clause-seal
unfolding seal_of
returns-clause-seal c =
    let front = ended (seal_line c.args.seal) in
    c.finish.ensures
    ∙ ap sip.finish
    (c.write-2.ensures
    ∙ ap (sip.write c.loop-line.hasher) c.as_slice-2.ensures.value
    ∙ c.loop-line.invariant
    ∙ ap (λ ls. sip.write sip.initial (front ++ lines_for (λ line. line) (texts ls))) (take_all c.loop-line.line-index c.args.lines.now c.loop-line-test.false))
