use Rattle.std.proofs.Common.{◌≡◌, ◌∙◌, Some, sym, ap, subst}
use Rattle.std.proofs.lemmas.Result.{on_ok_weaker}
use Rattle.std.specs.Io.KnownBytes.{Appends}
use Rattle.indexset_spine.specs.NodeList.{items}
use Rattle.indexset_bench.specs.Command.{meaning}
use Rattle.indexset_bench.specs.Pairs.{reply_ended}
use Rattle.indexset_bench.specs.Reply.{AddsNew, contents_after, reply_to}
use Rattle.indexset_bench.specs.Text.{stores}
use Rattle.indexset_wire.specs.Texts.{number_texts}
use Rattle.indexset_bench.proofs.PairChanges.{numbers_change, numbers_left, numbers_reply}
use Rattle.indexset_bench.proofs.PairMeanings.{no_pairs_meant}
use Rattle.indexset_bench.proofs.program.answer_line.Goals as goal

pub returns-in-Some-clause-held : goal.returns-in-Some-clause-held
returns-in-Some-clause-held g c =
    let set = items c.args.set.now in
    let meant : meaning c.args.line.now ≡ Some c.in-Some.command = sym c.parse.ensures ∙ c.in-Some.is in
    let after = numbers_left set c.args.pairs.now c.args.line.now (no_pairs_meant c.args.line.now c.in-Some.command meant) in
    on_ok_weaker c.answer_numbers.result (λ e. ap (λ s. stores s c.args.pairs.now) (e ∙ ap (contents_after set) (sym meant)) ∙ sym after) c.answer_numbers.ensures.set

pub returns-in-Some-clause-told : goal.returns-in-Some-clause-told
returns-in-Some-clause-told g c =
    let set = items c.args.set.now in
    let meant : meaning c.args.line.now ≡ Some c.in-Some.command = sym c.parse.ensures ∙ c.in-Some.is in
    let reply = numbers_reply set c.args.pairs.now c.args.line.now (no_pairs_meant c.args.line.now c.in-Some.command meant) in
    on_ok_weaker c.answer_numbers.result (subst (Appends _ _) (ap (λ m. reply_ended number_texts (reply_to set m)) (sym meant) ∙ sym reply)) c.answer_numbers.ensures.told

pub returns-in-Some-clause-only_changes : goal.returns-in-Some-clause-only_changes
returns-in-Some-clause-only_changes g c refused =
    let set = items c.args.set.now in
    let meant : meaning c.args.line.now ≡ Some c.in-Some.command = sym c.parse.ensures ∙ c.in-Some.is in
    numbers_change set c.args.pairs.now c.args.line.now (no_pairs_meant c.args.line.now c.in-Some.command meant) (subst (AddsNew set) (sym meant) (c.answer_numbers.ensures.only_new refused))
