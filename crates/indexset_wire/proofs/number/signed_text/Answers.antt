use Rattle.std.proofs.Common.{sym, ◌∙◌, ◌^◌}
use Rattle.std.proofs.lemmas.Bool.{le-leb}
use Rattle.indexset_wire.specs.Numbers.{signed_below}
use Rattle.indexset_wire.specs.Numbers.Laws.{signed_utf8}
use Rattle.indexset_wire.specs.Parts.Laws.{some_is}
use Rattle.indexset_wire.proofs.number.signed_text.Goals as goal

pub returns-in-Ok : goal.returns-in-Ok
returns-in-Ok c = (c.in-Ok.ensures.cases.0, some_is (signed_below c.args.half c.args.text.now) (sym c.is_signed.ensures ∙ c.if-not-is_signed.false))

pub returns-in-Err : goal.returns-in-Err
returns-in-Err c =
    let some = some_is (signed_below c.args.half c.args.text.now) (sym c.is_signed.ensures ∙ c.if-not-is_signed.false) in
    absurd (c.in-Err.ensures.cases.0 (signed_utf8 c.args.half (le-leb c.args.half (2 ^ 63) c.requires) c.args.text.now some.0 some.1))
