use Rattle.std.proofs.Common.{w64, refl, ◌∙◌}
use Rattle.indexset_wire.specs.Numbers.Laws.{signed_parsed}
use Rattle.indexset_wire.proofs.integers.I64Item.read.Goals as goal

pub returns-in-Some-clause-value : goal.returns-in-Some-clause-value
returns-in-Some-clause-value c =
    let made = c.in-Some.ensures in
    c.ok.ensures.value ∙ signed_parsed w64 c.args.text.now c.in-Some.plain.now c.parse.result made.1.0 refl made.1.1 made.0 c.parse.ensures.value.0
