use Rattle.std.proofs.Common.{◌≡◌, ◌∙◌, ap, subst}
use Rattle.std.specs.Fmt.{HasWritten}
use Rattle.indexset_text.specs.Names.{name_text}
use Rattle.indexset_text.specs.Names.Laws.{others_escaped}
use Rattle.indexset_text.proofs.name.NameDisplay.fmt.Goals as goal

pub returns-clause-writes : goal.returns-clause-writes
returns-clause-writes g c plain ok =
    let bytes : c.as_bytes.result.now ≡ c.args.self.now = c.as_bytes.ensures ∙ c.self.view_is in
    let text = c.percent_encode-shown.ensures.text ∙ others_escaped c.escaped.result c.escaped.ensures c.as_bytes.result.now ∙ ap name_text bytes in
    subst (λ t. HasWritten g.W.Write.write_str_gives c.args.f.now t c.write.new.self) text (c.write.ensures.writes plain ok)
