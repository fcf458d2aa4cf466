use Rattle.indexset_text.specs.Names.Laws.{four_removed}
use Rattle.indexset_text.proofs.name.escaped.Goals as goal

pub returns : goal.returns
returns c =
    four_removed c.remove-dash.result c.remove-dot.result c.remove-line.result c.remove.result
    (record { removed = c.remove-dash.ensures.removed; others = c.remove-dash.ensures.others })
    (record { removed = c.remove-dot.ensures.removed; others = c.remove-dot.ensures.others })
    (record { removed = c.remove-line.ensures.removed; others = c.remove-line.ensures.others })
    (record { removed = c.remove.ensures.removed; others = c.remove.ensures.others })
