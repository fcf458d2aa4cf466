use Rattle.std.proofs.Common.{◌∙◌, ap}
use Rattle.indexset_follow.specs.Mark.{mark_of}
use Rattle.indexset_follow.proofs.MarkLines.{mark_sound, mark_told}
use Rattle.indexset_follow.proofs.laws.mark_meaning_is_spelling.Goals as goal

pub returns-clause-spelled : goal.returns-clause-spelled
returns-clause-spelled c = λ line m fit. ((λ told. (mark_sound line m told).0), (λ is. ap mark_of is ∙ mark_told m fit))

pub returns-clause-fits : goal.returns-clause-fits
returns-clause-fits c = λ line m told. (mark_sound line m told).1
