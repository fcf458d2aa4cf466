use Rattle.std.proofs.Common.{◌∙◌, ap}
use Rattle.indexset_follow.specs.EventLine.{event_of}
use Rattle.indexset_follow.proofs.EventLines.{event_sound, event_told}
use Rattle.indexset_follow.proofs.laws.event_meaning_is_spelling.Goals as goal

pub returns-clause-spelled : goal.returns-clause-spelled
returns-clause-spelled g c =
    λ line e fit. (
      (λ told. (event_sound g.T.Item.texts g.met.T.Token.tokens line e told).0),
      (λ is. ap (event_of g.T.Item.texts) is ∙ event_told g.T.Item.texts g.met.T.Token.tokens e fit),
    )

pub returns-clause-fits : goal.returns-clause-fits
returns-clause-fits g c = λ line e told. (event_sound g.T.Item.texts g.met.T.Token.tokens line e told).1
