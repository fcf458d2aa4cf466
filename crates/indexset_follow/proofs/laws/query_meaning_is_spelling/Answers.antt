use Rattle.std.proofs.Common.{◌∙◌, ap}
use Rattle.indexset_follow.specs.Query.{query_of}
use Rattle.indexset_follow.proofs.QueryLines.{query_sound, query_told}
use Rattle.indexset_follow.proofs.laws.query_meaning_is_spelling.Goals as goal

pub returns-clause-spelled : goal.returns-clause-spelled
returns-clause-spelled g c =
    λ line q fit. (
      (λ told. (query_sound g.T.Item.texts g.met.T.Token.tokens line q told).0),
      (λ is. ap (query_of g.T.Item.texts) is ∙ query_told g.T.Item.texts g.met.T.Token.tokens q fit),
    )

pub returns-clause-fits : goal.returns-clause-fits
returns-clause-fits g c = λ line q told. (query_sound g.T.Item.texts g.met.T.Token.tokens line q told).1
