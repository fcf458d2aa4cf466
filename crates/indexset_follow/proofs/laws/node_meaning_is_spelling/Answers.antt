use Rattle.std.proofs.Common.{◌∙◌, ap}
use Rattle.indexset_follow.specs.NodeLine.{node_of}
use Rattle.indexset_follow.proofs.NodeLines.{node_sound, node_told}
use Rattle.indexset_follow.proofs.laws.node_meaning_is_spelling.Goals as goal

pub returns-clause-spelled : goal.returns-clause-spelled
returns-clause-spelled g c =
    λ line n fit. (
      (λ told. (node_sound g.T.Item.texts g.met.T.Token.tokens line n told).0),
      (λ is. ap (node_of g.T.Item.texts) is ∙ node_told g.T.Item.texts g.met.T.Token.tokens n fit),
    )

pub returns-clause-fits : goal.returns-clause-fits
returns-clause-fits g c = λ line n told. (node_sound g.T.Item.texts g.met.T.Token.tokens line n told).1
