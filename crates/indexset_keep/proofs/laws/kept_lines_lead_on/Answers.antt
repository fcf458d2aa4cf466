use Rattle.std.proofs.Common.{ap, ◌∙◌}
use Rattle.indexset_follow.specs.Follow.{start_state, state_after}
use Rattle.indexset_follow.specs.Store.{input_reply}
use Rattle.indexset_keep.specs.Told.{kept_by}
use Rattle.indexset_keep.proofs.Roles.{kept_on}
use Rattle.indexset_keep.proofs.States.{more_lines}
use Rattle.indexset_keep.proofs.laws.kept_lines_lead_on.Goals as goal

pub returns : goal.returns
returns g c v h line kept sound fits leads =
    let more = kept_by g.T.Ord.cmp g.T.Item.texts (input_reply g.T.Ord.cmp g.T.Item.texts v) h line in
    more_lines g.T.Ord.cmp g.T.Item.texts (start_state 0) kept more
    ∙ ap (λ s. state_after g.T.Ord.cmp g.T.Item.texts s more) leads
    ∙ kept_on g.T.Ord.cmp g.T.Item.texts g.met.T.Ord.total g.met.T.Token.tokens v h line sound fits
