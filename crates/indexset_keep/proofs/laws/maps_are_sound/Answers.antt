use Rattle.indexset_keep.proofs.Roles.{map_sound}
use Rattle.indexset_keep.proofs.Starts.{first_sound}
use Rattle.indexset_keep.proofs.laws.maps_are_sound.Goals as goal

pub returns-clause-first : goal.returns-clause-first
returns-clause-first g c = first_sound g.T.Ord.cmp g.T.Item.texts g.met.T.Ord.total g.met.T.Token.tokens

pub returns-clause-stays : goal.returns-clause-stays
returns-clause-stays g c = map_sound g.T.Ord.cmp g.T.Item.texts g.met.T.Ord.total g.met.T.Token.tokens
