use Rattle.indexset_replica.proofs.PrefixLemmas.{all_places}
use Rattle.indexset_replica.proofs.laws.all_places_in_turn.Goals as goal

pub returns : goal.returns
returns c = all_places
