use Rattle.indexset_core.proofs.CallerLemmas.{told_has_equal}
use Rattle.indexset_set.proofs.BTreeSet.contains.Goals as goal

pub returns : goal.returns
returns g c = rw (← c.self.view_is) (told_has_equal _ _ _ _ _ c.locate.ensures.found c.locate.ensures.gap)
