use Rattle.std.proofs.Common.{◌≡◌, Some, slice_get}
use Rattle.indexset_set.proofs.SetEndLemmas.{all_from_first, first_held, first_least}
use Rattle.indexset_spine.specs.NodeList.{items}
use Rattle.indexset_set.proofs.BTreeSet.first.Goals as goal

-- the item at the first spot is that at position 0
there : (g : _) (c : goal.After-item g) → slice_get (items c.self.inside.spine) 0 ≡ Some c.item.result.now
there g c = rw c.in_ok-spot.ensures.1 at c.item.ensures

pub returns-clause-least : goal.returns-clause-least
returns-clause-least g c = rw (← c.self.view_is) (first_least g.T.Ord.cmp g.met.T.Ord.total _ c.self.invariant c.item.result.now (there g c))

pub returns-clause-held : goal.returns-clause-held
returns-clause-held g c = rw (← c.self.view_is) (first_held g.T.Ord.cmp g.met.T.Ord.total _ c.self.invariant c.item.result.now (there g c))

pub returns-clause-all_from : goal.returns-clause-all_from
returns-clause-all_from g c = rw (← c.self.view_is) (all_from_first g.T.Ord.cmp g.met.T.Ord.total _ c.self.invariant c.item.result.now (there g c))
