use Rattle.std.proofs.Common.{◌≡◌, ◌-◌, Some, length, slice_get}
use Rattle.indexset_set.proofs.SetEndLemmas.{all_up_to_last, last_greatest, last_held}
use Rattle.indexset_spine.specs.NodeList.{items}
use Rattle.indexset_set.proofs.BTreeSet.last.Goals as goal

-- the item at the last spot is that at the last position
there : (g : _) (c : goal.After-item g) → slice_get (items c.self.inside.spine) (length (items c.self.inside.spine) - 1) ≡ Some c.item.result.now
there g c = rw c.in_ok-spot.ensures.1 at c.item.ensures

pub returns-clause-greatest : goal.returns-clause-greatest
returns-clause-greatest g c = rw (← c.self.view_is) (last_greatest g.T.Ord.cmp g.met.T.Ord.total _ c.self.invariant c.item.result.now (there g c))

pub returns-clause-held : goal.returns-clause-held
returns-clause-held g c = rw (← c.self.view_is) (last_held g.T.Ord.cmp g.met.T.Ord.total _ c.self.invariant c.item.result.now (there g c))

pub returns-clause-all_up_to : goal.returns-clause-all_up_to
returns-clause-all_up_to g c = rw (← c.self.view_is) (all_up_to_last g.T.Ord.cmp g.met.T.Ord.total _ c.self.invariant c.item.result.now (there g c))
