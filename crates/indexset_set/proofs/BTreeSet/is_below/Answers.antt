use Rattle.std.proofs.Common.{refl}
use Rattle.indexset_spine.specs.NodeList.{items}
use Rattle.indexset_set.proofs.SetAppendLemmas.{before_none, behind_none, ends_tell, some}
use Rattle.indexset_set.proofs.BTreeSet.is_below.Goals as goal

pub returns-in_default-clause-value : goal.returns-in_default-clause-value
returns-in_default-clause-value g c =
    rw (← c.self.view_is, ← c.other.view_is) ((λ _. before_none g.T.Ord.cmp (items c.self.inside.spine) (items c.other.inside.spine) c.in_default.ensures' c.self.invariant), (λ _. refl))

pub returns-in_default-2-clause-value : goal.returns-in_default-2-clause-value
returns-in_default-2-clause-value g c =
    let none = rw c.in_default.is-0 at c.last_spot.ensures in
    rw (← c.self.view_is, ← c.other.view_is) ((λ _. behind_none g.T.Ord.cmp (items c.self.inside.spine) (items c.other.inside.spine) none c.other.invariant), (λ _. refl))

pub returns : goal.returns
returns g c =
    let last = rw c.in-Some-Some.ensures.1 at c.item.ensures in
    let first = rw c.in-Some-Some.ensures'.1 at c.item-2.ensures in
    rw (← c.self.view_is, ← c.other.view_is, c.is_lt.ensures, c.cmp.ensures) (record {
      value = ends_tell g.T.Ord.cmp _ _ _ _ last first g.met.T.Ord.total c.self.invariant c.other.invariant;
      some = λ _. some g.T.Ord.cmp (items c.self.inside.spine) (items c.other.inside.spine) _ _ last first;
    })
