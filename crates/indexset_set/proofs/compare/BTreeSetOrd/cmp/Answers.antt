use Rattle.std.proofs.Common.{◌≡◌, refl, ◌∙◌}
use Rattle.std.proofs.lemmas.Iterator.Consumers.{YieldsList-from_rest}
use Rattle.std.proofs.lemmas.Iterator.Search.{cmp_from_yields_List}
use Rattle.indexset_spine.specs.NodeList.{items}
use Rattle.indexset_set.proofs.compare.BTreeSetOrd.cmp.Goals as goal

pub returns : goal.returns
returns g c =
    rw (← c.self.view_is, ← c.other.view_is)
    (cmp_from_yields_List (λ x y. y ≡ x) _ g.T.Ord.cmp _ c.cmp.ensures.ran
    (YieldsList-from_rest (items c.self.inside.spine) c.iter.ensures.rest)
    (λ it e. YieldsList-from_rest (items c.other.inside.spine) (e ∙ c.iter-2.ensures.rest)) (λ x y. refl))
