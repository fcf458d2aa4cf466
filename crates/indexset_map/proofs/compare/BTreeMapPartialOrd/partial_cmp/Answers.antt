use Rattle.std.proofs.Common.{◌≡◌, ◌∙◌, Some, refl, rules}
use Rattle.std.specs.declared.cmp.Ordering.TheVariants.{Equal}
use Rattle.std.specs.Ordering.{partial_ordering_then}
use Rattle.indexset_map.proofs.CompareLemmas.{past_partial_equal}
use Rattle.indexset_map.proofs.compare.BTreeMapPartialOrd.partial_cmp.Goals as goal

pub loop-key-preserved : goal.loop-key-preserved
loop-key-preserved g c =
    let keys : g.K.PartialOrd.partial_cmp c.in-Some.key.now c.in-Some-next.other_key.now ≡ Some Equal = search rules in
    let values : g.V.PartialOrd.partial_cmp c.in-Some.value.now c.in-Some-next.other_value.now ≡ Some Equal = search rules in
    past_partial_equal _ _ _ _ _ _ c.in-Some.ensures.steps c.in-Some-next.ensures.steps (λ p q.
    partial_ordering_then (g.K.PartialOrd.partial_cmp p.key q.key) (g.V.PartialOrd.partial_cmp p.value q.value))
    (rw (keys, values) refl)
    ∙ c.loop-key.invariant
