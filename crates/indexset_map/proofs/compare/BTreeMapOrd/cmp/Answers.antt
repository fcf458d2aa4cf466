use Rattle.std.proofs.Common.{◌≡◌, ◌∙◌, rules}
use Rattle.std.specs.declared.cmp.Ordering.TheVariants.{Equal}
use Rattle.std.specs.Ordering.{ordering_then}
use Rattle.indexset_map.proofs.CompareLemmas.{past_equal}
use Rattle.indexset_map.proofs.compare.BTreeMapOrd.cmp.Goals as goal

pub loop-key-preserved : goal.loop-key-preserved
loop-key-preserved g c =
    let equal : ordering_then (g.K.Ord.cmp c.in-Some.key.now c.in-Some-next.other_key.now) (g.V.Ord.cmp c.in-Some.value.now c.in-Some-next.other_value.now) ≡ Equal = search rules in
    past_equal _ _ _ _ _ _ c.in-Some.ensures.steps c.in-Some-next.ensures.steps (λ p q. ordering_then (g.K.Ord.cmp p.key q.key) (g.V.Ord.cmp p.value q.value)) equal ∙ c.loop-key.invariant
