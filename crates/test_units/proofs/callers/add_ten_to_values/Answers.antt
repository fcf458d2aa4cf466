use Rattle.std.proofs.Common.{◌≡◌, map, rules, arith}
use Rattle.indexset_map.specs.Contents.{with_pairs}
use Rattle.indexset_map.specs.ValuesWalk.{values_walk}
use Rattle.indexset_map.specs.Walk.{walk_map}
use Rattle.indexset_map.proofs.CallerLemmas.{all_written, nothing_written, value_written}
use Rattle.test_units.specs.Callers.{more, raised}
use Rattle.test_units.proofs.callers.add_ten_to_values.Goals as goal

pub loop-value-init : goal.loop-value-init
loop-value-init c = let first = c.values_mut-values.ensures.front in nothing_written (λ p. more 10 p.value) (values_walk c.values_mut-values.result) (omega (arith, first))

pub loop-value-preserved : goal.loop-value-preserved
loop-value-preserved c =
    let told = (c.in-Some.ensures {u = tt}).value in
    value_written (λ p. more 10 p.value) (values_walk c.values_mut-values.result) (values_walk c.loop-value.values)
    c.loop-value.invariant c.in-Some.value.now _ told.0 told.1 (λ k. c.saturating_add.ensures)

pub returns : goal.returns
returns c =
    let start = c.values_mut-values.ensures in
    let done : (walk_map (values_walk c.loop-value.values)).now ≡ with_pairs c.args.m.now (map (raised 10) c.args.m.now.pairs) =
    all_written (λ p. more 10 p.value) (values_walk c.values_mut-values.result) (values_walk c.loop-value.values)
    c.loop-value.invariant (c.in_default.ensures {u = tt}).value c.args.m.now start.unchanged start.front
    start.back in
    search rules
