use Rattle.std.proofs.Common.{◌≡◌, ◌<◌, map, rules, arith}
use Rattle.indexset_map.specs.Contents.{with_pairs}
use Rattle.indexset_map.specs.Walk.{walk_back, walk_front, walk_map}
use Rattle.indexset_map.proofs.CallerLemmas.{all_written, nothing_written, pair_written}
use Rattle.test_units.specs.Callers.{more, raised}
use Rattle.test_units.proofs.callers.add_ten.Goals as goal

pub loop-walk-init : goal.loop-walk-init
loop-walk-init c = let first = c.iter_mut-walk.ensures.front in nothing_written (λ p. more 10 p.value) c.iter_mut-walk.result (omega (arith, first))

pub loop-walk-preserved : goal.loop-walk-preserved
loop-walk-preserved c =
    let low : walk_front c.loop-walk.walk < walk_back c.loop-walk.walk = search rules in
    pair_written (λ p. more 10 p.value) c.iter_mut-walk.result c.loop-walk.walk c.loop-walk.invariant _ c.next_pair-value.result.1.now _ low c.next_pair-value.ensures.value (search rules)

pub returns : goal.returns
returns c =
    let start = c.iter_mut-walk.ensures in
    let done : (walk_map c.loop-walk.walk).now ≡ with_pairs c.args.m.now (map (raised 10) c.args.m.now.pairs) =
    all_written (λ p. more 10 p.value) c.iter_mut-walk.result c.loop-walk.walk c.loop-walk.invariant (search rules) c.args.m.now start.unchanged start.front start.back in search rules
