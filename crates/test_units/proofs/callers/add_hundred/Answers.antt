use Rattle.std.proofs.Common.{◌≡◌, ◌<◌, map, rules}
use Rattle.std.specs.declared.ops.Bound.TheVariants.{Included, Excluded}
use Rattle.std.specs.Ordering.{nat_cmp}
use Rattle.indexset_core.specs.KeyRange.{is_within}
use Rattle.indexset_map.specs.Contents.{with_pairs}
use Rattle.indexset_map.specs.Walk.{walk_back, walk_front, walk_map}
use Rattle.indexset_map.proofs.CallerLemmas.{nothing_written, pair_written, range_written}
use Rattle.test_units.specs.Callers.{more, raised_within}
use Rattle.test_units.proofs.callers.add_hundred.Goals as goal

pub loop-walk-init : goal.loop-walk-init
loop-walk-init c = nothing_written (λ p. more 100 p.value) c.range_mut-walk.result c.range_mut-walk.ensures.span.order

pub loop-walk-preserved : goal.loop-walk-preserved
loop-walk-preserved c =
    let low : walk_front c.loop-walk.walk < walk_back c.loop-walk.walk = search rules in
    pair_written (λ p. more 100 p.value) c.range_mut-walk.result c.loop-walk.walk c.loop-walk.invariant _ c.next_pair-value.result.1.now _ low c.next_pair-value.ensures.value (search rules)

pub returns : goal.returns
returns c =
    let start = c.range_mut-walk.ensures in
    let done : (walk_map c.loop-walk.walk).now ≡ with_pairs c.args.m.now (map (raised_within (Included c.args.from) (Excluded c.args.below) 100) c.args.m.now.pairs) =
    range_written (λ p. more 100 p.value) c.range_mut-walk.result c.loop-walk.walk c.loop-walk.invariant
    (search rules) c.args.m.now start.unchanged
    (λ p. is_within nat_cmp (Included c.args.from) (Excluded c.args.below) p.key) start.span in
    search rules
