use Rattle.std.proofs.Common.{◌≡◌, ◌+◌, map, ap, arith}
use Rattle.indexset_core.specs.Nodes.{node_lengths}
use Rattle.indexset_index.specs.Fenwick.{prefix_sum}
use Rattle.indexset_index.proofs.BlockLemmas.{prefix-next}
use Rattle.indexset_index.proofs.PrefixLemmas.{prefix-le}
use Rattle.indexset_index.proofs.blocks.sum_between.Goals as goal

pub overflow_add-total : goal.overflow_add-total
overflow_add-total g c =
    let ls = node_lengths (map g.R.NodeItems.list c.args.nodes.now) in
    record { fits = omega (arith, c.loop-i.invariant.value, prefix-next ls c.loop-i.i, prefix-le ls (c.loop-i.i + 1)) }

pub loop-i-preserved : goal.loop-i-preserved
loop-i-preserved g c =
    let ls = node_lengths (map g.R.NodeItems.list c.args.nodes.now) in
    record {
      value = omega (arith, c.loop-i.invariant.value, prefix-next ls c.loop-i.i);
      within = omega arith;
    }

pub returns : goal.returns
returns g c =
    let ls = node_lengths (map g.R.NodeItems.list c.args.nodes.now) in
    let e : c.loop-i.i ≡ c.args.end = omega (arith, c.loop-i.invariant.within) in
    omega (arith, c.loop-i.invariant.value, ap (prefix_sum ls) e)
