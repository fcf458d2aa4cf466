use Rattle.std.proofs.Common.{◌≡◌, ◌+◌, ◌*◌, ◌-◌, length, map, min, ap, arith}
use Rattle.indexset_core.specs.Nodes.{node_lengths}
use Rattle.indexset_index.specs.Fenwick.{prefix_sum}
use Rattle.indexset_index.proofs.BlockLemmas.{block-end, block-read}
use Rattle.indexset_index.proofs.LengthLemmas.{length-lengths}
use Rattle.indexset_index.proofs.blocks.sum_of_block.Goals as goal

pub returns : goal.returns
returns g c =
    let ls = node_lengths (map g.R.NodeItems.list c.args.nodes.now) in
    let count = length-lengths g.R.NodeItems.list c.args.nodes.now in
    let j = c.args.block in
    let e : 32 * j + c.min.result ≡ 32 * j + min (length ls - 32 * j) 32 = omega (arith, c.min.ensures, count) in
    omega (arith, c.sum_between.ensures, ap (prefix_sum ls) e, block-end ls j, block-read ls j (omega (arith, c.requires.block, count)))
