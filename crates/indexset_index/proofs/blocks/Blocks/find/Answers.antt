use Rattle.std.proofs.Common.{◌≡◌, ◌+◌, ◌*◌, ◌<◌, length, map, sum, ap, ◌∙◌, arith}
use Rattle.indexset_core.specs.Nodes.{node_lengths}
use Rattle.indexset_index.specs.Blocks.{block_count}
use Rattle.indexset_index.specs.Fenwick.{prefix_sum}
use Rattle.indexset_index.proofs.BlockLemmas.{block-read, count-blocks, prefix-blocks, sum-blocks}
use Rattle.indexset_index.proofs.LengthLemmas.{length-lengths}
use Rattle.indexset_index.proofs.PrefixLemmas.{prefix-le}
use Rattle.indexset_index.proofs.blocks.Blocks.find.Given.{Over}
use Rattle.indexset_index.proofs.blocks.Blocks.find.Goals as goal

-- the position of the block
at : (g : Over) (c : goal.In_ok-block g) → let ls = node_lengths (map g.R.NodeItems.list c.args.nodes.now) in
    (c.in_ok-block.block < block_count (length c.args.nodes.now))
    × (prefix_sum ls (32 * c.in_ok-block.block) + c.in_ok-block.offset ≡ c.args.position) × (c.args.position < sum ls)
at g c =
    let ls = node_lengths (map g.R.NodeItems.list c.args.nodes.now) in
    let count = length-lengths g.R.NodeItems.list c.args.nodes.now in
    let seen = ap (λ v. v.sums) c.self.view_is ∙ c.requires.sums in
    let found = rw seen at c.in_ok-block.ensures in
    let inside : c.in_ok-block.block < block_count (length ls) = omega (arith, found.0, count-blocks ls) in
    let before = prefix-blocks ls c.in_ok-block.block (omega (arith, inside)) in
    (omega (arith, inside, count), omega (arith, found.2, before), omega (arith, found.1, found.2, before, block-read ls c.in_ok-block.block inside, prefix-le ls (32 * (c.in_ok-block.block + 1))))

pub returns-in_err-block : goal.returns-in_err-block
returns-in_err-block g c =
    let ls = node_lengths (map g.R.NodeItems.list c.args.nodes.now) in
    let seen = ap (λ v. v.sums) c.self.view_is ∙ c.requires.sums in
    rw c.from_residual.ensures (omega (arith, c.in_err-block.ensures, ap sum seen, sum-blocks ls))

pub overflow_mul-block : goal.overflow_mul-block
overflow_mul-block g c = let there = at g c in record { fits = omega (arith, there.0) }

pub find_from-requires : goal.find_from-requires
find_from-requires g c = let there = at g c in omega (arith, there.1, there.2)

pub returns : goal.returns
returns g c =
    let ls = node_lengths (map g.R.NodeItems.list c.args.nodes.now) in
    let found = rw (ap (λ v. v.sums) c.self.view_is ∙ c.requires.sums) at c.in_ok-block.ensures in
    let there = prefix-blocks ls c.in_ok-block.block (omega (arith, found.0, count-blocks ls)) in
    (omega (arith, c.find_from.ensures.node, length-lengths g.R.NodeItems.list c.args.nodes.now), c.find_from.ensures.offset, omega (arith, c.find_from.ensures.place, found.2, there))
