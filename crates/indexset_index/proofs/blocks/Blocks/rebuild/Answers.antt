use Rattle.std.proofs.Common.{◌<◌, length, map, sum, ap, sym, ◌∙◌, arith}
use Rattle.std.proofs.lemmas.List.{length-take-le, take_all, take_more}
use Rattle.std.proofs.lemmas.List.Sums.{sum_by_more_le}
use Rattle.indexset_core.specs.Nodes.{node_lengths}
use Rattle.indexset_index.specs.Blocks.{block_sums}
use Rattle.indexset_index.proofs.BlockLemmas.{count-blocks, sum-blocks, div_ceil-is}
use Rattle.indexset_index.proofs.LengthLemmas.{length-lengths}
use Rattle.indexset_index.proofs.blocks.Blocks.rebuild.Given.{Over}
use Rattle.indexset_index.proofs.blocks.Blocks.rebuild.Goals as goal

inside : (g : Over) (c : goal.After-sum_of_block g) → c.loop-block.block < length (block_sums (node_lengths (map g.R.NodeItems.list c.args.nodes.now)))
inside g c =
    let ls = node_lengths (map g.R.NodeItems.list c.args.nodes.now) in
    omega (arith, count-blocks ls, length-lengths g.R.NodeItems.list c.args.nodes.now, c.loop-block-test.true, c.div_ceil-block-end.ensures, div_ceil-is (length c.args.nodes.now))

pub push-requires-clause-room : goal.push-requires-clause-room
push-requires-clause-room g c =
    let sums = block_sums (node_lengths (map g.R.NodeItems.list c.args.nodes.now)) in
    omega (arith, c.requires.room, inside g c, ap (λ l. length l) c.loop-block.invariant.same, length-take-le c.loop-block.block sums (omega (arith, inside g c)), c.loop-block.invariant.room)

pub push-requires-clause-fits : goal.push-requires-clause-fits
push-requires-clause-fits g c =
    let ls = node_lengths (map g.R.NodeItems.list c.args.nodes.now) in
    omega (arith, c.requires.fits, sum-blocks ls, ap sum c.loop-block.invariant.same, sum_by_more_le (λ x. x) (block_sums ls) c.loop-block.block 0 (inside g c), c.sum_of_block.ensures)

pub loop-block-preserved : goal.loop-block-preserved
loop-block-preserved g c =
    let ls = node_lengths (map g.R.NodeItems.list c.args.nodes.now) in
    let inside : c.loop-block.block < length (block_sums ls) = omega (
      arith,
      count-blocks ls,
      length-lengths g.R.NodeItems.list c.args.nodes.now,
      c.loop-block-test.true,
      c.div_ceil-block-end.ensures,
      div_ceil-is (length c.args.nodes.now),
    ) in
    record {
      same = rw (c.push.ensures.lengths, c.loop-block.invariant.same, c.sum_of_block.ensures) (sym (take_more (block_sums ls) c.loop-block.block 0 inside));
      room = c.push.ensures.room ∙ c.loop-block.invariant.room;
    }

pub returns-clause-sums : goal.returns-clause-sums
returns-clause-sums g c =
    let ls = node_lengths (map g.R.NodeItems.list c.args.nodes.now) in
    c.loop-block.invariant.same
    ∙ take_all c.loop-block.block (block_sums ls)
    (omega (
      arith,
      count-blocks ls,
      length-lengths g.R.NodeItems.list c.args.nodes.now,
      c.loop-block-test.false,
      c.div_ceil-block-end.ensures,
      div_ceil-is (length c.args.nodes.now),
    ))
