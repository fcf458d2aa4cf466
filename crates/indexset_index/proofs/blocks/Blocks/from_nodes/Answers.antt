use Rattle.std.proofs.Common.{length, map, arith}
use Rattle.indexset_core.specs.Nodes.{node_lengths}
use Rattle.indexset_index.proofs.BlockLemmas.{count-blocks, div_ceil-is}
use Rattle.indexset_index.proofs.LengthLemmas.{length-lengths}
use Rattle.indexset_index.proofs.blocks.Blocks.from_nodes.Goals as goal

pub rebuild-requires-clause-room : goal.rebuild-requires-clause-room
rebuild-requires-clause-room g c =
    let ls = node_lengths (map g.R.NodeItems.list c.args.nodes.now) in
    omega (arith, c.in_ok-with_capacity.ensures.room, count-blocks ls, length-lengths g.R.NodeItems.list c.args.nodes.now, c.div_ceil.ensures, div_ceil-is (length c.args.nodes.now))
