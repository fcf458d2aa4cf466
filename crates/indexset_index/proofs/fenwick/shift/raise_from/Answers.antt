use Rattle.std.proofs.Common.{◌≡◌, ◌+◌, ◌-◌, ◌<◌, ◌≤◌, length, map, sum, get_or, arith}
use Rattle.indexset_core.specs.Nodes.{node_lengths}
use Rattle.indexset_index.specs.Blocks.{block_count, block_sums}
use Rattle.indexset_index.specs.Fenwick.{lengths_of, cell_in, cell_of, IsFenwickOf}
use Rattle.indexset_index.proofs.BlockLemmas.{count-blocks, sum-blocks, raised-low, raised-cell, raised-fits}
use Rattle.indexset_index.proofs.CellLemmas.{shift_starts, shift_goes_on, shift_ends, told, is_fenwick}
use Rattle.indexset_index.proofs.LengthLemmas.{length-lengths}
use Rattle.indexset_index.proofs.LowbitLemmas.{and-clears}
use Rattle.indexset_index.proofs.fenwick.shift.raise_from.Given.{Over}
use Rattle.indexset_index.proofs.fenwick.shift.raise_from.Goals as goal

-- what each cell becomes
cell : (g : Over) (c : goal.After-slice_known-in-loop-i-1 g)
    → let ls = node_lengths (map g.R.NodeItems.list c.args.nodes.now) in
    (get_or c.loop-i.cells (c.loop-i.i - 1) 0 + c.moved_in-gained.result
    ≡ cell_of (block_sums ls) c.loop-i.i + c.first_of_block-lost.result)
    × (cell_of (block_sums ls) c.loop-i.i + c.first_of_block-lost.result ≤ sum ls)
cell g c =
    let ls = node_lengths (map g.R.NodeItems.list c.args.nodes.now) in
    let count = length-lengths g.R.NodeItems.list c.args.nodes.now in
    let xs = lengths_of c.args.cells.now in
    let i = c.loop-i.i in
    let held = c.loop-i.invariant.cells.ahead i (omega arith) (omega arith) in
    let here : c.args.k < length ls = omega (arith, c.requires.inside, count) in
    let long : length c.args.cells.now ≡ block_count (length ls) = omega (arith, c.requires.count, count) in
    let within : i ≤ length c.args.cells.now = omega (arith, c.loop-i-test.true, c.loop-i.auto.cells) in
    let gained = rw (and-clears i c.loop-i.invariant.cells.some) at c.moved_in-gained.ensures in
    let made = raised-cell xs ls c.args.k (length c.args.cells.now) here long c.requires.before i c.moved_in-gained.result c.loop-i.invariant.past within gained.here gained.past in
    (omega (arith, held, made, c.first_of_block-lost.ensures), omega (arith, c.first_of_block-lost.ensures, raised-fits xs ls c.args.k (length c.args.cells.now) here long c.requires.before i within))

pub loop-i-init : goal.loop-i-init
loop-i-init g c =
    let ls = node_lengths (map g.R.NodeItems.list c.args.nodes.now) in
    let count = length-lengths g.R.NodeItems.list c.args.nodes.now in
    let xs = lengths_of c.args.cells.now in
    record {
      cells =
          shift_starts xs (block_sums ls) c.args.cells.now _ c.requires.cells (λ i low within.
          raised-low xs ls c.args.k (length c.args.cells.now) (omega (arith, c.requires.inside, count))
          (omega (arith, c.requires.count, count)) c.requires.before i low within);
      past = omega arith;
    }

pub overflow_add-cells : goal.overflow_add-cells
overflow_add-cells g c = let made = cell g c in record { fits = omega (arith, made.0, made.1, c.requires.fits) }

pub overflow_sub-cells-in-loop-i : goal.overflow_sub-cells-in-loop-i
overflow_sub-cells-in-loop-i g c = let made = cell g c in omega (arith, made.0)

pub loop-i-preserved : goal.loop-i-preserved
loop-i-preserved g c =
    let ls = node_lengths (map g.R.NodeItems.list c.args.nodes.now) in
    let made = cell g c in
    record {
      cells = shift_goes_on (lengths_of c.args.cells.now) (block_sums ls) c.loop-i.cells c.loop-i.i _ c.loop-i.invariant.cells c.loop-i-test.true (omega (arith, made.0));
      past = omega (arith, c.loop-i.invariant.past);
    }

ended : (g : Over) (c : goal.After-loop-i g) → IsFenwickOf (cell_in c.loop-i.cells) (length c.loop-i.cells) (block_sums (node_lengths (map g.R.NodeItems.list c.args.nodes.now)))
ended g c =
    let ls = node_lengths (map g.R.NodeItems.list c.args.nodes.now) in
    let long : length (block_sums ls) ≡ length (lengths_of c.args.cells.now) = omega (
      arith,
      count-blocks ls,
      length-lengths g.R.NodeItems.list c.args.nodes.now,
      c.requires.count,
      c.requires.cells.count_is,
    ) in
    shift_ends (lengths_of c.args.cells.now) (block_sums ls) c.loop-i.cells c.loop-i.i c.loop-i.invariant.cells
    (omega (arith, c.loop-i-test.false)) long (omega (arith, sum-blocks ls, c.requires.fits))

pub returns-clause-cells : goal.returns-clause-cells
returns-clause-cells g c = is_fenwick _ _ (ended g c)

pub returns-clause-lengths : goal.returns-clause-lengths
returns-clause-lengths g c = told _ _ (ended g c)
