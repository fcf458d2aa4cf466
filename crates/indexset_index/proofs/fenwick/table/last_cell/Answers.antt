use Rattle.std.proofs.Common.{◌≡◌, ◌-◌, length, bit_and, ap, arith}
use Rattle.indexset_index.specs.Fenwick.{lowbit, prefix_sum, lengths_of}
use Rattle.indexset_index.proofs.LowbitLemmas.{and-clears, nested}
use Rattle.indexset_index.proofs.PrefixLemmas.{prefix-cell, prefix-all}
use Rattle.indexset_index.proofs.fenwick.table.last_cell.Goals as goal

pub loop-j-init : goal.loop-j-init
loop-j-init c =
    let clears : bit_and c.args.end (c.args.end - 1) ≡ c.args.end - lowbit c.args.end = and-clears c.args.end (omega arith) in
    record {
      start_is = clears;
      low = rw clears c.requires.begins;
      high = omega arith;
      value = omega (arith, c.requires.cells.count_is, prefix-all (lengths_of c.args.cells.now) (length c.args.cells.now) (omega (arith, c.requires.cells.count_is)));
    }

pub overflow_add-total : goal.overflow_add-total
overflow_add-total c =
    let j = c.loop-j.j in
    let held = c.requires.cells.each j (omega arith) (omega arith) in
    record { fits = omega (arith, held, prefix-cell (lengths_of c.args.cells.now) j) }

pub loop-j-preserved : goal.loop-j-preserved
loop-j-preserved c =
    let j = c.loop-j.j in
    let held = c.requires.cells.each j (omega arith) (omega arith) in
    let clears : bit_and j (j - 1) ≡ j - lowbit j = and-clears j (omega arith) in
    record {
      start_is = c.loop-j.invariant.start_is;
      low = rw clears (omega (arith, nested c.args.end j (omega arith) (omega arith)));
      high = rw clears (omega arith);
      value = rw clears (omega (arith, held, prefix-cell (lengths_of c.args.cells.now) j));
    }

pub returns : goal.returns
returns c =
    let meet : c.loop-j.j ≡ c.args.end - lowbit c.args.end = omega arith in
    omega (arith, ap (prefix_sum (lengths_of c.args.cells.now)) meet)
