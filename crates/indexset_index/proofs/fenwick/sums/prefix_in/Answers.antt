use Rattle.std.proofs.Common.{◌≡◌, ◌-◌, ◌<◌, bit_and, arith}
use Rattle.indexset_index.specs.Fenwick.{lowbit, cell_of}
use Rattle.indexset_index.proofs.LowbitLemmas.{and-clears, ones-clears}
use Rattle.indexset_index.proofs.PrefixLemmas.{prefix-cell, prefix-le}
use Rattle.indexset_index.proofs.fenwick.sums.prefix_in.Goals as goal

pub overflow_add-total : goal.overflow_add-total
overflow_add-total g c =
    let i = c.loop-i.i in
    let held : c.read-total.result ≡ cell_of g.lengths i = cc (c.requires.1.0.each i (omega arith) (omega arith)) in
    record { fits = omega (arith, prefix-cell g.lengths i, prefix-le g.lengths c.args.k) }

pub loop-i-preserved : goal.loop-i-preserved
loop-i-preserved g c =
    let i = c.loop-i.i in
    let some : 0 < i = omega arith in
    let held : c.read-total.result ≡ cell_of g.lengths i = cc (c.requires.1.0.each i (omega arith) (omega arith)) in
    let clears : bit_and i (i - 1) ≡ i - lowbit i = and-clears i some in
    record {
      within = rw clears (omega arith);
      value = rw clears (omega (arith, prefix-cell g.lengths i));
      fixed = cc;
      stays = cc;
      counted = rw clears (omega (arith, ones-clears i some));
    }
