use Rattle.std.proofs.Common.{arith}
use Rattle.indexset_index.proofs.LowbitLemmas.{and-clears, lowbit-le}
use Rattle.indexset_index.proofs.fenwick.table.lowest_one.Goals as goal

pub returns-clause-value : goal.returns-clause-value
returns-clause-value c = omega (arith, and-clears c.args.i (omega arith), lowbit-le c.args.i)
