use Rattle.indexset_index.proofs.LowbitLemmas.{lowbit-zero, lowbit-at, ones-clears}
use Rattle.indexset_index.proofs.fenwick.laws.lowbit_is_the_lowest_one.Goals as goal

pub returns : goal.returns
returns c = record { none = lowbit-zero; value = lowbit-at; ones = ones-clears }
