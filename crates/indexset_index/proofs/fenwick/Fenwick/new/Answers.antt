use Rattle.std.proofs.Common.{[]}
use Rattle.indexset_index.proofs.CellLemmas.{none, told, is_fenwick}
use Rattle.indexset_index.proofs.fenwick.Fenwick.new.Goals as goal

pub invariant_of-result : goal.invariant_of-result
invariant_of-result c = is_fenwick c.new.result.items [] (none c.new.result.items c.new.ensures.items)

pub returns : goal.returns
returns c = told c.new.result.items [] (none c.new.result.items c.new.ensures.items)
