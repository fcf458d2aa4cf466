use Rattle.std.proofs.Common.{[]}
use Rattle.indexset_index.proofs.CellLemmas.{none, told, is_fenwick}
use Rattle.indexset_index.proofs.fenwick.Fenwick.with_capacity.Goals as goal

pub invariant_of-result : goal.invariant_of-result
invariant_of-result c = is_fenwick c.in_ok-with_capacity.field-0.items [] (none c.in_ok-with_capacity.field-0.items c.in_ok-with_capacity.ensures.items)

pub returns-clause-empty : goal.returns-clause-empty
returns-clause-empty c = told c.in_ok-with_capacity.field-0.items [] (none c.in_ok-with_capacity.field-0.items c.in_ok-with_capacity.ensures.items)
