use Rattle.std.proofs.Common.{arith}
use Rattle.indexset_spine.proofs.iter.walk_between.Goals as goal

pub between-requires-clause-from : goal.between-requires-clause-from
between-requires-clause-from g c = record { node_in = omega (arith, c.requires.start.node_in); offset_in = c.requires.start.offset_in }

pub between-requires-clause-to : goal.between-requires-clause-to
between-requires-clause-to g c = record { node_in = omega (arith, c.requires.end.node_in); offset_in = c.requires.end.offset_in }
