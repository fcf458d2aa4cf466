use Rattle.std.proofs.Common.{rules}
use Rattle.std_collections.proofs.IterRuns.{gives_in_order, gives_in_reverse}
use Rattle.indexset_map.proofs.owned.BTreeMapIntoIterator.into_iter.Goals as goal

pub returns : goal.returns
returns g c = record { into_iter_gives = (search rules, gives_in_order, gives_in_reverse) }
