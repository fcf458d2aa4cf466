-- The map and the run behind it hold the entries so far.
use Rattle.std.proofs.Common.{◌≡◌, ◌++◌, map}
use Rattle.indexset_core.specs.declared.constants.TheConstants.{DEFAULT_INNER_SIZE}
use Rattle.indexset_core.specs.Order.{IsAscending}
use Rattle.indexset_core.specs.Pairs.{by_key, entry_of}
use Rattle.indexset_map.specs.Contents.{no_pairs, with_all}
use Rattle.indexset_map.proofs.BTreeMap.from_iter.Given as goal

abbrev pub invariant-loop-key : goal.invariant-loop-key
invariant-loop-key g l = record {
  order : IsAscending (by_key g.K.Ord.cmp) (l.map.pairs ++ l.run.items);
  inserted : with_all g.K.Ord.cmp l.map (map entry_of l.run.items) ≡ with_all g.K.Ord.cmp (no_pairs DEFAULT_INNER_SIZE) l.yielded;
}
