-- The map has its old pairs and the entries so far.
use Rattle.std.proofs.Common.{◌≡◌, map}
use Rattle.indexset_map.specs.Contents.{with_all}
use Rattle.indexset_map.proofs.traits.BTreeMapExtendTuple2RefRef.extend.Given as goal

abbrev pub invariant-loop-key : goal.invariant-loop-key
invariant-loop-key g l = record { came : l.self ≡ with_all g.K.Ord.cmp l.fn.self (map (λ e. (e.0.now, e.1.now)) l.yielded) }
