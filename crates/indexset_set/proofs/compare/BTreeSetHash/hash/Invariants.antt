-- What is written is the elements so far.
use Rattle.std.proofs.Common.{◌≡◌}
use Rattle.std.specs.List.{flat_map, fold}
use Rattle.indexset_set.proofs.compare.BTreeSetHash.hash.Given as goal

abbrev pub invariant-loop-item : goal.invariant-loop-item
invariant-loop-item g l = l.state ≡ fold g.H.Hasher.write l.initial.state (flat_map (λ x. g.T.Hash.hash_input x.now) l.yielded)
