-- The keys and values so far were written.
use Rattle.std.proofs.Common.{◌≡◌, ◌++◌}
use Rattle.std.specs.List.{flat_map, fold}
use Rattle.indexset_map.proofs.compare.BTreeMapHash.hash.Given as goal

abbrev pub invariant-loop-key : goal.invariant-loop-key
invariant-loop-key g l = l.state ≡ fold g.H.Hasher.write l.initial.state (flat_map (λ e. g.K.Hash.hash_input e.0.now ++ g.V.Hash.hash_input e.1.now) l.yielded)
