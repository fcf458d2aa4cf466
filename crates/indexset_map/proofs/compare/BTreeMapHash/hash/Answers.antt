use Rattle.std.proofs.Common.{◌++◌, refl, ap, ◌∙◌}
use Rattle.std.specs.List.{fold}
use Rattle.indexset_map.proofs.CompareLemmas.{fed_next}
use Rattle.indexset_map.proofs.compare.BTreeMapHash.hash.Goals as goal

pub loop-key-preserved : goal.loop-key-preserved
loop-key-preserved g c =
    let write = g.H.Hasher.write in
    let key = g.K.Hash.hash_input c.in-Some.key.now in
    let value = g.V.Hash.hash_input c.in-Some.value.now in
    c.hash-in-loop-key.ensures
    ∙ (ap (λ s. fold write s value) (c.hash.ensures ∙ ap (λ s. fold write s key) c.loop-key.invariant)
    ∙ fed_next write (λ e. g.K.Hash.hash_input e.0.now ++ g.V.Hash.hash_input e.1.now) c.write_usize.new.self c.loop-key.yielded (c.in-Some.key, c.in-Some.value) key value refl)
