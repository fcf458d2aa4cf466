use Rattle.std.proofs.Common.{[], ◌∷◌, ◌++◌, ◌∙◌, ap}
use Rattle.std.proofs.lemmas.List.{map-append}
use Rattle.indexset_core.specs.Pairs.{entry_of, pair}
use Rattle.indexset_map.proofs.make.paired.Goals as goal

pub loop-key-preserved : goal.loop-key-preserved
loop-key-preserved g c =
    rw c.in_ok-push.ensures.items (map-append entry_of c.loop-key.pairs.items (pair c.in-Some.key c.in-Some.value ∷ []) ∙ ap (λ l. l ++ (c.in-Some.key, c.in-Some.value) ∷ []) c.loop-key.invariant)
