use Rattle.std.proofs.Common.{rules}
use Rattle.std.specs.Ordering.{is_lt}
use Rattle.std.proofs.lemmas.List.Sorted.{answers_always}
use Rattle.indexset_events.proofs.AttachLemmas.{ascending_answer}
use Rattle.indexset_events.proofs.nodes.is_ascending.Goals as goal

pub returns : goal.returns
returns g c =
    let cmp = g.T.Ord.cmp in
    ascending_answer cmp g.met.T.Ord.total c.args.items.now c.is_sorted_by.result (c.is_sorted_by.ensures.cases (λ x y. is_lt (cmp x y)) (answers_always _ _ _ (λ f a r f2 k. search rules)))
