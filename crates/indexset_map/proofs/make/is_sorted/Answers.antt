use Rattle.std.proofs.Common.{rules}
use Rattle.std.specs.Cmp.{on_total}
use Rattle.std.specs.Ordering.{is_lt}
use Rattle.std.proofs.lemmas.List.Sorted.{answers_always}
use Rattle.indexset_set.proofs.CallerLemmas.{adjacent_tells}
use Rattle.indexset_map.proofs.make.is_sorted.Goals as goal

pub returns-clause-ascending : goal.returns-clause-ascending
returns-clause-ascending g c =
    let cmp : g.row.K.Denot × g.row.V.Denot → g.row.K.Denot × g.row.V.Denot → _ = λ e f. g.K.Ord.cmp e.0 f.0 in
    (adjacent_tells cmp (on_total (λ (e : g.row.K.Denot × g.row.V.Denot). e.0) g.met.K.Ord.total) c.args.entries.now
    c.is_sorted_by.result
    (c.is_sorted_by.ensures.cases (λ x y. is_lt (cmp x y)) (answers_always _ _ _ (λ f a r f2 k. search rules)))).0

pub returns-clause-other : goal.returns-clause-other
returns-clause-other g c =
    let cmp : g.row.K.Denot × g.row.V.Denot → g.row.K.Denot × g.row.V.Denot → _ = λ e f. g.K.Ord.cmp e.0 f.0 in
    (adjacent_tells cmp (on_total (λ (e : g.row.K.Denot × g.row.V.Denot). e.0) g.met.K.Ord.total) c.args.entries.now
    c.is_sorted_by.result
    (c.is_sorted_by.ensures.cases (λ x y. is_lt (cmp x y)) (answers_always _ _ _ (λ f a r f2 k. search rules)))).1
