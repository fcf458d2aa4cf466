use Rattle.std.proofs.Common.{◌≡◌, ◌++◌, length, take, sym, ap, ◌∙◌, subst, arith}
use Rattle.std.specs.List.{fold}
use Rattle.std.proofs.lemmas.List.{length-take-le}
use Rattle.indexset_core.specs.Order.{IsAscending, put}
use Rattle.indexset_spine.proofs.PutLemmas.{taken_up}
use Rattle.indexset_spine.proofs.merge.merge_first.Given.{Over}
use Rattle.indexset_spine.proofs.merge.merge_first.Goals as goal
use Rattle.indexset_spine.proofs.merge.merge_first.Goals.{After-move_front}

-- the run that is merged in
run_is : (g : Over) (c : After-move_front g) → c.move_front.new.other.items ≡ take c.args.count c.args.from.now.items
run_is g c = c.move_front.ensures.moved ∙ ap (λ l. l ++ take c.args.count c.args.from.now.items) c.in_ok-run.ensures.items

pub merge_back-requires-clause-order : goal.merge_back-requires-clause-order
merge_back-requires-clause-order g c = subst (IsAscending g.T.Ord.cmp) (sym c.reserve.ensures.items) c.requires.order

pub merge_back-requires-clause-run_order : goal.merge_back-requires-clause-run_order
merge_back-requires-clause-run_order g c =
    let at = (goal.at.merge_back-requires-clause-run_order g c).After-move_front in
    subst (IsAscending g.T.Ord.cmp) (sym (run_is g at)) (taken_up g.T.Ord.cmp g.met.T.Ord.total c.args.from.now.items c.args.count c.requires.from_order)

pub returns-clause-merged : goal.returns-clause-merged
returns-clause-merged g c =
    let at = (goal.at.returns-clause-merged g c).After-move_front in
    let run = run_is g at in
    let long = length-take-le c.args.count c.args.from.now.items c.requires.within in
    let ok =
    c.append.ensures.succeeds
    (omega (
      arith,
      c.merge_back.ensures.length_bound,
      c.merge_back.ensures.capacity,
      c.in_ok-reserve.ensures.ok,
      ap (λ l. length l) run,
      long,
      c.move_front.new.other.ok,
    )) in
    rw ok at c.append.ensures.items
    ∙ (c.merge_back.ensures.merged ∙ (ap (λ l. fold (put g.T.Ord.cmp) l c.move_front.new.other.items) c.reserve.ensures.items ∙ ap (fold (put g.T.Ord.cmp) c.args.items.now.items) run))
