use Rattle.std.proofs.Common.{refl, not, sym, ap, ◌∙◌}
use Rattle.indexset_core.proofs.CallerLemmas.{found_has_equal, found_keep, gap_ascending, gap_has_equal, gap_keep, gap_no_equal, gap_put, has_put}
use Rattle.indexset_set.proofs.SetNodeLemmas.{kept_there, kept_new}
use Rattle.indexset_set.proofs.BTreeSet.insert.Goals as goal

pub returns-then-spot : goal.returns-then-spot
returns-then-spot g c =
    let there = rw c.if-spot.true at c.locate_from_end-spot.ensures.found in
    let has = found_has_equal _ _ _ _ there in
    rw (← c.self.view_is) (record {
      added = ap not (sym has);
      ok = sym (found_keep _ _ _ _ there);
      contains = has;
      nodes = sym (kept_there g.T.Ord.cmp c.self.inside.spine c.args.value has);
      size = refl;
      no_memory = λ _. refl;
      given_back = tt;
      unchanged = tt;
    })

pub invariant_of-self-2 : goal.invariant_of-self-2
invariant_of-self-2 g c =
    let gap = rw c.if-spot.false at c.locate_from_end-spot.ensures.gap in
    rw c.in_ok-insert.ensures.items (gap_ascending _ _ _ _ g.met.T.Ord.total gap c.self.invariant)

pub returns-in_err-insert-clause-no_memory : goal.returns-in_err-insert-clause-no_memory
returns-in_err-insert-clause-no_memory g c =
    let gap = rw c.if-spot.false at c.locate_from_end-spot.ensures.gap in
    rw (← c.self.view_is) (gap_no_equal _ _ _ _ gap)

pub returns : goal.returns
returns g c =
    let gap = rw c.if-spot.false at c.locate_from_end-spot.ensures.gap in
    let absent = gap_has_equal _ _ _ _ gap in
    rw (← c.self.view_is) (record {
      added = ap not (sym absent);
      ok = c.in_ok-insert.ensures.items ∙ sym (gap_keep _ _ _ _ gap);
      contains = rw (c.in_ok-insert.ensures.items ∙ sym (gap_put _ _ _ _ gap)) (has_put g.T.Ord.cmp _ _ g.met.T.Ord.total);
      nodes = kept_new g.T.Ord.cmp c.self.inside.spine c.args.value c.locate_from_end-spot.result _ c.locate_from_end-spot.ensures.place absent c.in_ok-insert.ensures.nodes;
      size = c.insert.ensures.size;
      no_memory = λ _. refl;
      given_back = tt;
      unchanged = tt;
    })
