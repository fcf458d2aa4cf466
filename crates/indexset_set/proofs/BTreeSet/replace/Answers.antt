use Rattle.std.proofs.Common.{Bor, refl, sym, ◌∙◌}
use Rattle.indexset_core.proofs.CallerLemmas.{found_ascending, found_equal, found_has_equal, found_put, gap_ascending, gap_equal, gap_has_equal, gap_no_equal, gap_put, has_put}
use Rattle.indexset_set.proofs.SetNodeLemmas.{found_of, gap_of, put_there, put_new}
use Rattle.indexset_set.proofs.BTreeSet.replace.Goals as goal

pub replace-requires : goal.replace-requires
replace-requires g c = c.locate-spot.ensures.item c.if-spot.true

pub invariant_of-self : goal.invariant_of-self
invariant_of-self g c =
    let there = found_of g.T.Ord.cmp (λ (r : Bor g.row.T.Denot). r.now) _ _ _ (rw c.if-spot.true at c.locate-spot.ensures.found) in
    rw c.replace.ensures.items (found_ascending _ _ _ _ g.met.T.Ord.total c.self.invariant there)

pub returns-then-spot : goal.returns-then-spot
returns-then-spot g c =
    let there = found_of g.T.Ord.cmp (λ (r : Bor g.row.T.Denot). r.now) _ _ _ (rw c.if-spot.true at c.locate-spot.ensures.found) in
    let put = c.replace.ensures.items ∙ sym (found_put _ _ _ _ g.met.T.Ord.total c.self.invariant there) in
    rw (← c.self.view_is) (record {
      old = sym (found_equal _ _ _ _ there ∙ c.replace.ensures.value);
      ok = put;
      contains = rw put (has_put g.T.Ord.cmp _ _ g.met.T.Ord.total);
      nodes = put_there g.T.Ord.cmp c.self.inside.spine c.args.value c.locate-spot.result _ c.locate-spot.ensures.place (found_has_equal _ _ _ _ there) c.replace.ensures.nodes;
      size = c.replace.ensures.size;
      no_memory = λ _. refl;
      given_back = tt;
      unchanged = tt;
    })

pub invariant_of-self-2 : goal.invariant_of-self-2
invariant_of-self-2 g c =
    let gap = gap_of g.T.Ord.cmp (λ (r : Bor g.row.T.Denot). r.now) _ _ _ (rw c.if-spot.false at c.locate-spot.ensures.gap) in
    rw c.in_ok-insert.ensures.items (gap_ascending _ _ _ _ g.met.T.Ord.total gap c.self.invariant)

pub returns-in_err-insert-clause-no_memory : goal.returns-in_err-insert-clause-no_memory
returns-in_err-insert-clause-no_memory g c =
    let gap = gap_of g.T.Ord.cmp (λ (r : Bor g.row.T.Denot). r.now) _ _ _ (rw c.if-spot.false at c.locate-spot.ensures.gap) in
    rw (← c.self.view_is) (gap_no_equal _ _ _ _ gap)

pub returns : goal.returns
returns g c =
    let gap = gap_of g.T.Ord.cmp (λ (r : Bor g.row.T.Denot). r.now) _ _ _ (rw c.if-spot.false at c.locate-spot.ensures.gap) in
    let put = c.in_ok-insert.ensures.items ∙ sym (gap_put _ _ _ _ gap) in
    rw (← c.self.view_is) (record {
      old = sym (gap_equal _ _ _ _ gap);
      ok = put;
      contains = rw put (has_put g.T.Ord.cmp _ _ g.met.T.Ord.total);
      nodes = put_new g.T.Ord.cmp c.self.inside.spine c.args.value c.locate-spot.result _ c.locate-spot.ensures.place (gap_has_equal _ _ _ _ gap) c.in_ok-insert.ensures.nodes;
      size = c.insert.ensures.size;
      no_memory = λ _. refl;
      given_back = tt;
      unchanged = tt;
    })
