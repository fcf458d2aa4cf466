use Rattle.std.proofs.Common.{◌≡◌, ◌∙◌, false, subst, sym, true}
use Rattle.std.specs.List.{All}
use Rattle.std.specs.Ordering.{is_lt}
use Rattle.indexset_set.proofs.SetBulkLemmas.{below_all, drop_not_below, not_below_all, take_below}
use Rattle.indexset_core.proofs.CallerLemmas.{front_up, parted_by_sought, tail_up}
use Rattle.indexset_set.proofs.BTreeSet.split_off.Goals as goal

pub invariant_of-self : goal.invariant_of-self
invariant_of-self g c = rw c.in_err-spine.ensures.unchanged c.self.invariant

pub invariant_of-self-2 : goal.invariant_of-self-2
invariant_of-self-2 g c = rw c.in_ok-spine.ensures.left (front_up g.T.Ord.cmp _ _ c.self.invariant)

pub invariant_of-result : goal.invariant_of-result
invariant_of-result g c = rw c.in_ok-spine.ensures.right (tail_up g.T.Ord.cmp _ _ c.self.invariant)

pub returns-clause-below : goal.returns-clause-below
returns-clause-below g c =
    rw (← c.self.view_is)
    (c.in_ok-spine.ensures.left
    ∙ take_below g.Q.LookupKey.order _ _
    (parted_by_sought g.met.Q.LookupKey.acts_as_key _ c.self.invariant c.args.value) _
    c.locate-spot.ensures.position)

pub returns-clause-rest : goal.returns-clause-rest
returns-clause-rest g c =
    rw (← c.self.view_is)
    (c.in_ok-spine.ensures.right
    ∙ drop_not_below g.Q.LookupKey.order _ _
    (parted_by_sought g.met.Q.LookupKey.acts_as_key _ c.self.invariant c.args.value) _
    c.locate-spot.ensures.position)

pub returns-clause-all_below : goal.returns-clause-all_below
returns-clause-all_below g c =
    subst (All (λ x. is_lt (g.Q.LookupKey.order x c.args.value) ≡ true)) (sym (returns-clause-below g c)) (below_all g.Q.LookupKey.order _ c.args.value)

pub returns-clause-all_from : goal.returns-clause-all_from
returns-clause-all_from g c =
    subst (All (λ x. is_lt (g.Q.LookupKey.order x c.args.value) ≡ false)) (sym (returns-clause-rest g c)) (not_below_all g.Q.LookupKey.order _ c.args.value)
