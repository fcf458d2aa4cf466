use Rattle.std.proofs.Common.{◌≡◌, ◌+◌, ◌-◌, ◌<◌, true, false, is_some, length, refl, ap, sym, subst, ◌∙◌, arith}
use Rattle.indexset_core.specs.Nodes.{concat}
use Rattle.indexset_events.specs.Clones.{AreTableEvents}
use Rattle.indexset_multi.specs.Keys.{first_pair, pairs_of}
use Rattle.indexset_multi.specs.Tree.{IsMultiPairClone, removals_events}
use Rattle.indexset_multi.proofs.RemovalRunLemmas.{all_kept, all_removed, are_removed, more_left, none_left, one_more, removals_told, removed_fit, stays, told_more}
use Rattle.indexset_multi.proofs.multimap.BTreeMultiMap.remove_all_cdc.Goals as goal

pub overflow_add-count : goal.overflow_add-count
overflow_add-count g c =
    let order = g.Q.LookupKey.order in
    let k = c.args.key in
    let old = c.args.self.now in
    let at = c.loop-count in
    let found : is_some (first_pair order (concat at.self.nodes) k) ≡ true = sym c.in-Ok-true.ensures.found ∙ c.in-Ok-true.field-0-test in
    let one = more_left g.met.K.Ord.total g.met.Q.LookupKey.acts_as_key old c.recall_invariant.ensures.tree k at.count at.invariant.tree found in
    record { fits = omega (arith, one, removed_fit order (concat old.nodes) k, c.recall_invariant.ensures.items) }

pub loop-count-smaller : goal.loop-count-smaller
loop-count-smaller g c =
    let order = g.Q.LookupKey.order in
    let k = c.args.key in
    let old = c.args.self.now in
    let at = c.loop-count in
    let found : is_some (first_pair order (concat at.self.nodes) k) ≡ true = sym c.in-Ok-true.ensures.found ∙ c.in-Ok-true.field-0-test in
    let one = more_left g.met.K.Ord.total g.met.Q.LookupKey.acts_as_key old c.recall_invariant.ensures.tree k at.count at.invariant.tree found in
    let all = length (pairs_of order (concat old.nodes) k) in
    let less : all - (at.count + 1) < all - at.count = omega (arith, one) in
    less

pub loop-count-preserved : goal.loop-count-preserved
loop-count-preserved g c =
    let order = g.Q.LookupKey.order in
    let k = c.args.key in
    let old = c.args.self.now in
    let at = c.loop-count in
    let found : is_some (first_pair order (concat at.self.nodes) k) ≡ true = sym c.in-Ok-true.ensures.found ∙ c.in-Ok-true.field-0-test in
    record {
      tree = one_more g.met.K.Ord.total g.met.Q.LookupKey.acts_as_key old c.recall_invariant.ensures.tree k at.count at.invariant.tree c.in-Ok-true.ensures.tree;
      within = more_left g.met.K.Ord.total g.met.Q.LookupKey.acts_as_key old c.recall_invariant.ensures.tree k at.count at.invariant.tree found;
      events =
          told_more g.met.K.Ord.total g.met.Q.LookupKey.acts_as_key old c.recall_invariant.ensures.tree k at.count at.invariant.tree
          (IsMultiPairClone g.K.Clone.is_clone g.V.Clone.is_clone) _ _ at.invariant.events
          (c.in-Ok-true.ensures.events c.in-Ok-true.field-0-test);
    }

pub returns-in-Ok-false : goal.returns-in-Ok-false
returns-in-Ok-false g c =
    let order = g.Q.LookupKey.order in
    let k = c.args.key in
    let old = c.args.self.now in
    let at = c.loop-count in
    let none : is_some (first_pair order (concat at.self.nodes) k) ≡ false = sym c.in-Ok-false.ensures.found ∙ c.in-Ok-false.field-0-test in
    let same = stays g.met.K.Ord.total g.met.Q.LookupKey.acts_as_key old c.recall_invariant.ensures.tree k at.count at.invariant.tree at.invariant.within none c.in-Ok-false.ensures.tree in
    let is = same ∙ at.invariant.tree in
    let gone = subst (λ m. is_some (first_pair order (concat m.nodes) k) ≡ false) (sym same) none in
    let C = g.K.Clone.is_clone in
    let D = g.V.Clone.is_clone in
    let told =
    subst (λ l. AreTableEvents (IsMultiPairClone C D) old.next (removals_events g.K.Ord.cmp order old k at.count) l)
    (sym (c.in-Ok-false.ensures.no_events c.in-Ok-false.field-0-test)) at.invariant.events in
    record {
      count = all_removed g.met.K.Ord.total g.met.Q.LookupKey.acts_as_key old c.recall_invariant.ensures.tree k at.count is at.invariant.within gone;
      contents = all_kept g.met.K.Ord.total g.met.Q.LookupKey.acts_as_key old c.recall_invariant.ensures.tree k at.count is at.invariant.within gone;
      gone = none_left g.met.K.Ord.total g.met.Q.LookupKey.acts_as_key old c.recall_invariant.ensures.tree k at.count is at.invariant.within gone;
      refusal = tt;
      no_event = λ _. refl;
      removed = are_removed g.met.K.Ord.total g.met.Q.LookupKey.acts_as_key old c.recall_invariant.ensures.tree k at.count is at.invariant.within;
      events = removals_told g.met.K.Ord.total g.met.Q.LookupKey.acts_as_key old c.recall_invariant.ensures.tree k at.count is at.invariant.within C D _ told;
      events_before = tt;
    }

pub returns-in-Err : goal.returns-in-Err
returns-in-Err g c =
    let old = c.args.self.now in
    let k = c.args.key in
    let at = c.loop-count in
    let is = c.in-Err.ensures.unchanged ∙ at.invariant.tree in
    let C = g.K.Clone.is_clone in
    let D = g.V.Clone.is_clone in
    let told = subst (λ l. AreTableEvents (IsMultiPairClone C D) old.next (removals_events g.K.Ord.cmp g.Q.LookupKey.order old k at.count) l) (sym c.in-Err.ensures.kept) at.invariant.events in
    record {
      count = tt;
      contents = tt;
      gone = tt;
      refusal = rw c.in-Err.ensures.unchanged c.in-Err.ensures.refusal;
      no_event =
          λ none.
          absurd
          (omega (
            arith,
            more_left g.met.K.Ord.total g.met.Q.LookupKey.acts_as_key old c.recall_invariant.ensures.tree k at.count at.invariant.tree c.in-Err.ensures.contains,
            ap (λ l. length l) none,
          ));
      removed = are_removed g.met.K.Ord.total g.met.Q.LookupKey.acts_as_key old c.recall_invariant.ensures.tree k at.count is at.invariant.within;
      events = tt;
      events_before = removals_told g.met.K.Ord.total g.met.Q.LookupKey.acts_as_key old c.recall_invariant.ensures.tree k at.count is at.invariant.within C D _ told;
    }
