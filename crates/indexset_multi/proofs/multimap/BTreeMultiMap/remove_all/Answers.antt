use Rattle.std.proofs.Common.{rules, ◌≡◌, ◌+◌, ◌-◌, ◌<◌, true, false, is_some, length, refl, ap, sym, subst, ◌∙◌, arith}
use Rattle.std.proofs.lemmas.Bool.{false≢true}
use Rattle.indexset_core.specs.Nodes.{concat}
use Rattle.indexset_multi.specs.Keys.{first_pair, key_and_value, pairs_of}
use Rattle.indexset_multi.proofs.RemovalRunLemmas.{all_kept, all_removed, are_removed, more_left, none_left, nothing_told, one_more, removed_fit, some_mapped, stays}
use Rattle.indexset_multi.proofs.multimap.BTreeMultiMap.remove_all.Goals as goal

pub loop-key-init : goal.loop-key-init
loop-key-init g c = record { tree = refl; within = omega arith }

pub overflow_add-count : goal.overflow_add-count
overflow_add-count g c =
    let order = g.Q.LookupKey.order in
    let k = c.args.key in
    let old = c.args.self.now in
    let at = c.loop-key in
    let found : is_some (first_pair order (concat at.self.nodes) k) ≡ true =
    sym
    (ap is_some (rw c.in-Some.is at c.in_ok-remove_first.ensures.answer)
    ∙ some_mapped key_and_value (first_pair order (concat at.self.nodes) k)) in
    let one = more_left g.met.K.Ord.total g.met.Q.LookupKey.acts_as_key old c.recall_invariant.ensures.tree k at.count at.invariant.tree found in
    record { fits = omega (arith, one, removed_fit order (concat old.nodes) k, c.recall_invariant.ensures.items) }

pub loop-key-smaller-in-Some : goal.loop-key-smaller-in-Some
loop-key-smaller-in-Some g c =
    let order = g.Q.LookupKey.order in
    let k = c.args.key in
    let old = c.args.self.now in
    let at = c.loop-key in
    let found : is_some (first_pair order (concat at.self.nodes) k) ≡ true =
    sym
    (ap is_some (rw c.in-Some.is at c.in_ok-remove_first.ensures.answer)
    ∙ some_mapped key_and_value (first_pair order (concat at.self.nodes) k)) in
    let one = more_left g.met.K.Ord.total g.met.Q.LookupKey.acts_as_key old c.recall_invariant.ensures.tree k at.count at.invariant.tree found in
    let all = length (pairs_of order (concat old.nodes) k) in
    let less : all - (at.count + 1) < all - at.count = omega (arith, one) in
    less

pub loop-key-preserved-in-Some : goal.loop-key-preserved-in-Some
loop-key-preserved-in-Some g c =
    let order = g.Q.LookupKey.order in
    let k = c.args.key in
    let old = c.args.self.now in
    let at = c.loop-key in
    let found : is_some (first_pair order (concat at.self.nodes) k) ≡ true =
    sym
    (ap is_some (rw c.in-Some.is at c.in_ok-remove_first.ensures.answer)
    ∙ some_mapped key_and_value (first_pair order (concat at.self.nodes) k)) in
    record {
      tree = one_more g.met.K.Ord.total g.met.Q.LookupKey.acts_as_key old c.recall_invariant.ensures.tree k at.count at.invariant.tree c.in_ok-remove_first.ensures.tree;
      within = more_left g.met.K.Ord.total g.met.Q.LookupKey.acts_as_key old c.recall_invariant.ensures.tree k at.count at.invariant.tree found;
    }

pub returns : goal.returns
returns g c =
    let order = g.Q.LookupKey.order in
    let k = c.args.key in
    let old = c.args.self.now in
    let at = c.loop-key in
    let none : is_some (first_pair order (concat at.self.nodes) k) ≡ false =
    sym
    (ap is_some (rw c.in_default.is at c.in_ok-remove_first.ensures.answer)
    ∙ some_mapped key_and_value (first_pair order (concat at.self.nodes) k)) in
    let same = stays g.met.K.Ord.total g.met.Q.LookupKey.acts_as_key old c.recall_invariant.ensures.tree k at.count at.invariant.tree at.invariant.within none c.in_ok-remove_first.ensures.tree in
    let is = same ∙ at.invariant.tree in
    let gone = subst (λ m. is_some (first_pair order (concat m.nodes) k) ≡ false) (sym same) none in
    record {
      count = all_removed g.met.K.Ord.total g.met.Q.LookupKey.acts_as_key old c.recall_invariant.ensures.tree k at.count is at.invariant.within gone;
      contents = all_kept g.met.K.Ord.total g.met.Q.LookupKey.acts_as_key old c.recall_invariant.ensures.tree k at.count is at.invariant.within gone;
      gone = none_left g.met.K.Ord.total g.met.Q.LookupKey.acts_as_key old c.recall_invariant.ensures.tree k at.count is at.invariant.within gone;
      refusal = tt;
      no_event = λ _. refl;
      removed = are_removed g.met.K.Ord.total g.met.Q.LookupKey.acts_as_key old c.recall_invariant.ensures.tree k at.count is at.invariant.within;
    }

pub returns-in_err-remove_first : goal.returns-in_err-remove_first
returns-in_err-remove_first g c =
    let at = c.loop-key in
    let is = c.in_err-remove_first.ensures.unchanged ∙ at.invariant.tree in
    record {
      count = search rules;
      contents = search rules;
      gone = search rules;
      refusal = search rules;
      no_event =
          λ none.
          absurd
          (false≢true
          (c.in_err-remove_first.ensures.no_event
          (nothing_told g.met.K.Ord.total g.met.Q.LookupKey.acts_as_key c.args.self.now c.recall_invariant.ensures.tree c.args.key
          at.count at.invariant.tree none)));
      removed = are_removed g.met.K.Ord.total g.met.Q.LookupKey.acts_as_key c.args.self.now c.recall_invariant.ensures.tree c.args.key at.count is at.invariant.within;
    }
