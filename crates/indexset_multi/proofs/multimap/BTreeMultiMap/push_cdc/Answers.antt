use Rattle.std.proofs.Common.{rules, ◌≡◌, false, IfErr, ◌∙◌, ap, sym, subst}
use Rattle.indexset_multi.specs.Changed.{set_tree}
use Rattle.indexset_multi.proofs.AdditionLemmas.{added, new_is, next_is, none_left, some_left}
use Rattle.indexset_multi.proofs.PutLemmas.{put_changed, put_numbers, put_refusal, put_told}
use Rattle.indexset_multi.proofs.multimap.BTreeMultiMap.push_cdc.Goals as goal

pub invariant_of-self : goal.invariant_of-self
invariant_of-self g c = rw c.in_err-events.ensures.unchanged c.self.invariant

pub returns-in_err-pair-clause-refusal : goal.returns-in_err-pair-clause-refusal
returns-in_err-pair-clause-refusal g c =
    let kept : IfErr c.from_residual.result (λ e. e.cause ≡ c.in_err-pair.field-0.0.cause) = search rules in
    let m = c.args.self.now in
    subst (λ r. IfErr c.from_residual.result (λ e. e.cause ≡ r)) (c.in_err-pair.ensures.cause ∙ none_left g.K.Ord.cmp m c.args.key c.args.value (sym c.in_err-pair.ensures.refusal)) kept

pub returns-in_err-events-clause-refusal : goal.returns-in_err-events-clause-refusal
returns-in_err-events-clause-refusal g c =
    let cmp = g.K.Ord.cmp in
    let m = c.args.self.now in
    let k = c.args.key in
    let w = c.args.value in
    let pair = ap (λ q. q.0) c.in_ok-pair.ensures.answer ∙ new_is cmp m k w in
    let cause = c.in_err-events.ensures.refusal ∙ put_refusal cmp (λ _ _. false) m k w (ap set_tree c.self.view_is) pair in
    let kept : IfErr c.from_residual-in_err-events.result (λ e. e.cause ≡ c.in_err-events.field-0.0.cause) = search rules in
    subst (λ r. IfErr c.from_residual-in_err-events.result (λ e. e.cause ≡ r)) (cause ∙ some_left cmp m k w (sym c.in_ok-pair.ensures.refusal)) kept

pub invariant_of-self-2 : goal.invariant_of-self-2
invariant_of-self-2 g c =
    let cmp = g.K.Ord.cmp in
    let m = c.args.self.now in
    let k = c.args.key in
    let w = c.args.value in
    let pair = ap (λ q. q.0) c.in_ok-pair.ensures.answer ∙ new_is cmp m k w in
    let pair_next = ap (λ q. q.1) c.in_ok-pair.ensures.answer ∙ next_is cmp m k w in
    put_numbers cmp (λ _ _. false) m k w (ap set_tree c.self.view_is) pair c.in_ok-events.ensures.changed.contents pair_next c.recall_invariant.ensures.numbers

pub returns : goal.returns
returns g c =
    let cmp = g.K.Ord.cmp in
    let m = c.args.self.now in
    let k = c.args.key in
    let w = c.args.value in
    let now = c.recall_invariant.ensures in
    let done = c.in_ok-events.ensures in
    let seen : c.self.inside.set ≡ set_tree m = ap set_tree c.self.view_is in
    let pair = ap (λ q. q.0) c.in_ok-pair.ensures.answer ∙ new_is cmp m k w in
    let pair_next = ap (λ q. q.1) c.in_ok-pair.ensures.answer ∙ next_is cmp m k w in
    let changed = put_changed cmp (λ _ _. false) m k w seen pair pair_next done.changed in
    record {
      refusal = tt;
      given_back = tt;
      unchanged = tt;
      number_left = sym c.in_ok-pair.ensures.refusal;
      added = added cmp m k w g.met.K.Ord.total now.tree.lawful now.numbers _ changed.contents;
      changed = changed;
      events = put_told cmp (λ _ _. false) m k w seen pair pair_next done.changed c.in_ok-events.events.items done.events.clones;
    }
