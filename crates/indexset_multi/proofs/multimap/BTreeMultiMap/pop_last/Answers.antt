use Rattle.std.proofs.Common.{rules, ◌≡◌, ◌+◌, ◌-◌, ◌<◌, ◌≤◌, IfErr, Some, length, ap, refl, subst, sym, ◌∙◌, slice_get, arith}
use Rattle.std.below.core.specs.declared.int.u64.TheConstants.{MAX}
use Rattle.std.specs.Option.{option_map}
use Rattle.std.proofs.lemmas.Bool.{false≢true}
use Rattle.std.proofs.lemmas.List.Elements.{All-take}
use Rattle.indexset_core.specs.MultiPairs.{by_number}
use Rattle.indexset_core.specs.Nodes.{concat}
use Rattle.indexset_log.specs.Changed.{Changed, last_removal}
use Rattle.indexset_events.specs.Replay.{numbered_from, replay}
use Rattle.indexset_log.specs.Tree.{refusal_for}
use Rattle.indexset_multi.specs.Changed.{last_pair_removal, set_tree}
use Rattle.indexset_multi.specs.Keys.{AreNumberedBelow, key_and_value}
use Rattle.indexset_multi.proofs.EndLemmas.{told_at}
use Rattle.indexset_multi.proofs.PairRemovalLemmas.{multi_changed, removal_tree}
use Rattle.indexset_multi.proofs.multimap.BTreeMultiMap.pop_last.Goals as goal

pub invariant_of-self : goal.invariant_of-self
invariant_of-self g c = rw c.in_err-pair.ensures.unchanged c.self.invariant

pub returns-in_err-pair-clause-refusal : goal.returns-in_err-pair-clause-refusal
returns-in_err-pair-clause-refusal g c =
    let told = told_at g.K.Ord.cmp (λ t. length (concat t.nodes) - 1) c.self.view_is in
    let next : c.self.inside.set.next ≡ c.args.self.now.next = ap (λ t. t.next) c.self.view_is in
    let kept : IfErr c.from_residual.result (λ e. e ≡ c.in_err-pair.field-0.0) = search rules in
    subst (λ r. IfErr c.from_residual.result (λ e. e ≡ r)) (c.in_err-pair.ensures.refusal ∙ (λ i. refusal_for (next i) (length (told i)))) kept

pub returns-in_err-pair-clause-no_event : goal.returns-in_err-pair-clause-no_event
returns-in_err-pair-clause-no_event g c none =
    let told = told_at g.K.Ord.cmp (λ t. length (concat t.nodes) - 1) c.self.view_is in
    absurd (false≢true (c.in_err-pair.ensures.no_event (told ∙ none)))

pub returns-in_err-pair-clause-no_memory : goal.returns-in_err-pair-clause-no_memory
returns-in_err-pair-clause-no_memory g c few fits =
    let count = ap (λ l. length l) (told_at g.K.Ord.cmp (λ t. length (concat t.nodes) - 1) c.self.view_is) in
    let next : c.self.inside.set.next ≡ c.args.self.now.next = ap (λ t. t.next) c.self.view_is in
    absurd (false≢true (c.in_err-pair.ensures.no_memory (omega (arith, count, few)) (omega (arith, count, next, fits))))

pub returns-in_err-pair-clause-never : goal.returns-in_err-pair-clause-never
returns-in_err-pair-clause-never g c free fits =
    let count = ap (λ l. length l) (told_at g.K.Ord.cmp (λ t. length (concat t.nodes) - 1) c.self.view_is) in
    let next : c.self.inside.set.next ≡ c.args.self.now.next = ap (λ t. t.next) c.self.view_is in
    absurd (false≢true (c.in_err-pair.ensures.never free (omega (arith, count, next, fits))))

pub invariant_of-self-2 : goal.invariant_of-self-2
invariant_of-self-2 g c =
    subst (AreNumberedBelow c.self.inside.pair_next) (sym c.in_ok-pair.ensures.changed.contents)
    (All-take (λ p. p.discriminator < c.self.inside.pair_next) (length (concat c.self.inside.set.nodes) - 1)
    (concat c.self.inside.set.nodes) c.self.invariant)

pub returns : goal.returns
returns g c =
    let done = c.in_ok-pair.ensures in
    let m = c.args.self.now in
    let after = c.pop_last.new.self in
    let same : c.self.inside.set.nodes ≡ m.nodes = ap (λ t. t.nodes) c.self.view_is in
    let size : c.self.inside.set.size ≡ m.size = ap (λ t. t.size) c.self.view_is in
    let next : c.self.inside.set.next ≡ m.next = ap (λ t. t.next) c.self.view_is in
    let seen : c.self.inside.set ≡ set_tree m = λ i. record { nodes = same i; size = size i; next = next i } in
    let told = told_at g.K.Ord.cmp (λ t. length (concat t.nodes) - 1) {m = m} {n = m} refl in
    let made = subst (λ t. Changed (by_number g.K.Ord.cmp) t after (last_removal (by_number g.K.Ord.cmp) t)) seen done.changed in
    let replayed = subst (λ es. replay (by_number g.K.Ord.cmp) m.nodes (numbered_from m.next es) ≡ Some after.nodes) told made.table in
    let all_next = made.next ∙ ap (λ es. m.next + length es) told in
    let pair_next = ap (λ t. t.pair_next) c.self.view_is in
    let tree = removal_tree g.K.Ord.cmp m (slice_get (concat m.nodes) (length (concat m.nodes) - 1)) replayed made.size all_next pair_next in
    let changed = multi_changed {cmp = g.K.Ord.cmp} {old = m} {made = last_pair_removal g.K.Ord.cmp m} tree (subst (λ es. m.next + length es ≤ MAX) told made.fits) (record {
      contents = made.contents;
      size = made.size;
      next = all_next;
      table = replayed;
      at_most_three_events = subst (λ es. length es ≤ 3) told made.at_most_three_events;
      dense = made.dense;
    }) in
    record {
      answer = c.entry_of.ensures ∙ ap (option_map key_and_value) (done.answer ∙ (λ i. slice_get (concat (same i)) (length (concat (same i)) - 1)));
      refusal = tt;
      no_event = λ _. refl;
      no_memory = λ _ _. refl;
      never = λ _ _. refl;
      unchanged = tt;
      changed = changed;
    }
