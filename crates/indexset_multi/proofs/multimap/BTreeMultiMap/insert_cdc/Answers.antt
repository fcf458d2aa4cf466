use Rattle.std.proofs.Common.{◌≡◌, ◌∙◌, ap, refl, sym, arith}
use Rattle.std.specs.Option.{option_map}
use Rattle.std.proofs.lemmas.Grind.{common_steps}
use Rattle.indexset_multi.specs.Changed.{set_tree}
use Rattle.indexset_multi.proofs.InsertLemmas.{replaced_pair}
use Rattle.indexset_multi.proofs.KeyListLemmas.{inserted}
use Rattle.indexset_multi.proofs.PutLemmas.{put_changed, put_numbers, put_refusal, put_replaced, put_told}
use Rattle.indexset_multi.proofs.multimap.BTreeMultiMap.insert_cdc.Goals as goal

pub invariant_of-self : goal.invariant_of-self
invariant_of-self g c = rw c.in_err-old.ensures.unchanged c.self.invariant

pub returns-in_err-old-clause-refusal : goal.returns-in_err-old-clause-refusal
returns-in_err-old-clause-refusal g c =
    let cause =
    c.in_err-old.ensures.refusal
    ∙ put_refusal g.K.Ord.cmp g.V.PartialEq.eq c.args.self.now c.args.key c.args.value (ap set_tree c.self.view_is)
    (ap (λ q. q.0) c.in_ok-pair.ensures.answer) in
    rw (← c.in_ok-pair.ensures.refusal, ← cause) (grind (arith, common_steps))

pub invariant_of-self-2 : goal.invariant_of-self-2
invariant_of-self-2 g c =
    put_numbers g.K.Ord.cmp g.V.PartialEq.eq c.args.self.now c.args.key c.args.value (ap set_tree c.self.view_is)
    (ap (λ q. q.0) c.in_ok-pair.ensures.answer) c.in_ok-old.ensures.changed.contents
    (ap (λ q. q.1) c.in_ok-pair.ensures.answer) c.recall_invariant.ensures.numbers

pub returns : goal.returns
returns g c =
    let cmp = g.K.Ord.cmp in
    let eq = g.V.PartialEq.eq in
    let m = c.args.self.now in
    let k = c.args.key in
    let w = c.args.value in
    let now = c.recall_invariant.ensures in
    let done = c.in_ok-old.ensures in
    let seen : c.self.inside.set ≡ set_tree m = ap set_tree c.self.view_is in
    let pair = ap (λ q. q.0) c.in_ok-pair.ensures.answer in
    let changed = put_changed cmp eq m k w seen pair (ap (λ q. q.1) c.in_ok-pair.ensures.answer) done.changed in
    let d = inserted cmp g.met.K.Ord.total eq m k w g.met.V.Eq.laws.refl now.tree.lawful now.numbers refl refl changed.contents in
    record {
      answer =
          c.value_in.ensures
          ∙ ap (λ o. option_map (λ p. p.value) o) (done.answer ∙ put_replaced cmp eq m k w seen pair ∙ replaced_pair cmp eq m k w g.met.K.Ord.total now.tree.lawful now.numbers);
      refusal = tt;
      given_back = tt;
      unchanged = tt;
      number_left = sym c.in_ok-pair.ensures.refusal;
      inserted = record { contains = d.contains; last = d.last; others = d.others };
      changed = changed;
      events = put_told cmp eq m k w seen pair (ap (λ q. q.1) c.in_ok-pair.ensures.answer) done.changed c.in_ok-old.events.items done.events.clones;
    }
