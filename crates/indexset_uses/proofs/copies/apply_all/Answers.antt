use Rattle.std.proofs.Common.{◌≡◌, [], ◌∷◌, ◌+◌, ◌-◌, ◌++◌, Some, drop, length, slice_get, take, add-one, option_and_then, ap, sym, ◌∙◌, refl, subst, arith}
use Rattle.std.proofs.Math.Seq.{take-suc}
use Rattle.std.proofs.lemmas.Grind.{common_steps}
use Rattle.std.proofs.lemmas.List.{at_drop_more, drop_all}
use Rattle.std.proofs.lemmas.Option.{slice_get_read}
use Rattle.indexset.specs.Words.{replay, step}
use Rattle.indexset_uses.proofs.Copied.{IsOnTheWay, at_end, one_more}
use Rattle.indexset_uses.proofs.copies.apply_all.Goals as goal

pub loop-event-init : goal.loop-event-init
loop-event-init g c = record {
  counted = omega arith;
  applied = λ clones. refl;
  copies = λ equal ns after es copied cloned led. record { nodes = ns; events = es; copied = copied; cloned = cloned; led = led };
}

pub loop-event-preserved : goal.loop-event-preserved
loop-event-preserved g c =
    let cmp = g.T.Ord.cmp in
    let C = g.T.Clone.is_clone in
    let events = c.args.events.now in
    let i = c.loop-event.event-index in
    let nodes = c.loop-event.copy.nodes in
    let rest = drop (i + 1) events in
    let next : drop i events ≡ c.event-item.result ∷ rest = at_drop_more (λ left. left) events i c.event-item.result c.loop-event-test.true ∙ ap (λ event. event ∷ rest) (sym c.event-item.is) in
    let more : take (i + 1) events ≡ take i events ++ (c.event-item.result ∷ []) =
    rw (add-one, take-suc events i c.event-item.result c.loop-event-test.true)
    (ap (λ e. take i events ++ (e ∷ [])) (sym c.event-item.is)) in
    record {
      counted = omega (arith, c.in_ok-apply.ensures.next);
      applied = λ clones.
          let one : replay cmp nodes (c.event-item.result ∷ []) ≡ Some c.apply.new.self.nodes =
          ap (λ made. option_and_then (λ ns. Some ns) made) {x = step cmp nodes c.event-item.result}
          (c.in_ok-apply.ensures.step clones) in
          ap (replay cmp c.args.copy.now.nodes) more
          ∙ (c.replay_in_parts.ensures c.args.copy.now.nodes (take i events) (c.event-item.result ∷ [])
          ∙ (ap (λ made. option_and_then (λ middle. replay cmp middle (c.event-item.result ∷ [])) made)
          {x = replay cmp c.args.copy.now.nodes (take i events)} (c.loop-event.invariant.applied clones)
          ∙ one));
      copies = λ equal ns after es copied cloned led.
          let way = subst (IsOnTheWay cmp C after nodes) next (c.loop-event.invariant.copies equal ns after es copied cloned led) in
          one_more cmp C after nodes (c.step_of_clones.ensures equal) c.apply.new.self.nodes c.event-item.result rest c.in_ok-apply.ensures.cloned way;
    }

pub returns-clause-copies : goal.returns-clause-copies
returns-clause-copies g c = λ equal ns after es copied cloned led.
    let events = c.args.events.now in
    let none : drop c.loop-event.event-index events ≡ [] = drop_all c.loop-event.event-index events (omega arith) in
    at_end g.T.Ord.cmp g.T.Clone.is_clone after c.loop-event.copy.nodes
    (subst (IsOnTheWay g.T.Ord.cmp g.T.Clone.is_clone after c.loop-event.copy.nodes) none
    (c.loop-event.invariant.copies equal ns after es copied cloned led))

-- the replica expects the event that it refused
pub returns-in_err-apply-clause-refusal : goal.returns-in_err-apply-clause-refusal
returns-in_err-apply-clause-refusal g c =
    let events = c.args.events.now in
    let i = c.loop-event.event-index in
    let there : slice_get events i ≡ Some c.event-item.result = slice_get_read events (length events) i c.event-item.result refl c.loop-event-test.true c.event-item.is in
    let counted = c.loop-event.invariant.counted in
    let place : c.loop-event.copy.next - c.args.copy.now.next ≡ i = omega (arith, counted) in
    rw (c.in_err-apply.ensures.unchanged, place, there, ← c.in_err-apply.ensures.refusal) (grind (arith, common_steps))
