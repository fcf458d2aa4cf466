use Rattle.std.proofs.Common.{rules, ◌≡◌, [], ◌∷◌, ◌+◌, ◌++◌, Some, take, add-one, option_and_then, ap, sym, ◌∙◌}
use Rattle.std.proofs.Math.Seq.{take-suc}
use Rattle.std.specs.Cmp.Lexicographic.{slice_cmp}
use Rattle.std.specs.Ordering.{nat_cmp}
use Rattle.indexset.specs.Words.{by_key, replay, step}
use Rattle.example_replica.proofs.follow.Goals as goal

-- another event applies to the nodes so far
pub loop-event-preserved : goal.loop-event-preserved
loop-event-preserved c =
    let cmp = by_key (slice_cmp nat_cmp) in
    let events = c.args.events.now in
    let first = c.args.copy.now.nodes in
    let i = c.loop-event.event-index in
    let event = c.event-item.result in
    let more : take (i + 1) events ≡ take i events ++ (event ∷ []) = rw (add-one, take-suc events i event c.loop-event-test.true) (ap (λ e. take i events ++ (e ∷ [])) (sym c.event-item.is)) in
    let one : replay cmp c.loop-event.copy.nodes (event ∷ []) ≡ Some c.apply.new.self.nodes =
    ap (λ made. option_and_then (λ ns. Some ns) made) {x = step cmp c.loop-event.copy.nodes event}
    (c.in_ok-apply.ensures.step (search rules)) in
    ap (replay cmp first) more
    ∙ (c.replay_in_parts.ensures first (take i events) (event ∷ [])
    ∙ (ap (λ made. option_and_then (λ middle. replay cmp middle (event ∷ [])) made) {x = replay cmp first (take i events)} c.loop-event.invariant ∙ one))
