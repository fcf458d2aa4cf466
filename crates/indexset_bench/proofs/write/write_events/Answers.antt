use Rattle.std.proofs.Common.{rules, arith, ◌≡◌, subst, take}
use Rattle.std.proofs.KnownBytes.{Appends-nil}
use Rattle.std.proofs.lemmas.List.{take_all}
use Rattle.std.specs.Io.KnownBytes.{Appends}
use Rattle.indexset_bench.specs.PairText.{ended, event_text}
use Rattle.indexset_bench.proofs.Written.{more_lines, on_ok_given}
use Rattle.indexset_bench.proofs.write.write_events.Goals as goal

pub loop-event-init : goal.loop-event-init
loop-event-init g c = Appends-nil _

pub loop-event-preserved : goal.loop-event-preserved
loop-event-preserved g c =
    let told = on_ok_given _ c.write_event.result _ c.write_event.ensures.told (search rules) in
    let line = subst (λ e. Appends (g.W.Write.contents c.loop-event.writer) (g.W.Write.contents c.write_event.new.writer) (ended (event_text g.T.Item.texts e))) c.event-item.is told in
    more_lines (event_text g.T.Item.texts) c.args.events.now c.loop-event.event-index c.event-item.result (omega arith) _ _ _ c.loop-event.invariant line

pub returns-clause-told : goal.returns-clause-told
returns-clause-told g c =
    let all : take c.loop-event.event-index c.args.events.now ≡ c.args.events.now = take_all _ _ c.loop-event-test.false in
    rw all at c.loop-event.invariant
