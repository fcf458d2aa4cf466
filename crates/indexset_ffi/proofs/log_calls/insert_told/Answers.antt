use Rattle.std.proofs.Common.{◌≡◌, length, map, ap, ◌∙◌}
use Rattle.std.specs.Ordering.{nat_cmp}
use Rattle.indexset_core.specs.Pairs.{by_key, pair}
use Rattle.indexset_events.proofs.CallerLemmas.{length-numbered}
use Rattle.indexset_events.specs.Replay.{numbered_from}
use Rattle.indexset_events.specs.Table.{put_events}
use Rattle.indexset_ffi.specs.Elements.{written}
use Rattle.indexset_ffi.specs.Events.{record_of}
use Rattle.indexset_ffi.proofs.log_calls.insert_told.Goals as goal

pub returns-in-Ok-clause-event_count : goal.returns-in-Ok-clause-event_count
returns-in-Ok-clause-event_count c =
    let log = c.args.log.now in let es = put_events (by_key nat_cmp) log.size log.nodes (pair c.args.key c.args.value) in
    let all : c.in-Ok.changes.items ≡ numbered_from log.next es = c.in-Ok.ensures.events.identical ((λ x y h. h), (λ x y h. h)) in
    c.len.ensures ∙ c.in-Ok.changes.ok.0 ∙ ap (λ l. length l) all ∙ length-numbered log.next es

pub returns-in-Ok-clause-events : goal.returns-in-Ok-clause-events
returns-in-Ok-clause-events c =
    let log = c.args.log.now in let es = put_events (by_key nat_cmp) log.size log.nodes (pair c.args.key c.args.value) in
    let all : c.as_slice.result.now ≡ numbered_from log.next es = c.as_slice.ensures.value ∙ c.in-Ok.ensures.events.identical ((λ x y h. h), (λ x y h. h)) in
    c.write_events.ensures ∙ ap (λ l. written (length l) (map record_of l) c.args.events.now) all
    ∙ ap (λ n. written n (map record_of (numbered_from log.next es)) c.args.events.now)
    (length-numbered log.next es)
