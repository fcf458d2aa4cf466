use Rattle.std.proofs.Common.{◌≡◌, length, map, None, ap, sym, ◌∙◌}
use Rattle.std.proofs.lemmas.Bool.{false≢true}
use Rattle.std.proofs.lemmas.Option.{none-some}
use Rattle.std.specs.Ordering.{nat_cmp}
use Rattle.indexset_core.specs.Nodes.{concat}
use Rattle.indexset_core.specs.Pairs.{entry_of, pair_of}
use Rattle.indexset_events.proofs.CallerLemmas.{length-numbered}
use Rattle.indexset_events.specs.Keys.{key_removal_events}
use Rattle.indexset_events.specs.Replay.{numbered_from}
use Rattle.indexset_ffi.specs.Elements.{written}
use Rattle.indexset_ffi.specs.Events.{record_of}
use Rattle.indexset_ffi.proofs.LogLemmas.{kept_tree, mapped_none, none_told}
use Rattle.indexset_ffi.proofs.log_calls.remove_told.Goals.{in-Some, in-None}
use Rattle.indexset_ffi.proofs.log_calls.remove_told.Goals as goal

pub returns-clause-event_count : goal.returns-clause-event_count
returns-clause-event_count c =
    let log = c.args.log.now in let es = key_removal_events nat_cmp log.size log.nodes c.args.key in
    let all : c.in_ok-found.changes.items ≡ numbered_from log.next es = c.in_ok-found.ensures.events.identical ((λ x y h. h), (λ x y h. h)) in
    c.len.ensures ∙ c.in_ok-found.changes.ok.0 ∙ ap (λ l. length l) all ∙ length-numbered log.next es

pub returns-clause-events : goal.returns-clause-events
returns-clause-events c =
    let log = c.args.log.now in let es = key_removal_events nat_cmp log.size log.nodes c.args.key in
    let all : c.as_slice.result.now ≡ numbered_from log.next es = c.as_slice.ensures.value ∙ c.in_ok-found.ensures.events.identical ((λ x y h. h), (λ x y h. h)) in
    c.write_events.ensures ∙ ap (λ l. written (length l) (map record_of l) c.args.events.now) all
    ∙ ap (λ n. written n (map record_of (numbered_from log.next es)) c.args.events.now)
    (length-numbered log.next es)

pub returns-clause-absent : goal.returns-clause-absent
returns-clause-absent c none =
    let log = c.args.log.now in let new = c.remove_cdc.new.self in let k = c.args.key in let es = key_removal_events nat_cmp log.size log.nodes k in
    let e = c.in_ok-found.ensures in
    let gone : pair_of nat_cmp (concat log.nodes) k ≡ None = elim c.match-found.branch [
      | in-Some w ↦ absurd (none-some _ (sym none ∙ w.value-is))
      | in-None w ↦ mapped_none entry_of (pair_of nat_cmp (concat log.nodes) k) (sym e.answer ∙ w.in-None.is)
    ] in
    let zero : length es ≡ 0 = ap (λ l. length l) (none_told nat_cmp log.size log.nodes k gone) in
    (returns-clause-event_count c ∙ zero, kept_tree nat_cmp nat_cmp log new k gone e.changed)

-- the removal of an absent key has no events, and does not fail
pub returns-in_err-found-clause-no_event : goal.returns-in_err-found-clause-no_event
returns-in_err-found-clause-no_event c none =
    let log = c.args.log.now in let k = c.args.key in
    absurd (false≢true (c.in_err-found.ensures.no_event (none_told nat_cmp log.size log.nodes k (mapped_none (λ p. p.value) (pair_of nat_cmp (concat log.nodes) k) none))))
