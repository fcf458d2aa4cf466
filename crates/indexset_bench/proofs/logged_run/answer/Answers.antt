use Rattle.std.proofs.Common.{◌+◌, ◌≤◌, vec_len, vec_capacity, refl, arith, length-append}
use Rattle.indexset_bench.proofs.logged_run.answer.Goals as goal

pub returns-clause-events : goal.returns-clause-events
returns-clause-events g c p =
    let made = c.in_ok-reply.made in
    let fits : vec_len c.reserve-2.new.self + vec_len made ≤ vec_capacity c.reserve-2.new.self = omega (
      arith,
      made.ok.0,
      c.in_ok-reply.ensures.at_most_three_events,
      c.in_ok-reserve-2.ensures.ok,
      c.in_ok-reserve-2.ensures.len,
    ) in
    rw (c.append.ensures.items, c.append.ensures.succeeds fits, c.in_ok-reserve-2.ensures.items, c.in_ok-reply.ensures.events p) refl

pub returns-clause-at_most_three_events : goal.returns-clause-at_most_three_events
returns-clause-at_most_three_events g c =
    let made = c.in_ok-reply.made in
    let fits : vec_len c.reserve-2.new.self + vec_len made ≤ vec_capacity c.reserve-2.new.self = omega (
      arith,
      made.ok.0,
      c.in_ok-reply.ensures.at_most_three_events,
      c.in_ok-reserve-2.ensures.ok,
      c.in_ok-reserve-2.ensures.len,
    ) in
    rw (c.append.ensures.items, c.append.ensures.succeeds fits, c.in_ok-reserve-2.ensures.items)
    (omega (arith, length-append c.args.events.now.items made.items, c.in_ok-reply.ensures.at_most_three_events))

pub returns-clause-clones : goal.returns-clause-clones
returns-clause-clones g c =
    let made = c.in_ok-reply.made in
    let fits : vec_len c.reserve-2.new.self + vec_len made ≤ vec_capacity c.reserve-2.new.self = omega (
      arith,
      made.ok.0,
      c.in_ok-reply.ensures.at_most_three_events,
      c.in_ok-reserve-2.ensures.ok,
      c.in_ok-reserve-2.ensures.len,
    ) in
    rw (c.append.ensures.items, c.append.ensures.succeeds fits, c.in_ok-reserve-2.ensures.items) (made.items, refl, c.in_ok-reply.ensures.clones)
