use Rattle.std.proofs.Common.{◌≡◌, true, not, refl, sym, ap, arith}
use Rattle.std.below.core.specs.declared.int.u64.TheConstants.{MAX}
use Rattle.std.proofs.lemmas.Bool.{le-ltb}
use Rattle.indexset_core.specs.Nodes.{concat}
use Rattle.indexset_core.specs.Order.{has_equal}
use Rattle.indexset_events.specs.Table.{checked_put_events, put_events, removal_events}
use Rattle.indexset_log.proofs.CallerLemmas.{same_spaced}
use Rattle.indexset_bench.specs.declared.logged.set.LoggedSetReply.TheVariants.{Old, Added}
use Rattle.indexset_bench.proofs.Acts.{tree_led}
use Rattle.indexset_lines.proofs.CallerLemmas.{failed}
use Rattle.indexset_bench.proofs.LoggedMaps.{checked_there}
use Rattle.indexset_bench.proofs.logged.set.BTreeSetLogged.act.Goals as goal

pub returns-in_err-old-in-Put : goal.returns-in_err-old-in-Put
returns-in_err-old-in-Put g c =
    let done = c.in_err-old-in-Put.ensures in
    rw (failed c.from_residual.result _ c.from_residual.ensures, c.in-Put.is) (record {
      reply = tt;
      state = tt;
      clones = tt;
      events = λ _. tt;
      replay = λ _. tt;
      table = tt;
      at_most_three_events = tt;
      tree = tt;
      next = tt;
      size = ap (λ t. t.size) done.unchanged;
      dense = same_spaced done.unchanged;
      fits = tt;
      refusal = done.refusal;
      unchanged = done.unchanged;
    })

pub returns-in_ok-old-in-Put : goal.returns-in_ok-old-in-Put
returns-in_ok-old-in-Put g c =
    let done = c.in_ok-old-in-Put.ensures in
    let old = c.args.self.now in
    rw c.in-Put.is (record {
      reply = ap Old done.answer;
      state = done.changed.contents;
      clones = done.events.clones;
      events = done.events.identical;
      replay = done.events.replay;
      table = done.changed.table;
      at_most_three_events = done.events.at_most_three_events;
      tree = tree_led g.T.Ord.cmp old c.put_cdc.new.self (put_events g.T.Ord.cmp old.size old.nodes c.in-Put.value) done.changed.table done.changed.size done.changed.next;
      next = done.changed.next;
      size = done.changed.size;
      dense = done.changed.dense;
      fits = le-ltb MAX _ done.changed.fits;
      refusal = tt;
      unchanged = tt;
    })

pub returns-in_err-events-in-PutChecked : goal.returns-in_err-events-in-PutChecked
returns-in_err-events-in-PutChecked g c =
    let done = c.in_err-events-in-PutChecked.ensures in
    rw (failed c.from_residual-in_err-events-in-PutChecked.result _ c.from_residual-in_err-events-in-PutChecked.ensures, c.in-PutChecked.is) (record {
      reply = tt;
      state = tt;
      clones = tt;
      events = λ _. tt;
      replay = λ _. tt;
      table = tt;
      at_most_three_events = tt;
      tree = tt;
      next = tt;
      size = ap (λ t. t.size) done.unchanged;
      dense = same_spaced done.unchanged;
      fits = tt;
      refusal = done.refusal;
      unchanged = done.unchanged;
    })

pub returns-in-Some : goal.returns-in-Some
returns-in-Some g c =
    let done = rw c.in-Some.is at c.in_ok-events-in-PutChecked.ensures in
    let old = c.args.self.now in
    rw c.in-PutChecked.is (record {
      reply = ap (λ b. Added (not b)) done.answer;
      state = done.changed.contents;
      clones = done.events.clones;
      events = done.events.identical;
      replay = λ same. rw (done.events.identical same) done.changed.table;
      table = done.changed.table;
      at_most_three_events = done.events.at_most_three_events;
      tree = tree_led g.T.Ord.cmp old c.put_cdc_checked.new.self (checked_put_events g.T.Ord.cmp old.size old.nodes c.in-PutChecked.value) done.changed.table done.changed.size done.changed.next;
      next = done.changed.next;
      size = done.changed.size;
      dense = done.changed.dense;
      fits = le-ltb MAX _ done.changed.fits;
      refusal = tt;
      unchanged = tt;
    })

pub returns-in-None : goal.returns-in-None
returns-in-None g c =
    let done = rw c.in-None.is at c.in_ok-events-in-PutChecked.ensures in
    let old = c.args.self.now in
    let there : has_equal g.T.Ord.cmp (concat old.nodes) c.in-PutChecked.value ≡ true = sym done.answer in
    let silent = checked_there g.T.Ord.cmp old.size old.nodes c.in-PutChecked.value there in
    let led = rw silent at done.changed.table in
    rw (c.in-PutChecked.is, c.new.ensures.items) (record {
      reply = ap (λ b. Added (not b)) done.answer;
      state = done.changed.contents;
      clones = rw silent tt;
      events = λ _. rw silent refl;
      replay = λ _. led;
      table = done.changed.table;
      at_most_three_events = omega arith;
      tree = tree_led g.T.Ord.cmp old c.put_cdc_checked.new.self (checked_put_events g.T.Ord.cmp old.size old.nodes c.in-PutChecked.value) done.changed.table done.changed.size done.changed.next;
      next = done.changed.next;
      size = done.changed.size;
      dense = done.changed.dense;
      fits = le-ltb MAX _ done.changed.fits;
      refusal = tt;
      unchanged = tt;
    })

pub returns-in_err-old-in-Remove : goal.returns-in_err-old-in-Remove
returns-in_err-old-in-Remove g c =
    let done = c.in_err-old-in-Remove.ensures in
    rw (failed c.from_residual-in_err-old-in-Remove.result _ c.from_residual-in_err-old-in-Remove.ensures, c.in-Remove.is) (record {
      reply = tt;
      state = tt;
      clones = tt;
      events = λ _. tt;
      replay = λ _. tt;
      table = tt;
      at_most_three_events = tt;
      tree = tt;
      next = tt;
      size = ap (λ t. t.size) done.unchanged;
      dense = same_spaced done.unchanged;
      fits = tt;
      refusal = done.refusal;
      unchanged = done.unchanged;
    })

pub returns-in_ok-old-in-Remove : goal.returns-in_ok-old-in-Remove
returns-in_ok-old-in-Remove g c =
    let done = c.in_ok-old-in-Remove.ensures in
    let old = c.args.self.now in
    rw c.in-Remove.is (record {
      reply = ap Old done.answer;
      state = done.changed.contents;
      clones = done.events.clones;
      events = done.events.identical;
      replay = done.events.replay;
      table = done.changed.table;
      at_most_three_events = done.events.at_most_three_events;
      tree = tree_led g.T.Ord.cmp old c.remove_cdc.new.self (removal_events g.T.Ord.cmp old.size old.nodes c.in-Remove.value) done.changed.table done.changed.size done.changed.next;
      next = done.changed.next;
      size = done.changed.size;
      dense = done.changed.dense;
      fits = le-ltb MAX _ done.changed.fits;
      refusal = tt;
      unchanged = tt;
    })
