use Rattle.std.proofs.Common.{◌≡◌, true, not, refl, sym, ap, arith}
use Rattle.std.below.core.specs.declared.int.u64.TheConstants.{MAX}
use Rattle.std.proofs.lemmas.Bool.{le-ltb}
use Rattle.indexset_core.specs.Nodes.{concat}
use Rattle.indexset_core.specs.Pairs.{by_key, has_key, pair}
use Rattle.indexset_events.specs.Keys.{key_removal_events}
use Rattle.indexset_events.specs.Table.{checked_put_events, put_events}
use Rattle.indexset_log.proofs.CallerLemmas.{same_spaced}
use Rattle.indexset_bench.specs.declared.logged.map.LoggedMapReply.TheVariants.{OldValue, Added, Out}
use Rattle.indexset_bench.proofs.Acts.{tree_led}
use Rattle.indexset_lines.proofs.CallerLemmas.{failed}
use Rattle.indexset_bench.proofs.LoggedMaps.{checked_there}
use Rattle.indexset_bench.proofs.logged.map.BTreeMapLogged.act.Goals as goal

pub returns-in_err-old-in-Insert : goal.returns-in_err-old-in-Insert
returns-in_err-old-in-Insert g c =
    let done = c.in_err-old-in-Insert.ensures in
    rw (failed c.from_residual.result _ c.from_residual.ensures, c.in-Insert.is) (record {
      reply = tt;
      state = tt;
      clones = tt;
      events = λ _. tt;
      replay = λ _. tt;
      table = tt;
      at_most_three_events = tt;
      tree = tt;
      next = tt;
      size = ap (λ t. t.size) done.unchanged;
      dense = same_spaced done.unchanged;
      fits = tt;
      refusal = done.refusal;
      unchanged = done.unchanged;
    })

pub returns-in_ok-old-in-Insert : goal.returns-in_ok-old-in-Insert
returns-in_ok-old-in-Insert g c =
    let done = c.in_ok-old-in-Insert.ensures in
    let old = c.args.self.now in
    rw c.in-Insert.is (record {
      reply = ap OldValue done.answer;
      state = done.changed.contents;
      clones = done.events.clones;
      events = done.events.identical;
      replay = done.events.replay;
      table = done.changed.table;
      at_most_three_events = done.events.at_most_three_events;
      tree =
          tree_led (by_key g.K.Ord.cmp) old c.insert_cdc.new.self
          (put_events (by_key g.K.Ord.cmp) old.size old.nodes (pair c.in-Insert.key c.in-Insert.value))
          done.changed.table done.changed.size done.changed.next;
      next = done.changed.next;
      size = done.changed.size;
      dense = done.changed.dense;
      fits = le-ltb MAX _ done.changed.fits;
      refusal = tt;
      unchanged = tt;
    })

pub returns-in_err-events-in-CheckedInsert : goal.returns-in_err-events-in-CheckedInsert
returns-in_err-events-in-CheckedInsert g c =
    let done = c.in_err-events-in-CheckedInsert.ensures in
    rw (failed c.from_residual-in_err-events-in-CheckedInsert.result _ c.from_residual-in_err-events-in-CheckedInsert.ensures, c.in-CheckedInsert.is) (record {
      reply = tt;
      state = tt;
      clones = tt;
      events = λ _. tt;
      replay = λ _. tt;
      table = tt;
      at_most_three_events = tt;
      tree = tt;
      next = tt;
      size = ap (λ t. t.size) done.unchanged;
      dense = same_spaced done.unchanged;
      fits = tt;
      refusal = done.refusal;
      unchanged = done.unchanged;
    })

pub returns-in-Some : goal.returns-in-Some
returns-in-Some g c =
    let done = rw c.in-Some.is at c.in_ok-events-in-CheckedInsert.ensures in
    let old = c.args.self.now in
    rw c.in-CheckedInsert.is (record {
      reply = ap (λ b. Added (not b)) done.answer;
      state = done.changed.contents;
      clones = done.events.clones;
      events = done.events.identical;
      replay = λ same. rw (done.events.identical same) done.changed.table;
      table = done.changed.table;
      at_most_three_events = done.events.at_most_three_events;
      tree =
          tree_led (by_key g.K.Ord.cmp) old c.checked_insert_cdc.new.self
          (checked_put_events (by_key g.K.Ord.cmp) old.size old.nodes
          (pair c.in-CheckedInsert.key c.in-CheckedInsert.value))
          done.changed.table done.changed.size done.changed.next;
      next = done.changed.next;
      size = done.changed.size;
      dense = done.changed.dense;
      fits = le-ltb MAX _ done.changed.fits;
      refusal = tt;
      unchanged = tt;
    })

pub returns-in-None : goal.returns-in-None
returns-in-None g c =
    let done = rw c.in-None.is at c.in_ok-events-in-CheckedInsert.ensures in
    let old = c.args.self.now in
    let there : has_key g.K.Ord.cmp (concat old.nodes) c.in-CheckedInsert.key ≡ true = sym done.answer in
    let silent = checked_there (by_key g.K.Ord.cmp) old.size old.nodes (pair c.in-CheckedInsert.key c.in-CheckedInsert.value) there in
    let led = rw silent at done.changed.table in
    rw (c.in-CheckedInsert.is, c.new.ensures.items) (record {
      reply = ap (λ b. Added (not b)) done.answer;
      state = done.changed.contents;
      clones = rw silent tt;
      events = λ _. rw silent refl;
      replay = λ _. led;
      table = done.changed.table;
      at_most_three_events = omega arith;
      tree =
          tree_led (by_key g.K.Ord.cmp) old c.checked_insert_cdc.new.self
          (checked_put_events (by_key g.K.Ord.cmp) old.size old.nodes
          (pair c.in-CheckedInsert.key c.in-CheckedInsert.value))
          done.changed.table done.changed.size done.changed.next;
      next = done.changed.next;
      size = done.changed.size;
      dense = done.changed.dense;
      fits = le-ltb MAX _ done.changed.fits;
      refusal = tt;
      unchanged = tt;
    })

pub returns-in_err-out-in-Remove : goal.returns-in_err-out-in-Remove
returns-in_err-out-in-Remove g c =
    let done = c.in_err-out-in-Remove.ensures in
    rw (failed c.from_residual-in_err-out-in-Remove.result _ c.from_residual-in_err-out-in-Remove.ensures, c.in-Remove.is) (record {
      reply = tt;
      state = tt;
      clones = tt;
      events = λ _. tt;
      replay = λ _. tt;
      table = tt;
      at_most_three_events = tt;
      tree = tt;
      next = tt;
      size = ap (λ t. t.size) done.unchanged;
      dense = same_spaced done.unchanged;
      fits = tt;
      refusal = done.refusal;
      unchanged = done.unchanged;
    })

pub returns-in_ok-out-in-Remove : goal.returns-in_ok-out-in-Remove
returns-in_ok-out-in-Remove g c =
    let done = c.in_ok-out-in-Remove.ensures in
    let old = c.args.self.now in
    rw c.in-Remove.is (record {
      reply = ap Out done.answer;
      state = done.changed.contents;
      clones = done.events.clones;
      events = done.events.identical;
      replay = done.events.replay;
      table = done.changed.table;
      at_most_three_events = done.events.at_most_three_events;
      tree = tree_led (by_key g.K.Ord.cmp) old c.remove_cdc.new.self (key_removal_events g.K.Ord.cmp old.size old.nodes c.in-Remove.key) done.changed.table done.changed.size done.changed.next;
      next = done.changed.next;
      size = done.changed.size;
      dense = done.changed.dense;
      fits = le-ltb MAX _ done.changed.fits;
      refusal = tt;
      unchanged = tt;
    })
