use Rattle.std.proofs.Common.{◌/◌, ap, sym, subst, ◌∙◌}
use Rattle.std.below.core.specs.declared.int.u64.TheConstants.{MAX}
use Rattle.std.proofs.lemmas.Bool.{le-ltb}
use Rattle.indexset_core.specs.Nodes.{concat}
use Rattle.indexset_core.specs.declared.refusal.Refusal.TheVariants.{Memory, Numbers}
use Rattle.indexset_events.specs.Merging.{IsDense}
use Rattle.indexset_multi.specs.Keys.{equal_pair, first_pair}
use Rattle.indexset_multi.specs.Tree.{insertion_events, lacks_number, pair_next_after, pair_removal_events}
use Rattle.indexset_bench.specs.declared.logged.multimap.LoggedMultiReply.TheVariants.{OldValue, Out}
use Rattle.indexset_bench.proofs.Acts.{either_lack, multi_led, multi_state}
use Rattle.indexset_lines.proofs.CallerLemmas.{failed}
use Rattle.indexset_bench.proofs.logged.multimap.BTreeMultiMapLogged.act.Goals as goal

pub returns-in_err-old-in-Insert : goal.returns-in_err-old-in-Insert
returns-in_err-old-in-Insert g c =
    let done = c.in_err-old-in-Insert.ensures in
    rw (failed c.from_residual.result _ c.from_residual.ensures, c.in-Insert.is) (record {
      reply = tt;
      state = tt;
      clones = tt;
      events = λ _. tt;
      replay = λ _. tt;
      table = tt;
      at_most_three_events = tt;
      tree = tt;
      next = tt;
      size = ap (λ t. t.size) done.unchanged;
      dense = subst (λ t. IsDense (t.size / 2) t.nodes) (sym done.unchanged);
      fits = tt;
      refusal = done.refusal ∙ either_lack (lacks_number g.K.Ord.cmp g.V.PartialEq.eq c.args.self.now c.in-Insert.key c.in-Insert.value) _ Numbers Memory;
      unchanged = done.unchanged;
    })

pub returns-in_ok-old-in-Insert : goal.returns-in_ok-old-in-Insert
returns-in_ok-old-in-Insert g c =
    let done = c.in_ok-old-in-Insert.ensures in
    let old = c.args.self.now in
    rw c.in-Insert.is (record {
      reply = ap OldValue done.answer;
      state = λ i. multi_state (done.changed.contents i) (done.changed.pair_next i);
      clones = done.events.clones;
      events = done.events.identical;
      replay = done.events.replay;
      table = done.changed.table;
      at_most_three_events = done.events.at_most_three_events;
      tree =
          multi_led g.K.Ord.cmp old c.insert_cdc.new.self
          (insertion_events g.K.Ord.cmp g.V.PartialEq.eq old c.in-Insert.key c.in-Insert.value)
          (pair_next_after g.K.Ord.cmp g.V.PartialEq.eq old c.in-Insert.key c.in-Insert.value) done.changed.table
          done.changed.size done.changed.next done.changed.pair_next;
      next = done.changed.next;
      size = done.changed.size;
      dense = done.changed.dense;
      fits = rw done.number_left (le-ltb MAX _ done.changed.fits);
      refusal = tt;
      unchanged = tt;
    })

pub returns-in_err-out-in-RemoveSome : goal.returns-in_err-out-in-RemoveSome
returns-in_err-out-in-RemoveSome g c =
    let done = c.in_err-out-in-RemoveSome.ensures in
    rw (failed c.from_residual-in_err-out-in-RemoveSome.result _ c.from_residual-in_err-out-in-RemoveSome.ensures, c.in-RemoveSome.is) (record {
      reply = tt;
      state = tt;
      clones = tt;
      events = λ _. tt;
      replay = λ _. tt;
      table = tt;
      at_most_three_events = tt;
      tree = tt;
      next = tt;
      size = ap (λ t. t.size) done.unchanged;
      dense = subst (λ t. IsDense (t.size / 2) t.nodes) (sym done.unchanged);
      fits = tt;
      refusal = done.refusal;
      unchanged = done.unchanged;
    })

pub returns-in_ok-out-in-RemoveSome : goal.returns-in_ok-out-in-RemoveSome
returns-in_ok-out-in-RemoveSome g c =
    let done = c.in_ok-out-in-RemoveSome.ensures in
    let old = c.args.self.now in
    rw c.in-RemoveSome.is (record {
      reply = ap Out done.answer;
      state = λ i. multi_state (done.changed.contents i) (done.changed.pair_next i);
      clones = done.events.clones;
      events = done.events.identical;
      replay = done.events.replay;
      table = done.changed.table;
      at_most_three_events = done.events.at_most_three_events;
      tree =
          multi_led g.K.Ord.cmp old c.remove_some_cdc.new.self
          (pair_removal_events g.K.Ord.cmp old.size old.nodes
          (first_pair g.K.Ord.cmp (concat old.nodes) c.in-RemoveSome.key))
          (old.pair_next) done.changed.table done.changed.size done.changed.next done.changed.pair_next;
      next = done.changed.next;
      size = done.changed.size;
      dense = done.changed.dense;
      fits = le-ltb MAX _ done.changed.fits;
      refusal = tt;
      unchanged = tt;
    })

pub returns-in_err-out-in-Remove : goal.returns-in_err-out-in-Remove
returns-in_err-out-in-Remove g c =
    let done = c.in_err-out-in-Remove.ensures in
    rw (failed c.from_residual-in_err-out-in-Remove.result _ c.from_residual-in_err-out-in-Remove.ensures, c.in-Remove.is) (record {
      reply = tt;
      state = tt;
      clones = tt;
      events = λ _. tt;
      replay = λ _. tt;
      table = tt;
      at_most_three_events = tt;
      tree = tt;
      next = tt;
      size = ap (λ t. t.size) done.unchanged;
      dense = subst (λ t. IsDense (t.size / 2) t.nodes) (sym done.unchanged);
      fits = tt;
      refusal = done.refusal;
      unchanged = done.unchanged;
    })

pub returns-in_ok-out-in-Remove : goal.returns-in_ok-out-in-Remove
returns-in_ok-out-in-Remove g c =
    let done = c.in_ok-out-in-Remove.ensures in
    let old = c.args.self.now in
    rw c.in-Remove.is (record {
      reply = ap Out done.answer;
      state = λ i. multi_state (done.changed.contents i) (done.changed.pair_next i);
      clones = done.events.clones;
      events = done.events.identical;
      replay = done.events.replay;
      table = done.changed.table;
      at_most_three_events = done.events.at_most_three_events;
      tree =
          multi_led g.K.Ord.cmp old c.remove_cdc.new.self
          (pair_removal_events g.K.Ord.cmp old.size old.nodes
          (equal_pair g.K.Ord.cmp g.V.PartialEq.eq (concat old.nodes) c.in-Remove.key c.in-Remove.value))
          (old.pair_next) done.changed.table done.changed.size done.changed.next done.changed.pair_next;
      next = done.changed.next;
      size = done.changed.size;
      dense = done.changed.dense;
      fits = le-ltb MAX _ done.changed.fits;
      refusal = tt;
      unchanged = tt;
    })
