use Rattle.std.proofs.Common.{◌≡◌, ◌++◌, sym, ap, subst, ◌∙◌}
use Rattle.std.proofs.lemmas.Result.{on_ok_weaker}
use Rattle.std.specs.Io.KnownBytes.{Appends}
use Rattle.std.specs.Option.{option_map_or}
use Rattle.indexset_core.specs.Nodes.{concat}
use Rattle.indexset_core.specs.Pairs.{by_key, pair, pair_of}
use Rattle.indexset_bench.specs.Pairs.{change_reply, echo_text, pair_events, reply_ended, told_events}
use Rattle.indexset_bench.specs.PairText.{event_text, lines_for}
use Rattle.indexset_bench.specs.declared.pair_command.PairCommand.TheVariants.{Put, Cut}
use Rattle.indexset_bench.specs.declared.reply.Reply.TheVariants.{GoneValue, New, Nothing, OldValue}
use Rattle.indexset_bench.proofs.Acts.{tree_led}
use Rattle.indexset_lines.proofs.CallerLemmas.{on_ok_any, write_not_memory, write_not_numbers, write_not_read}
use Rattle.indexset_bench.proofs.PairChanges.{gone_reply, put_some}
use Rattle.indexset_bench.proofs.pairs.answer_pairs.Goals as goal

pub returns-in_err-old-in-Put-clause-only_changes : goal.returns-in_err-old-in-Put-clause-only_changes
returns-in_err-old-in-Put-clause-only_changes g c refused =
    rw c.in-Put.is (put_some (by_key g.T.Ord.cmp) c.args.pairs.now.size c.args.pairs.now.nodes (pair c.in-Put.key c.in-Put.value))

pub returns-in_ok-old-in-Put : goal.returns-in_ok-old-in-Put
returns-in_ok-old-in-Put g c =
    let old = c.args.pairs.now in
    let done = c.in_ok-old-in-Put.ensures in
    let last = c.write_change in
    let replied : c.reply_to_put.result ≡ change_reply g.T.Ord.cmp old (Put c.in-Put.key c.in-Put.value) = c.reply_to_put.ensures ∙ ap (λ o. option_map_or OldValue o New) done.answer in
    let events : c.deref.result.now ≡ told_events g.T.Ord.cmp old (Put c.in-Put.key c.in-Put.value) = c.deref.ensures.value ∙ done.events.identical (g.met.T.Key.identical, g.met.T.Key.identical) in
    rw c.in-Put.is (record {
      pairs =
          on_ok_any last.result
          (tree_led (by_key g.T.Ord.cmp) old c.insert_cdc.new.self
          (pair_events g.T.Ord.cmp old (Put c.in-Put.key c.in-Put.value)) done.changed.table done.changed.size
          done.changed.next);
      told =
          on_ok_weaker last.result
          (subst (Appends _ _)
          (λ i. echo_text c.args.echo
          ++ (reply_ended g.T.Item.texts (replied i) ++ lines_for (event_text g.T.Item.texts) (events i))))
          last.ensures.told;
      memory_refused = λ e. write_not_memory (sym (rw e at last.ensures.fault));
      numbers_refused = λ e. write_not_numbers (sym (rw e at last.ensures.fault));
      only_changes = λ e. write_not_memory (sym (rw e at last.ensures.fault));
      no_numbers = λ e. write_not_numbers (sym (rw e at last.ensures.fault));
      no_read = λ e. write_not_read (sym (rw e at last.ensures.fault));
    })

pub returns-in_ok-out-in-Cut-clause-pairs : goal.returns-in_ok-out-in-Cut-clause-pairs
returns-in_ok-out-in-Cut-clause-pairs g c =
    let old = c.args.pairs.now in
    let done = c.in_ok-out-in-Cut.ensures in
    rw c.in-Cut.is
    (on_ok_any c.write_change-in-Cut.result
    (tree_led (by_key g.T.Ord.cmp) old c.remove_cdc.new.self (pair_events g.T.Ord.cmp old (Cut c.in-Cut.key))
    done.changed.table done.changed.size done.changed.next))

pub returns-in_ok-out-in-Cut-clause-told : goal.returns-in_ok-out-in-Cut-clause-told
returns-in_ok-out-in-Cut-clause-told g c =
    let old = c.args.pairs.now in
    let done = c.in_ok-out-in-Cut.ensures in
    let last = c.write_change-in-Cut in
    let replied : c.reply_to_cut.result ≡ change_reply g.T.Ord.cmp old (Cut c.in-Cut.key) =
    c.reply_to_cut.ensures ∙ ap (λ o. option_map_or (λ entry. GoneValue entry.1) o Nothing) done.answer
    ∙ gone_reply (pair_of g.T.Ord.cmp (concat old.nodes) c.in-Cut.key) in
    let events : c.deref-in-Cut.result.now ≡ told_events g.T.Ord.cmp old (Cut c.in-Cut.key) = c.deref-in-Cut.ensures.value ∙ done.events.identical (g.met.T.Key.identical, g.met.T.Key.identical) in
    rw c.in-Cut.is
    (on_ok_weaker last.result
    (subst (Appends _ _)
    (λ i. echo_text c.args.echo
    ++ (reply_ended g.T.Item.texts (replied i) ++ lines_for (event_text g.T.Item.texts) (events i))))
    last.ensures.told)

pub returns-in_ok-out-in-Cut-clause-memory_refused : goal.returns-in_ok-out-in-Cut-clause-memory_refused
returns-in_ok-out-in-Cut-clause-memory_refused g c e = write_not_memory (sym (rw e at c.write_change-in-Cut.ensures.fault))

pub returns-in_ok-out-in-Cut-clause-numbers_refused : goal.returns-in_ok-out-in-Cut-clause-numbers_refused
returns-in_ok-out-in-Cut-clause-numbers_refused g c e = write_not_numbers (sym (rw e at c.write_change-in-Cut.ensures.fault))

pub returns-in_ok-out-in-Cut-clause-only_changes : goal.returns-in_ok-out-in-Cut-clause-only_changes
returns-in_ok-out-in-Cut-clause-only_changes g c e = write_not_memory (sym (rw e at c.write_change-in-Cut.ensures.fault))

pub returns-in_ok-out-in-Cut-clause-no_numbers : goal.returns-in_ok-out-in-Cut-clause-no_numbers
returns-in_ok-out-in-Cut-clause-no_numbers g c e = write_not_numbers (sym (rw e at c.write_change-in-Cut.ensures.fault))

pub returns-in_ok-out-in-Cut-clause-no_read : goal.returns-in_ok-out-in-Cut-clause-no_read
returns-in_ok-out-in-Cut-clause-no_read g c e = write_not_read (sym (rw e at c.write_change-in-Cut.ensures.fault))
