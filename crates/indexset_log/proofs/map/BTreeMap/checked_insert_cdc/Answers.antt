use Rattle.std.proofs.Common.{ap, ◌∙◌}
use Rattle.std.proofs.lemmas.Result.{err_from_is_err_and}
use Rattle.indexset_log.proofs.OtherKeyLemmas.{added_written}
use Rattle.indexset_log.proofs.ChangeLemmas.{if_some_map, pairs_told}
use Rattle.indexset_log.proofs.map.BTreeMap.checked_insert_cdc.Goals as goal

pub returns-in_err-put_cdc_checked : goal.returns-in_err-put_cdc_checked
returns-in_err-put_cdc_checked g c =
    let done = rw c.self.view_is at c.in_err-put_cdc_checked.ensures in
    let e = err_from_is_err_and c.from_residual.result c.from_residual.ensures.1 in
    rw e.1
    (record {
      answer = tt;
      refusal = e.2.1 ∙ done.refusal;
      no_event = done.no_event;
      given_back = e.2.0 ∙ ap (λ p. (p.key, p.value)) done.given_back;
      unchanged = done.unchanged;
      contains = tt;
      written = tt;
      changed = tt;
      events = tt;
    })

pub returns : goal.returns
returns g c =
    let done = rw c.self.view_is at c.in_ok-put_cdc_checked.ensures in
    record {
      answer = done.answer;
      refusal = tt;
      no_event = done.no_event;
      given_back = tt;
      unchanged = tt;
      contains = done.contains;
      written = added_written g.met.K.Ord.total _ _ c.args.key c.args.value c.in_ok-put_cdc_checked.field-0 done.answer done.changed.contents;
      changed = done.changed;
      events = if_some_map c.in_ok-put_cdc_checked.field-0 done.events (λ _ told. pairs_told g.K.Ord.cmp g.K.Clone.is_clone g.V.Clone.is_clone told);
    }
