use Rattle.std.proofs.Common.{rules, ap, ◌∙◌}
use Rattle.std.proofs.lemmas.Result.{err_from_is_err_and}
use Rattle.indexset_log.proofs.OtherKeyLemmas.{added_written}
use Rattle.indexset_log.proofs.map.BTreeMap.checked_insert.Goals as goal

pub returns-in_err-added : goal.returns-in_err-added
returns-in_err-added g c =
    let done = rw c.self.view_is at c.in_err-added.ensures in
    let e = err_from_is_err_and c.from_residual.result c.from_residual.ensures.1 in
    rw e.1
    (record {
      answer = tt;
      refusal = e.2.1 ∙ done.refusal;
      no_event = done.no_event;
      given_back = e.2.0 ∙ ap (λ p. (p.key, p.value)) done.given_back;
      unchanged = done.unchanged;
      contains = tt;
      written = tt;
      changed = tt;
    })

pub returns : goal.returns
returns g c =
    let done = rw c.self.view_is at c.in_ok-added.ensures in
    record {
      answer = search rules;
      refusal = tt;
      no_event = done.no_event;
      given_back = tt;
      unchanged = tt;
      contains = done.contains;
      written = added_written g.met.K.Ord.total _ _ c.args.key c.args.value c.then_some.result (search rules) done.changed.contents;
      changed = done.changed;
    }
