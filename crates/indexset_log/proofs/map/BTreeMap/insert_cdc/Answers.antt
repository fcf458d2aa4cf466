use Rattle.std.proofs.Common.{ap, ◌∙◌}
use Rattle.std.proofs.lemmas.Result.{err_from_is_err_and}
use Rattle.std.specs.Option.{option_map}
use Rattle.indexset_core.proofs.CallerLemmas.{value_put}
use Rattle.indexset_core.specs.Pairs.{value_of}
use Rattle.indexset_log.proofs.OtherKeyLemmas.{others_put}
use Rattle.indexset_log.proofs.ChangeLemmas.{pairs_told}
use Rattle.indexset_log.proofs.map.BTreeMap.insert_cdc.Goals as goal

pub returns : goal.returns
returns g c =
    let done = rw c.self.view_is at c.in_ok-old.ensures in
    let contents = done.changed.contents in
    record {
      answer = c.value_in.ensures ∙ ap (λ o. option_map (λ p. p.value) o) done.answer;
      refusal = tt;
      given_back = tt;
      unchanged = tt;
      contains = done.contains;
      written = ap (λ l. value_of g.K.Ord.cmp l c.args.key) contents ∙ value_put g.K.Ord.cmp g.met.K.Ord.total _ c.args.key c.args.value;
      others = others_put c.args.self.now.nodes c.put_cdc.new.self.nodes g.met.K.Ord.total c.args.key c.args.value contents;
      changed = done.changed;
      events = pairs_told g.K.Ord.cmp g.K.Clone.is_clone g.V.Clone.is_clone done.events;
    }

pub returns-in_err-old : goal.returns-in_err-old
returns-in_err-old g c =
    let done = rw c.self.view_is at c.in_err-old.ensures in
    let why = err_from_is_err_and c.from_residual.result c.from_residual.ensures.1 in
    rw why.1
    (record {
      answer = tt;
      refusal = why.2.1 ∙ done.refusal;
      given_back = why.2.0 ∙ ap (λ p. (p.key, p.value)) done.given_back;
      unchanged = done.unchanged;
      contains = tt;
      written = tt;
      others = tt;
      changed = tt;
      events = tt;
    })
