use Rattle.std.proofs.Common.{ap, ◌∙◌}
use Rattle.indexset_core.specs.MultiPairs.{by_number}
use Rattle.indexset_core.specs.Nodes.{concat}
use Rattle.indexset_events.proofs.CallerLemmas.{lawful_ascends, on_ok_map}
use Rattle.indexset_multi.specs.Keys.{first_pair, pairs_of}
use Rattle.indexset_multi.proofs.KeyListLemmas.{first_pair_gone, others_left_first}
use Rattle.indexset_multi.proofs.PairRemovalLemmas.{removed}
use Rattle.indexset_multi.proofs.multimap.BTreeMultiMap.remove_some.Goals as goal

pub returns : goal.returns
returns g c =
    let cmp = g.K.Ord.cmp in
    let o = g.met.K.Ord.total in
    let m = c.args.self.now in
    let l = concat m.nodes in
    let order = g.Q.LookupKey.order in
    let acts = g.met.Q.LookupKey.acts_as_key in
    let k = c.args.key in
    let is = c.first_place-first.ensures.pair in
    let r = c.take.result in
    let done = c.take.ensures in
    let d = removed m c.take.new.self o done.invariant (first_pair order l k) r (rw is at done.tree) (rw is at done.fits) in
    let up = lawful_ascends (by_number cmp) m.size m.nodes done.invariant.lawful in
    record {
      answer = rw is at done.answer;
      refusal = rw is at done.refusal;
      no_event = rw is at done.no_event;
      no_memory = rw is at done.no_memory;
      never = rw is at done.never;
      unchanged = done.unchanged;
      gone = on_ok_map r d (λ d. ap (λ l. pairs_of order l k) d.contents ∙ first_pair_gone o acts k l up);
      others = on_ok_map r d (λ d other ne. ap (λ l. pairs_of cmp l other) d.contents ∙ others_left_first o acts k l other ne);
      changed = d;
    }
