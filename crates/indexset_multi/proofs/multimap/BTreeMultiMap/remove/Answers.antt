use Rattle.std.proofs.Common.{ap, ◌∙◌}
use Rattle.indexset_core.specs.MultiPairs.{by_number}
use Rattle.indexset_core.specs.Nodes.{concat}
use Rattle.indexset_events.proofs.CallerLemmas.{lawful_ascends, on_ok_map}
use Rattle.indexset_multi.specs.Keys.{equal_pair, pairs_of}
use Rattle.indexset_multi.proofs.KeyListLemmas.{others_left, pair_gone}
use Rattle.indexset_multi.proofs.PairRemovalLemmas.{removed}
use Rattle.indexset_multi.proofs.multimap.BTreeMultiMap.remove.Goals as goal

pub returns : goal.returns
returns g c =
    let cmp = g.K.Ord.cmp in
    let o = g.met.K.Ord.total in
    let m = c.args.self.now in
    let l = concat m.nodes in
    let order = g.Q.LookupKey.order in
    let acts = g.met.Q.LookupKey.acts_as_key in
    let k = c.args.key in
    let is = c.equal_place-place.ensures.pair in
    let r = c.take.result in
    let done = c.take.ensures in
    let d = removed m c.take.new.self o done.invariant (equal_pair order g.V.PartialEq.eq l k c.args.value.now) r (rw is at done.tree) (rw is at done.fits) in
    let up = lawful_ascends (by_number cmp) m.size m.nodes done.invariant.lawful in
    record {
      answer = rw is at done.answer;
      refusal = rw is at done.refusal;
      no_event = rw is at done.no_event;
      no_memory = rw is at done.no_memory;
      never = rw is at done.never;
      unchanged = done.unchanged;
      gone = on_ok_map r d (λ d. ap (λ l. pairs_of order l k) d.contents ∙ pair_gone o acts k (λ p. g.V.PartialEq.eq p.value c.args.value.now) l up);
      others = on_ok_map r d (λ d other ne. ap (λ l. pairs_of cmp l other) d.contents ∙ others_left o acts k (λ p. g.V.PartialEq.eq p.value c.args.value.now) l other ne);
      changed = d;
    }
