use Rattle.std.proofs.Common.{◌≡◌, ap, slice_get}
use Rattle.std.proofs.lemmas.Option.{slice_get_past}
use Rattle.indexset_core.specs.Nodes.{concat}
use Rattle.indexset_multi.specs.Tree.{pair_removal_events}
use Rattle.indexset_log.proofs.CallerLemmas.{if_ok_map}
use Rattle.indexset_multi.proofs.SearchLemmas.{at_item, at_place}
use Rattle.indexset_multi.proofs.PairRemovalLemmas.{multi_told, removed}
use Rattle.indexset_multi.proofs.multimap.BTreeMultiMap.pop_index_cdc.Goals as goal

pub take_cdc-requires : goal.take_cdc-requires
take_cdc-requires g c =
    let same : c.self.inside.set.nodes ≡ c.args.self.now.nodes = ap (λ m. m.nodes) c.self.view_is in
    at_place c.args.self.now.nodes c.args.i c.place_at-place.result (rw same at c.place_at-place.ensures)

pub returns : goal.returns
returns g c =
    let cmp = g.K.Ord.cmp in
    let o = g.met.K.Ord.total in
    let m = c.args.self.now in
    let l = concat m.nodes in
    let same : c.self.inside.set.nodes ≡ m.nodes = ap (λ m. m.nodes) c.self.view_is in
    let is = at_item m.nodes c.args.i c.place_at-place.result (rw same at c.place_at-place.ensures) in
    let r = c.take_cdc.result in
    let done = c.take_cdc.ensures in
    let d = removed m c.take_cdc.new.self o done.invariant (slice_get l c.args.i) r (rw is at done.tree) (rw is at done.fits) in
    let no_event = rw is at done.no_event in
    record {
      answer = rw is at done.answer;
      refusal = rw is at done.refusal;
      no_event = λ past. no_event (ap (pair_removal_events cmp m.size m.nodes) (slice_get_past l c.args.i past));
      unchanged = done.unchanged;
      changed = d;
      events = if_ok_map r (rw is at done.events) d (λ x clones d. multi_told g.K.Clone.is_clone g.V.Clone.is_clone x.1.items d clones);
    }
