use Rattle.std.proofs.Common.{◌≡◌, ap, slice_get}
use Rattle.std.proofs.lemmas.Option.{slice_get_past}
use Rattle.indexset_core.specs.Nodes.{concat}
use Rattle.indexset_multi.specs.Tree.{pair_removal_events}
use Rattle.indexset_multi.proofs.SearchLemmas.{at_item, at_place}
use Rattle.indexset_multi.proofs.PairRemovalLemmas.{removed}
use Rattle.indexset_multi.proofs.multimap.BTreeMultiMap.pop_index.Goals as goal

pub take-requires : goal.take-requires
take-requires g c =
    let same : c.self.inside.set.nodes ≡ c.args.self.now.nodes = ap (λ m. m.nodes) c.self.view_is in
    at_place c.args.self.now.nodes c.args.i c.place_at-place.result (rw same at c.place_at-place.ensures)

pub returns : goal.returns
returns g c =
    let cmp = g.K.Ord.cmp in
    let o = g.met.K.Ord.total in
    let m = c.args.self.now in
    let l = concat m.nodes in
    let same : c.self.inside.set.nodes ≡ m.nodes = ap (λ m. m.nodes) c.self.view_is in
    let is = at_item m.nodes c.args.i c.place_at-place.result (rw same at c.place_at-place.ensures) in
    let r = c.take.result in
    let done = c.take.ensures in
    let d = removed m c.take.new.self o done.invariant (slice_get l c.args.i) r (rw is at done.tree) (rw is at done.fits) in
    let no_event = rw is at done.no_event in
    record {
      answer = rw is at done.answer;
      refusal = rw is at done.refusal;
      no_event = λ past. no_event (ap (pair_removal_events cmp m.size m.nodes) (slice_get_past l c.args.i past));
      no_memory = rw is at done.no_memory;
      never = rw is at done.never;
      unchanged = done.unchanged;
      changed = d;
    }
