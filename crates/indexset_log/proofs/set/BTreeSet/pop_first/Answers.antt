use Rattle.std.proofs.Common.{◌∙◌}
use Rattle.indexset_log.proofs.ChangeLemmas.{on_ok_both}
use Rattle.indexset_log.proofs.EndRemovalLemmas.{first_changed, position_goes}
use Rattle.indexset_events.proofs.CallerLemmas.{on_ok_map}
use Rattle.indexset_log.proofs.TreeViewLemmas.{tree_of}
use Rattle.indexset_log.proofs.set.BTreeSet.pop_first.Goals as goal

pub remove_from-requires : goal.remove_from-requires
remove_from-requires g c =
    let rule = tree_of c.first_item_place-place.ensures.lawful c.first_item_place-place.ensures.two in
    let w = position_goes {old = c.args.self.now} g.met.T.Ord.total rule.lawful 0 c.first_item_place-place.result c.first_item_place-place.ensures.place in
    w.inside

pub returns : goal.returns
returns g c =
    let rule = tree_of c.first_item_place-place.ensures.lawful c.first_item_place-place.ensures.two in
    let w = position_goes {old = c.args.self.now} g.met.T.Ord.total rule.lawful 0 c.first_item_place-place.result c.first_item_place-place.ensures.place in
    let r = c.remove_from.result in
    let done = c.remove_from.ensures in
    let tree = on_ok_map r done.tree (λ e. e ∙ w.after) in
    let d = on_ok_both r tree (rw w.events at done.fits) (first_changed g.met.T.Ord.total rule) in
    record {
      answer = rw w.item at done.answer;
      refusal = rw w.events at done.refusal;
      no_event = rw w.events at done.no_event;
      no_memory = rw w.events at done.no_memory;
      never = rw w.events at done.never;
      unchanged = done.unchanged;
      changed = d;
    }
