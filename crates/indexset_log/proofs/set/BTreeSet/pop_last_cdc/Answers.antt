use Rattle.std.proofs.Common.{◌-◌, length, ◌∙◌}
use Rattle.indexset_core.specs.Nodes.{concat}
use Rattle.indexset_log.proofs.ChangeLemmas.{if_ok_map, on_ok_both, told}
use Rattle.indexset_log.proofs.EndRemovalLemmas.{last_changed, position_goes}
use Rattle.indexset_events.proofs.CallerLemmas.{on_ok_map}
use Rattle.indexset_log.proofs.TreeViewLemmas.{tree_of}
use Rattle.indexset_log.proofs.set.BTreeSet.pop_last_cdc.Goals as goal

pub remove_from_cdc-requires : goal.remove_from_cdc-requires
remove_from_cdc-requires g c =
    let rule = tree_of c.last_item_place-place.ensures.lawful c.last_item_place-place.ensures.two in
    let w = position_goes {old = c.args.self.now} g.met.T.Ord.total rule.lawful (length (concat c.args.self.now.nodes) - 1) c.last_item_place-place.result c.last_item_place-place.ensures.place in
    w.inside

pub returns : goal.returns
returns g c =
    let rule = tree_of c.last_item_place-place.ensures.lawful c.last_item_place-place.ensures.two in
    let w = position_goes {old = c.args.self.now} g.met.T.Ord.total rule.lawful (length (concat c.args.self.now.nodes) - 1) c.last_item_place-place.result c.last_item_place-place.ensures.place in
    let r = c.remove_from_cdc.result in
    let done = c.remove_from_cdc.ensures in
    let tree = on_ok_map r done.tree (λ e. e ∙ w.after) in
    let d = on_ok_both r tree (rw w.events at done.fits) (last_changed g.met.T.Ord.total rule) in
    record {
      answer = rw w.item at done.answer;
      refusal = rw w.events at done.refusal;
      no_event = rw w.events at done.no_event;
      unchanged = done.unchanged;
      changed = d;
      events = if_ok_map r (rw w.events at done.events) d (λ x clones d. told g.T.Clone.is_clone x.1.items d clones);
    }
