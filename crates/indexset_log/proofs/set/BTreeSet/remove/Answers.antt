use Rattle.std.proofs.Common.{ap, ◌∙◌}
use Rattle.indexset_core.specs.Nodes.{concat}
use Rattle.indexset_core.specs.Order.{has_equal}
use Rattle.indexset_core.proofs.CallerLemmas.{has_none}
use Rattle.indexset_log.proofs.ChangeLemmas.{on_ok_both, sought_changed, value_goes}
use Rattle.indexset_events.proofs.CallerLemmas.{on_ok_map}
use Rattle.indexset_log.proofs.TreeViewLemmas.{tree_of}
use Rattle.indexset_log.proofs.set.BTreeSet.remove.Goals as goal

pub remove_from-requires : goal.remove_from-requires
remove_from-requires g c =
    let rule = tree_of c.place_of-place.ensures.lawful c.place_of-place.ensures.two in
    let w = value_goes {old = c.args.self.now} g.met.T.Ord.total g.met.Q.LookupKey.acts_as_key rule.lawful c.args.value c.place_of-place.result c.place_of-place.ensures.place in
    w.inside

pub returns : goal.returns
returns g c =
    let rule = tree_of c.place_of-place.ensures.lawful c.place_of-place.ensures.two in
    let w = value_goes {old = c.args.self.now} g.met.T.Ord.total g.met.Q.LookupKey.acts_as_key rule.lawful c.args.value c.place_of-place.result c.place_of-place.ensures.place in
    let r = c.remove_from.result in
    let done = c.remove_from.ensures in
    let tree = on_ok_map r done.tree (λ e. e ∙ w.after) in
    let d = on_ok_both r tree (rw w.events at done.fits) (sought_changed g.met.T.Ord.total g.met.Q.LookupKey.acts_as_key g.met.Q.UniqueKey.equals_at_most_one rule c.args.value) in
    record {
      answer = rw w.item at done.answer;
      refusal = rw w.events at done.refusal;
      no_event = rw w.events at done.no_event;
      no_memory = rw w.events at done.no_memory;
      never = rw w.events at done.never;
      unchanged = done.unchanged;
      gone = on_ok_map r d (λ d. ap (λ l. has_equal g.Q.LookupKey.order l c.args.value) d.contents ∙ has_none g.Q.LookupKey.order (concat c.args.self.now.nodes) c.args.value);
      changed = d;
    }
