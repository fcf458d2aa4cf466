use Rattle.indexset_core.specs.Nodes.{concat}
use Rattle.indexset_log.proofs.ChangeLemmas.{on_ok_both, put_changed, put_there}
use Rattle.indexset_events.proofs.CallerLemmas.{on_ok_map}
use Rattle.indexset_log.proofs.TreeViewLemmas.{tree_of}
use Rattle.indexset_log.proofs.set.BTreeSet.put.Goals as goal

pub returns : goal.returns
returns g c =
    let rule = tree_of c.aim-aim.ensures.lawful c.aim-aim.ensures.two in
    let r = c.put_at.result in
    let done = c.put_at.ensures in
    let d = on_ok_both r done.tree done.fits (put_changed g.met.T.Ord.total rule c.args.value) in
    record {
      answer = done.answer;
      refusal = done.refusal;
      given_back = done.given_back;
      unchanged = done.unchanged;
      contains = on_ok_map r d (λ d. put_there g.met.T.Ord.total (concat c.args.self.now.nodes) c.args.value d.contents);
      changed = d;
    }
