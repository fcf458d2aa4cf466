use Rattle.std.proofs.Common.{not, refl, ap, sym, ◌∙◌}
use Rattle.indexset_core.specs.Nodes.{concat}
use Rattle.indexset_log.proofs.ChangeLemmas.{checked_changed, keep_there, there_changed}
use Rattle.indexset_log.proofs.TreeViewLemmas.{tree_of}
use Rattle.indexset_log.proofs.set.BTreeSet.insert.Goals as goal

-- an equal item is present
pub returns-then-finds_equal : goal.returns-then-finds_equal
returns-then-finds_equal g c =
    let there = c.if-finds_equal.ensures ∙ c.aim-aim.ensures.present in
    record {
      answer = ap not there;
      refusal = tt;
      no_event = λ _. refl;
      given_back = tt;
      unchanged = tt;
      contains = sym there;
      changed = there_changed g.T.Ord.cmp c.args.self.now c.args.value c.aim-aim.ensures.number there;
    }

-- the item was inserted
pub returns-in-Ok : goal.returns-in-Ok
returns-in-Ok g c =
    let rule = tree_of c.aim-aim.ensures.lawful c.aim-aim.ensures.two in
    let done = c.in-Ok.ensures in
    let absent = c.if-finds_equal.ensures ∙ c.aim-aim.ensures.present in
    let d = checked_changed g.met.T.Ord.total rule c.args.value absent done.tree done.fits in
    record {
      answer = ap not absent;
      refusal = tt;
      no_event = λ _. refl;
      given_back = tt;
      unchanged = tt;
      contains = keep_there g.met.T.Ord.total (concat c.args.self.now.nodes) c.args.value absent d.contents;
      changed = d;
    }
