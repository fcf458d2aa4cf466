use Rattle.indexset_log.proofs.PutLemmas.{count_aimed}
use Rattle.indexset_events.proofs.CallerLemmas.{on_ok_map}
use Rattle.indexset_log.proofs.TreeViewLemmas.{tree_of}
use Rattle.indexset_log.proofs.set.BTreeSet.put_at.Goals as goal

pub returns-in-Ok-clause-fits : goal.returns-in-Ok-clause-fits
returns-in-Ok-clause-fits g c =
    let rule = tree_of c.next_after.ensures.lawful c.next_after.ensures.two in
    rw (count_aimed g.met.T.Ord.total rule c.args.value c.args.aim c.requires) (on_ok_map c.carry_out.result c.carry_out.ensures.tree (λ _. c.in-Ok.ensures.fits))

pub returns-in-Ok-clause-refusal : goal.returns-in-Ok-clause-refusal
returns-in-Ok-clause-refusal g c =
    let rule = tree_of c.next_after.ensures.lawful c.next_after.ensures.two in
    rw (count_aimed g.met.T.Ord.total rule c.args.value c.args.aim c.requires, c.in-Ok.ensures.memory) c.carry_out.ensures.refusal

pub returns-in-Err-clause-refusal : goal.returns-in-Err-clause-refusal
returns-in-Err-clause-refusal g c =
    let rule = tree_of c.next_after.ensures.lawful c.next_after.ensures.two in
    rw (count_aimed g.met.T.Ord.total rule c.args.value c.args.aim c.requires) c.in-Err.ensures.refusal
