use Rattle.indexset_log.proofs.PutLemmas.{count_aimed}
use Rattle.indexset_log.proofs.TreeViewLemmas.{tree_of}
use Rattle.indexset_log.proofs.set.BTreeSet.put_cdc_at.Goals as goal

pub returns-in-Err-clause-refusal : goal.returns-in-Err-clause-refusal
returns-in-Err-clause-refusal g c =
    let rule = tree_of c.next_after.ensures.lawful c.next_after.ensures.two in
    rw (count_aimed g.met.T.Ord.total rule c.args.value c.args.aim c.requires) c.in-Err.ensures.refusal

pub returns-in-Ok-carry_out-clause-fits : goal.returns-in-Ok-carry_out-clause-fits
returns-in-Ok-carry_out-clause-fits g c =
    let rule = tree_of c.next_after.ensures.lawful c.next_after.ensures.two in
    rw (count_aimed g.met.T.Ord.total rule c.args.value c.args.aim c.requires) c.in-Ok.ensures.fits

pub returns-in-Err-carry_out-clause-refusal : goal.returns-in-Err-carry_out-clause-refusal
returns-in-Err-carry_out-clause-refusal g c =
    let rule = tree_of c.next_after.ensures.lawful c.next_after.ensures.two in
    rw (count_aimed g.met.T.Ord.total rule c.args.value c.args.aim c.requires, c.in-Ok.ensures.memory) c.in-Err-carry_out.ensures.refusal

pub returns-in-Err-put_log-clause-refusal : goal.returns-in-Err-put_log-clause-refusal
returns-in-Err-put_log-clause-refusal g c =
    let rule = tree_of c.next_after.ensures.lawful c.next_after.ensures.two in
    rw (count_aimed g.met.T.Ord.total rule c.args.value c.args.aim c.requires, c.in-Ok.ensures.memory) c.in-Err-put_log.ensures.refusal
