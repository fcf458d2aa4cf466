use Rattle.indexset_keep.proofs.run.shorten.Goals as goal

pub returns-in_ok-compact-clause-leads : goal.returns-in_ok-compact-clause-leads
returns-in_ok-compact-clause-leads g c sound from is = c.in_ok-compact.ensures.leads sound from
