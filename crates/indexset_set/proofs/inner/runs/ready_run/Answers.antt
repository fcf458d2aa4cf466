use Rattle.indexset_set.proofs.inner.runs.ready_run.Goals as goal

pub take_run-requires : goal.take_run-requires
take_run-requires g c = record { order = c.requires.order }

pub take_full_run-requires : goal.take_full_run-requires
take_full_run-requires g c = record { order = c.requires.order }
