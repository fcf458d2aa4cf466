use Rattle.indexset_map.proofs.BTreeMap.from_sorted.Goals as goal

pub from_ascending-requires : goal.from_ascending-requires
from_ascending-requires g c = rw c.as_slice.ensures.value at (c.is_sorted.ensures.ascending c.if-not-is_sorted.false)

pub returns-then-not-is_sorted-clause-memory : goal.returns-then-not-is_sorted-clause-memory
returns-then-not-is_sorted-clause-memory g c =
    λ up. absurd (rw c.as_slice.ensures.value at (c.is_sorted.ensures.other c.if-not-is_sorted.true) up)

pub returns-in-Ok-clause-ascending : goal.returns-in-Ok-clause-ascending
returns-in-Ok-clause-ascending g c =
    rw c.as_slice.ensures.value at (c.is_sorted.ensures.ascending c.if-not-is_sorted.false)

pub returns-in-Err-clause-unsorted : goal.returns-in-Err-clause-unsorted
returns-in-Err-clause-unsorted g c =
    λ other. absurd (other (rw c.as_slice.ensures.value at (c.is_sorted.ensures.ascending c.if-not-is_sorted.false)))
