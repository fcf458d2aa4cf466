-- Exit statuses and words of faults, and the fault of each refusal.
use Rattle.std.specs.Prelude.{ℕ, List, codes}
use Rattle.indexset_lines.specs.declared.fault.RunFault.{RunFault}
use Rattle.indexset_lines.specs.declared.fault.RunFault.TheVariants.{Memory, Numbers, Read, Write}
use Rattle.indexset_core.specs.declared.refusal.Refusal.{Refusal}
use Rattle.indexset_core.specs.declared.refusal.Refusal.TheVariants as refusal

-- the exit status of a fault
abbrev pub status_of : RunFault → ℕ
status_of Memory = 1
status_of Numbers = 2
status_of Read = 3
status_of Write = 4

-- the word for a fault
abbrev pub word_of : RunFault → List ℕ
word_of Memory = codes "memory"
word_of Numbers = codes "numbers"
word_of Read = codes "read"
word_of Write = codes "write"

-- the fault of a run whose call was refused; the refusals of a run are `Memory` and `Numbers`
abbrev pub fault_of : Refusal → RunFault
fault_of refusal.Numbers = Numbers
fault_of other = Memory
