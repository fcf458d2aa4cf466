-- The exit status of a fault.
use Rattle.std.specs.Prelude.{ℕ}
use Rattle.indexset_lines.specs.Fault as lines
use Rattle.indexset_journal.specs.declared.error.JournalError.{JournalError}
use Rattle.indexset_journal.specs.declared.error.JournalError.TheVariants.{InUse}
use Rattle.indexset_keep.specs.declared.fault.KeepFault.{KeepFault}
use Rattle.indexset_keep.specs.declared.fault.KeepFault.TheVariants.{Run, Journal, NodeSize}

-- 8 if another process has the file open, 6 for each other error of the journal
abbrev pub journal_status : JournalError → ℕ
journal_status InUse = 8
journal_status _ = 6

abbrev pub status_of : KeepFault → ℕ
status_of (Run fault) = lines.status_of fault
status_of (Journal error) = journal_status error
status_of NodeSize = 7
