-- The errors of opening a file.
use Rattle.sqlite.specs.declared.error.Error.{Error}
use Rattle.sqlite.specs.declared.error.Error.TheVariants.{SqliteFailure}
use Rattle.sqlite.specs.declared.error.ErrorCode.{ErrorCode}
use Rattle.sqlite.specs.declared.error.ErrorCode.TheVariants as code
use Rattle.indexset_journal.specs.declared.error.JournalError.{JournalError}
use Rattle.indexset_journal.specs.declared.error.JournalError.TheVariants.{
  OutOfMemory,
  Disk,
  Damaged,
  Full,
  Shut,
  TooLong,
  NotLines,
  InUse,
  CannotOpen,
}

abbrev pub by_code : ErrorCode → JournalError
by_code code.OutOfMemory = OutOfMemory
by_code code.SystemIoFailure = Disk
by_code code.DatabaseCorrupt = Damaged
by_code code.DiskFull = Full
by_code code.Closed = Shut
by_code code.TooBig = TooLong
by_code code.DatabaseBusy = InUse
by_code code.CannotOpen = CannotOpen
by_code _ = NotLines

-- the journal's error for an error of opening the file or of a statement
abbrev pub opening : Error → JournalError
opening (SqliteFailure found) = by_code found
opening _ = NotLines
