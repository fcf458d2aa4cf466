-- Lemmas for the crates above this one.
pub use Rattle.indexset_lines.proofs.Faults.{err_same, failed, on_ok_any, write_not_memory, write_not_numbers, write_not_read}
pub use Rattle.indexset_lines.proofs.Lines.{left_by-append, lines_of-last, lines_of-line, rest_of-append, text_of-uncut, whole_lines-append}
pub use Rattle.indexset_lines.proofs.Runs.{flushed_lacking, nothing_read, texts_alike}
