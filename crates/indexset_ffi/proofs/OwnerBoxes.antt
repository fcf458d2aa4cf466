-- The boxes of the handles, for the proofs on parts.
use Rattle.indexset_ffi.proofs.Steps.{Bx}
use Rattle.indexset_ffi.proofs.Boxes.{on_heap}
use Rattle.indexset_ffi.proofs.log_handle.LogHandle.TheLaws as log
use Rattle.indexset_ffi.proofs.map_handle.MapHandle.TheLaws as map
use Rattle.indexset_ffi.proofs.multi_handle.MultiHandle.TheLaws as multi
use Rattle.indexset_ffi.proofs.replica_handle.ReplicaHandle.TheLaws as replica
use Rattle.indexset_ffi.proofs.set_handle.SetHandle.TheLaws as set
use Rattle.indexset_ffi.proofs.text_handle.TextHandle.TheLaws as text
use Rattle.indexset_ffi.proofs.text_log_handle.TextLogHandle.TheLaws as text_log
use Rattle.indexset_ffi.specs.Owners.{log_handle_row, map_handle_row, multi_handle_row, replica_handle_row, set_handle_row, text_handle_row, text_log_handle_row}

abbrev pub set_handle_box : Bx
set_handle_box = on_heap set_handle_row set.the_row_laws

abbrev pub map_handle_box : Bx
map_handle_box = on_heap map_handle_row map.the_row_laws

abbrev pub text_handle_box : Bx
text_handle_box = on_heap text_handle_row text.the_row_laws

abbrev pub multi_handle_box : Bx
multi_handle_box = on_heap multi_handle_row multi.the_row_laws

abbrev pub log_handle_box : Bx
log_handle_box = on_heap log_handle_row log.the_row_laws

abbrev pub replica_handle_box : Bx
replica_handle_box = on_heap replica_handle_row replica.the_row_laws

abbrev pub text_log_handle_box : Bx
text_log_handle_box = on_heap text_log_handle_row text_log.the_row_laws
