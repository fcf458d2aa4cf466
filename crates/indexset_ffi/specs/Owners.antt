-- Ownership of an owner: that of the box of its handle, if there is one.
use base.Fml.{Fml}
use denote.RawPtr.{Ptr}
use denote.RattleType.{RattleType}
use Rattle.std.specs.Prelude.{Option}
use Rattle.std.specs.Global.{Global}
use Rattle.std.specs.contracts.impls.GlobalAllocator.TheImpl.{ghosts as frees}
use Rattle.indexset_ffi.specs.Holds.{holds}
use Rattle.indexset_ffi.specs.contracts.log_handle.LogHandle as Log
use Rattle.indexset_ffi.specs.contracts.map_handle.MapHandle as Map
use Rattle.indexset_ffi.specs.contracts.multi_handle.MultiHandle as Multi
use Rattle.indexset_ffi.specs.contracts.replica_handle.ReplicaHandle as Replica
use Rattle.indexset_ffi.specs.contracts.set_handle.SetHandle as Set
use Rattle.indexset_ffi.specs.contracts.text_handle.TextHandle as Text
use Rattle.indexset_ffi.specs.contracts.text_log_handle.TextLogHandle as TextLog

abbrev pub set_handle_row : RattleType
set_handle_row = Set.the_row

abbrev pub holds_set_handle : Global → Ptr → Option set_handle_row.Denot → Fml
holds_set_handle alloc = holds (frees.dealloc_token alloc) set_handle_row

abbrev pub map_handle_row : RattleType
map_handle_row = Map.the_row

abbrev pub holds_map_handle : Global → Ptr → Option map_handle_row.Denot → Fml
holds_map_handle alloc = holds (frees.dealloc_token alloc) map_handle_row

abbrev pub text_handle_row : RattleType
text_handle_row = Text.the_row

abbrev pub holds_text_handle : Global → Ptr → Option text_handle_row.Denot → Fml
holds_text_handle alloc = holds (frees.dealloc_token alloc) text_handle_row

abbrev pub multi_handle_row : RattleType
multi_handle_row = Multi.the_row

abbrev pub holds_multi_handle : Global → Ptr → Option multi_handle_row.Denot → Fml
holds_multi_handle alloc = holds (frees.dealloc_token alloc) multi_handle_row

abbrev pub log_handle_row : RattleType
log_handle_row = Log.the_row

abbrev pub holds_log_handle : Global → Ptr → Option log_handle_row.Denot → Fml
holds_log_handle alloc = holds (frees.dealloc_token alloc) log_handle_row

abbrev pub replica_handle_row : RattleType
replica_handle_row = Replica.the_row

abbrev pub holds_replica_handle : Global → Ptr → Option replica_handle_row.Denot → Fml
holds_replica_handle alloc = holds (frees.dealloc_token alloc) replica_handle_row

abbrev pub text_log_handle_row : RattleType
text_log_handle_row = TextLog.the_row

abbrev pub holds_text_log_handle : Global → Ptr → Option text_log_handle_row.Denot → Fml
holds_text_log_handle alloc = holds (frees.dealloc_token alloc) text_log_handle_row
