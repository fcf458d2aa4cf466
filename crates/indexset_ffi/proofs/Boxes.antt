-- The boxes of the collections, for the proofs on parts.
use mathlib.Core.List.{[]}
use mathlib.Core.Path.{refl}
use mir.Syntax.{impl, tnil, dnil}
use denote.RattleType.{RattleType}
use denote.Struct.Field.{u64-field}
use denote.Struct.Laws.{u64-laws, u64-copy}
use denote.Param.Laws.{Laws, of_field}
use denote.Param.Shared.{copy_shared}
use denote.Builtin.{u64}
use Rattle.std.specs.contracts.alloc.Global as Heap
use Rattle.std.proofs.alloc.Global.TheLaws as heap
use Rattle.std.proofs.vec.Vec.TheLaws as vec
use Rattle.std.specs.contracts.impls.GlobalAllocator.TheImpl.{ghosts as frees, dict}
use Rattle.std.specs.contracts.prelude.U64Clone.TheImpl.{ghosts as clone}
use Rattle.std.specs.contracts.prelude.U64Ord.TheImpl.{ghosts as ord}
use Rattle.std.specs.contracts.prelude.U64Eq.TheImpl.{ghosts as eq}
use Rattle.std.specs.contracts.prelude.U64PartialEq.TheImpl.{ghosts as equal}
use Rattle.std.specs.contracts.prelude.U64PartialOrd.TheImpl.{ghosts as partial}
use Rattle.indexset_ffi.proofs.Steps.{Bx, boxed_at}
use Rattle.indexset_core.proofs.multipair.MultiPair.TheLaws as multi_pair
use Rattle.indexset_core.proofs.pair.Pair.TheLaws as pair
use Rattle.indexset_set.proofs.BTreeSet.TheLaws as set
use Rattle.indexset_map.proofs.BTreeMap.TheLaws as map
use Rattle.indexset_log.proofs.map.BTreeMap.TheLaws as logged
use Rattle.indexset_multi.proofs.multimap.BTreeMultiMap.TheLaws as multi
use Rattle.indexset_replica.proofs.Replica.TheLaws as replica
use Rattle.indexset_ffi.proofs.text_log.TextLog.TheLaws as text_log
use Rattle.indexset_ffi.specs.Slots.{log_row, map_row, multi_pair_row, multi_row, node_row}
use Rattle.indexset_ffi.specs.Slots.{nodes, pair_row, pairs_cloned, pairs_compare, pairs_equal}
use Rattle.indexset_ffi.specs.Slots.{pairs_partial, replica_row, set_row, text_log_row}

number_laws : Laws u64
number_laws = of_field u64-field u64-laws refl (copy_shared u64-field u64-copy)

pub set_laws : Laws set_row
set_laws = set.the_row_laws u64 ord equal partial number_laws

abbrev pub on_heap : (X : RattleType) → Laws X → Bx
on_heap X LX = boxed_at X LX Heap.the_row heap.the_row_laws frees dict (impl [] tnil dnil)

abbrev pub set_box : Bx
set_box = on_heap set_row set_laws

pub map_laws : Laws map_row
map_laws = map.the_row_laws u64 u64 ord eq equal partial number_laws number_laws

abbrev pub map_box : Bx
map_box = on_heap map_row map_laws

node_laws : (X : RattleType) → Laws X → Laws (node_row X)
node_laws X LX = vec.the_row_laws X Heap.the_row frees LX heap.the_row_laws

pair_laws : Laws pair_row
pair_laws = pair.the_row_laws u64 u64 number_laws number_laws

pub log_laws : Laws log_row
log_laws = logged.the_row_laws u64 u64 (node_row pair_row) ord eq equal partial clone clone (nodes pair_row) number_laws number_laws (node_laws pair_row pair_laws)

abbrev pub log_box : Bx
log_box = on_heap log_row log_laws

multi_pair_laws : Laws multi_pair_row
multi_pair_laws = multi_pair.the_row_laws u64 u64 number_laws number_laws

pub multi_laws : Laws multi_row
multi_laws = multi.the_row_laws u64 u64 (node_row multi_pair_row) ord eq equal partial clone equal clone (nodes multi_pair_row) number_laws number_laws (node_laws multi_pair_row multi_pair_laws)

abbrev pub multi_box : Bx
multi_box = on_heap multi_row multi_laws

pub replica_laws : Laws replica_row
replica_laws = replica.the_row_laws pair_row pairs_compare pairs_equal pairs_partial pairs_cloned pair_laws

abbrev pub replica_box : Bx
replica_box = on_heap replica_row replica_laws

abbrev pub text_log_box : Bx
text_log_box = on_heap text_log_row text_log.the_row_laws
