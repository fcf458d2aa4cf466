-- Ownership of a slot: that of the box of its collection, if there is one.
use base.Fml.{Fml}
use mathlib.Core.List.{[]}
use mir.Syntax.{impl, tnil, dnil}
use denote.RawPtr.{Ptr}
use denote.RattleType.{RattleType}
use denote.Builtin.{u64}
use Rattle.std.specs.Prelude.{Option, true, vec_capacity}
use Rattle.std.below.core.specs.declared.int.usize.TheConstants.{MAX}
use Rattle.std.specs.Global.{Global}
use Rattle.std.specs.declared.clone.Clone
use Rattle.std.specs.declared.cmp.Ord
use Rattle.std.specs.declared.cmp.PartialEq
use Rattle.std.specs.declared.cmp.PartialOrd
use Rattle.std.specs.contracts.alloc.Global as Heap
use Rattle.std.specs.contracts.impls.GlobalAllocator.TheImpl.{ghosts as frees}
use Rattle.std.specs.contracts.prelude.U64Clone.TheImpl.{ghosts as clone, dict as clone_dict}
use Rattle.std.specs.contracts.prelude.U64Ord.TheImpl.{ghosts as ord, dict as ord_dict}
use Rattle.std.specs.contracts.prelude.U64Eq.TheImpl.{ghosts as eq, dict as eq_dict}
use Rattle.std.specs.contracts.prelude.U64PartialEq.TheImpl.{ghosts as equal, dict as equal_dict}
use Rattle.std.specs.contracts.prelude.U64PartialOrd.TheImpl.{ghosts as partial}
use Rattle.std.specs.contracts.prelude.U64PartialOrd.TheImpl.{dict as partial_dict}
use Rattle.std.specs.contracts.vec.Vec as vec
use Rattle.indexset_core.specs.contracts.multipair.MultiPair as multi_pair
use Rattle.indexset_core.specs.contracts.pair.Pair as pair
use Rattle.indexset_core.specs.contracts.pair.PairClone.TheImpl as pair_clone
use Rattle.indexset_core.specs.contracts.pair.PairOrd.TheImpl as pair_ord
use Rattle.indexset_core.specs.contracts.pair.PairPartialEq.TheImpl as pair_equal
use Rattle.indexset_core.specs.contracts.pair.PairPartialOrd.TheImpl as pair_partial
use Rattle.indexset_core.specs.declared.node.NodeLike.{Ghosts}
use Rattle.indexset_ffi.specs.Holds.{holds}
use Rattle.indexset_set.specs.contracts.BTreeSet as Set
use Rattle.indexset_map.specs.contracts.BTreeMap as Map
use Rattle.indexset_log.specs.contracts.map.BTreeMap as Logged
use Rattle.indexset_multi.specs.contracts.multimap.BTreeMultiMap as Multi
use Rattle.indexset_replica.specs.contracts.Replica as Replica
use Rattle.indexset_ffi.specs.contracts.text_log.TextLog as TextLog

abbrev pub set_row : RattleType
set_row = Set.the_row u64 ord equal partial

abbrev pub holds_set : Global → Ptr → Option set_row.Denot → Fml
holds_set alloc = holds (frees.dealloc_token alloc) set_row

abbrev pub map_row : RattleType
map_row = Map.the_row u64 u64 ord eq equal partial

abbrev pub holds_map : Global → Ptr → Option map_row.Denot → Fml
holds_map alloc = holds (frees.dealloc_token alloc) map_row

-- a node of items of a type
abbrev pub node_row : RattleType → RattleType
node_row X = vec.the_row X Heap.the_row frees

-- the ghost members of such nodes
abbrev pub nodes : (X : RattleType) → Ghosts (node_row X).Denot X.Denot
nodes X = record { list = λ v. v.items; room = vec_capacity; most = MAX; allocates = true }

abbrev pub pair_row : RattleType
pair_row = pair.the_row u64 u64

abbrev pub log_row : RattleType
log_row =
    Logged.the_row u64 u64 (node_row pair_row) ord eq equal partial clone clone (nodes pair_row)

abbrev pub holds_log : Global → Ptr → Option log_row.Denot → Fml
holds_log alloc = holds (frees.dealloc_token alloc) log_row

abbrev pub multi_pair_row : RattleType
multi_pair_row = multi_pair.the_row u64 u64

abbrev pub multi_row : RattleType
multi_row =
    Multi.the_row u64 u64 (node_row multi_pair_row) ord eq equal partial clone equal clone
    (nodes multi_pair_row)

abbrev pub holds_multi : Global → Ptr → Option multi_row.Denot → Fml
holds_multi alloc = holds (frees.dealloc_token alloc) multi_row

-- the ghost members of the order of pairs of numbers
abbrev pub pairs_compare : Ord.Ghosts pair_row.Denot
pairs_compare =
    pair_ord.ghosts u64 u64 ord ord_dict eq eq_dict equal equal_dict partial partial_dict

abbrev pub pairs_equal : PartialEq.Ghosts pair_row.Denot
pairs_equal = pair_equal.ghosts u64 u64 equal equal_dict

abbrev pub pairs_partial : PartialOrd.Ghosts pair_row.Denot
pairs_partial = pair_partial.ghosts u64 u64 partial partial_dict equal equal_dict

abbrev pub pairs_cloned : Clone.Ghosts pair_row.Denot
pairs_cloned =
    pair_clone.ghosts u64 u64 clone clone_dict clone clone_dict (impl [] tnil dnil)
    (impl [] tnil dnil)

abbrev pub replica_row : RattleType
replica_row = Replica.the_row pair_row pairs_compare pairs_equal pairs_partial pairs_cloned

abbrev pub holds_replica : Global → Ptr → Option replica_row.Denot → Fml
holds_replica alloc = holds (frees.dealloc_token alloc) replica_row

abbrev pub text_log_row : RattleType
text_log_row = TextLog.the_row

abbrev pub holds_text_log : Global → Ptr → Option text_log_row.Denot → Fml
holds_text_log alloc = holds (frees.dealloc_token alloc) text_log_row
