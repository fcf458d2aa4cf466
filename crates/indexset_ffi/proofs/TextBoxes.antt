-- The box of a map from byte strings, for the proofs on parts.
use denote.Param.Laws.{Laws}
use denote.Builtin.{u64}
use denote.Struct.Field.{u64-field}
use denote.Struct.Laws.{u64-laws, u64-copy}
use denote.Param.Laws.{of_field}
use denote.Param.Shared.{copy_shared}
use mathlib.Core.Path.{refl}
use mathlib.Core.List.{[]}
use mir.Syntax.{impl, tnil, dnil}
use Rattle.std.specs.contracts.alloc.Global as Heap
use Rattle.std.proofs.alloc.Global.TheLaws as heap
use Rattle.std.specs.contracts.impls.GlobalAllocator.TheImpl.{ghosts as frees, dict}
use Rattle.indexset_map.proofs.BTreeMap.TheLaws as map
use Rattle.indexset_core.specs.contracts.text.Text as key
use Rattle.indexset_core.specs.contracts.text.TextOrd.TheImpl.{ghosts as ord}
use Rattle.indexset_core.specs.contracts.text.TextEq.TheImpl.{ghosts as eq}
use Rattle.indexset_core.specs.contracts.text.TextPartialEq.TheImpl.{ghosts as equal}
use Rattle.indexset_core.specs.contracts.text.TextPartialOrd.TheImpl.{ghosts as partial}
use Rattle.indexset_ffi.specs.Text.{text_row}
use Rattle.indexset_core.proofs.text.Text.TheLaws as key-laws
use Rattle.indexset_ffi.proofs.Steps.{Bx, boxed_at}

number_laws : Laws u64
number_laws = of_field u64-field u64-laws refl (copy_shared u64-field u64-copy)

pub text_laws : Laws text_row
text_laws = map.the_row_laws key.the_row u64 ord eq equal partial key-laws.the_row_laws number_laws

abbrev pub text_box : Bx
text_box = boxed_at text_row text_laws Heap.the_row heap.the_row_laws frees dict (impl [] tnil dnil)
