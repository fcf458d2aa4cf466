-- Maps from byte strings: the contents of their handles, and the bytes of a caller after a call.
use base.Fml.{Fml}
use denote.RawPtr.{Ptr}
use denote.RattleType.{RattleType}
use denote.Builtin.{u64}
use Rattle.std.specs.Prelude.{ℕ, List, [], ◌++◌, Option, drop, length, map, slice_get, take}
use Rattle.std.specs.Option.{option_map, option_map_or}
use Rattle.std.specs.Global.{Global}
use Rattle.std.specs.contracts.impls.GlobalAllocator.TheImpl.{ghosts as frees}
use Rattle.indexset_core.specs.contracts.text.Text as key
use Rattle.indexset_core.specs.contracts.text.TextOrd.TheImpl.{ghosts as ord}
use Rattle.indexset_core.specs.contracts.text.TextEq.TheImpl.{ghosts as eq}
use Rattle.indexset_core.specs.contracts.text.TextPartialEq.TheImpl.{ghosts as equal}
use Rattle.indexset_core.specs.contracts.text.TextPartialOrd.TheImpl.{ghosts as partial}
use Rattle.indexset_core.specs.declared.pair.Pair.{Pair}
use Rattle.indexset_core.specs.Pairs.{pair_keys}
use Rattle.indexset_ffi.specs.Holds.{holds}
use Rattle.indexset_map.specs.Contents.{Contents}
use Rattle.indexset_map.specs.contracts.BTreeMap as Map

-- the pairs in order; an empty handle has none
abbrev pub text_pairs : Option (Contents (List ℕ) ℕ) → List (Pair (List ℕ) ℕ)
text_pairs map = option_map_or (λ m. m.pairs) map []

-- the number of pairs of each node
abbrev pub text_lengths : Option (Contents (List ℕ) ℕ) → List ℕ
text_lengths map = option_map_or (λ m. m.lengths) map []

-- the key at a position, or no bytes if there is none
abbrev pub key_at : List (Pair (List ℕ) ℕ) → ℕ → List ℕ
key_at ps i = option_map_or (λ p. p.key) (slice_get ps i) []

-- the value at a position, if any
abbrev pub value_at : List (Pair (List ℕ) ℕ) → ℕ → Option ℕ
value_at ps i = option_map (λ p. p.value) (slice_get ps i)

-- the number of bytes of each key
abbrev pub key_lengths : List (Pair (List ℕ) ℕ) → List ℕ
key_lengths ps = map length (pair_keys ps)

-- the slice after its first elements are replaced by the bytes, as many as fit
abbrev pub written_over : List ℕ → List ℕ → List ℕ
written_over bytes before = take (length before) bytes ++ drop (length bytes) before

abbrev pub text_row : RattleType
text_row = Map.the_row key.the_row u64 ord eq equal partial

abbrev pub holds_text : Global → Ptr → Option text_row.Denot → Fml
holds_text alloc = holds (frees.dealloc_token alloc) text_row
