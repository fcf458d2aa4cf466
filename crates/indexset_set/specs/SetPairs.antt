-- A value written into a set of pairs.
use Rattle.std.specs.Prelude.{ℕ, slice_get}
use Rattle.std.specs.Option.{option_map_or}
use Rattle.indexset_core.specs.declared.pair.Pair.{Pair}
use Rattle.indexset_core.specs.Pairs.{valued}
use Rattle.indexset_spine.specs.NodeList.{NodeList, items, with_item_at}

-- the pairs in their nodes, with w as the value at the position
abbrev pub with_value_at : {K V : Type 0} → NodeList (Pair K V) → ℕ → V → NodeList (Pair K V)
with_value_at s i w = option_map_or (λ p. with_item_at s i (valued p w)) (slice_get (items s) i) s
