-- Writes through a mutable reference to an item of a spine.
use Rattle.std.specs.Prelude.{ℕ, Option}
use Rattle.std.specs.Borrow.{Fml, RattleType, MutBor, Lends, LendsIf}
use Rattle.indexset_spine.specs.NodeList.{NodeList, with_item_at}
use Rattle.indexset_spine.specs.contracts.spine.Spine.{the_row}

-- once the borrow r ends, the item at the position is the last value written through r
abbrev pub lends_at : (T : RattleType) → MutBor (NodeList T.Denot) → ℕ → MutBor T.Denot → Fml
lends_at T s i r = Lends (the_row T) T s r (with_item_at s.now i)

-- the same if r is a reference; if it is `None`, the spine stays the same
abbrev pub lends_item : (T : RattleType) → MutBor (NodeList T.Denot) → ℕ
    → Option (MutBor T.Denot) → Fml
lends_item T s i r = LendsIf (the_row T) T s r (with_item_at s.now i) s.now
