-- Writes through a mutable reference to a value of a set of pairs.
use mathlib.Core.Option as maybe
use Rattle.std.specs.Prelude.{ℕ, Option, Some, None}
use Rattle.std.specs.Borrow.{Fml, RattleType, Bor, MutBor, GName}
use Rattle.std.specs.Borrow.{Lends, LendsIf, follows, follows_if}
use Rattle.std.specs.BTreeMap.Lent.{OrdMembers}
use Rattle.indexset_spine.specs.NodeList.{NodeList}
use Rattle.indexset_core.specs.declared.pair.Pair.{Pair}
use Rattle.indexset_core.specs.Pairs.{by_key}
use Rattle.indexset_set.specs.SetPairs.{with_value_at}
use Rattle.indexset_core.specs.contracts.pair.Pair as pair
use Rattle.indexset_set.specs.contracts.BTreeSet.{the_row}

abbrev pub pairs_row : (K V : RattleType) → OrdMembers K.Denot → RattleType
pairs_row K V o =
    the_row (pair.the_row K V) (record { cmp = by_key o.cmp })
    (record { eq = λ p q. o.eq p.key q.key })
    (record { partial_cmp = λ p q. o.partial_cmp p.key q.key })

-- the name of the lent value, if any
abbrev pub name_of_pair : {A B : Type 0} → Option (A × MutBor B) → maybe.Option GName
name_of_pair (Some p) = maybe.some p.1.ghost_name
name_of_pair None = maybe.none

module _ (K V : RattleType) (o : OrdMembers K.Denot)
    (s : MutBor (NodeList (Pair K.Denot V.Denot))) (i : ℕ) where
  -- once the borrow r ends, the value at the position is the last value written through r
  abbrev pub lends_value : MutBor V.Denot → Fml
  lends_value r = Lends (pairs_row K V o) V s r (with_value_at s.now i)

  -- `lends_value` for r in a pair with its key
  abbrev pub lends_pair : Bor K.Denot × MutBor V.Denot → Fml
  lends_pair r = follows (pairs_row K V o) V s.ghost_name r.1.ghost_name (with_value_at s.now i)

  -- once the borrow r ends, the value at the position is the last one written through r; if r is
  -- `None`, the set stays the same
  abbrev pub lends_value_if : Option (MutBor V.Denot) → Fml
  lends_value_if r = LendsIf (pairs_row K V o) V s r (with_value_at s.now i) s.now

  -- `lends_value_if` for r in a pair with its key
  abbrev pub lends_pair_if : Option (Bor K.Denot × MutBor V.Denot) → Fml
  lends_pair_if r =
      follows_if (pairs_row K V o) V s.ghost_name (name_of_pair r) (with_value_at s.now i) s.now
