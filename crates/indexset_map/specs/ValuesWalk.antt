-- The state of an iterator over mutable references to the values, one at a time.
use Rattle.std.specs.Prelude.{[], Option}
use Rattle.std.specs.Borrow.{Fml, RattleType, MutBor, Lends, LendsIf}
use Rattle.std.specs.declared.cmp.Ord as ord
use Rattle.std.specs.declared.cmp.PartialEq as eq
use Rattle.std.specs.declared.cmp.PartialOrd as partial
use mir.Syntax.{named}
use Rattle.indexset_map.specs.Walk.{after_first, before_last}
use Rattle.indexset_map.specs.declared.iter_mut.IterMut.{IterMut}
use Rattle.indexset_map.specs.declared.values_mut.ValuesMut.{ValuesMut}
use Rattle.indexset_map.specs.contracts.values_mut.ValuesMut.{the_row}

module _ {K V : Type 0} {g : ord.Ghosts K} {g' : eq.Ghosts K} {g'' : partial.Ghosts K} where
  -- the iterator over the pairs at the same positions
  abbrev pub values_walk : ValuesMut K V g g' g'' → IterMut K V g g' g''
  values_walk s = record {
    map = s.map;
    front = s.front;
    back = s.back;
    node = s.node;
    start = s.start;
    within = s.within;
    start_is = s.start_is;
  }

  -- the iterator over the values at the same positions
  abbrev pub values_of : IterMut K V g g' g'' → ValuesMut K V g g' g''
  values_of s = record {
    map = s.map;
    front = s.front;
    back = s.back;
    node = s.node;
    start = s.start;
    within = s.within;
    start_is = s.start_is;
  }

module _ (K V : RattleType) {g : ord.Ghosts K.Denot} {g' : eq.Ghosts K.Denot}
    {g'' : partial.Ghosts K.Denot} (s : MutBor (ValuesMut K.Denot V.Denot g g' g'')) where
  -- once the borrow r ends, the iterator is past its first value, which is the last value written
  -- through r
  abbrev pub lends_next_value : MutBor V.Denot → Fml
  lends_next_value r =
      Lends (the_row (record { mir = named 1; lft = [] }) K V g g' g'' (record {})) V s r
      (λ w. values_of (after_first (values_walk s.now) w))

  -- the same for an optional r; at `None` the iterator is unchanged
  abbrev pub lends_next_value_if : Option (MutBor V.Denot) → Fml
  lends_next_value_if r =
      LendsIf (the_row (record { mir = named 1; lft = [] }) K V g g' g'' (record {})) V s r
      (λ w. values_of (after_first (values_walk s.now) w)) s.now

  -- the same at the last value
  abbrev pub lends_next_value_back : MutBor V.Denot → Fml
  lends_next_value_back r =
      Lends (the_row (record { mir = named 1; lft = [] }) K V g g' g'' (record {})) V s r
      (λ w. values_of (before_last (values_walk s.now) w))

  -- the same for an optional r; at `None` the iterator is unchanged
  abbrev pub lends_next_value_back_if : Option (MutBor V.Denot) → Fml
  lends_next_value_back_if r =
      LendsIf (the_row (record { mir = named 1; lft = [] }) K V g g' g'' (record {})) V s r
      (λ w. values_of (before_last (values_walk s.now) w)) s.now
