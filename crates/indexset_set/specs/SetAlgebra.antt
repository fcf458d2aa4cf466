-- Two ascending lists as sets.
use Rattle.std.specs.Prelude.{◌≡◌, ℕ, List, take, drop, filter, not}
use Rattle.std.specs.declared.cmp.Ordering.{Ordering}
use Rattle.std.specs.List.{fold}
use Rattle.indexset_core.specs.Order.{has_equal, keep, put}

module _ {T : Type 0} (cmp : T → T → Ordering) where
  -- the elements of l that have an equal one in r
  unfoldable pub intersection : List T → List T → List T
  intersection l r = filter (has_equal cmp r) l

  -- the elements of l that have no equal one in r
  unfoldable pub difference : List T → List T → List T
  difference l r = filter (λ x. not (has_equal cmp r x)) l

  -- the elements of l, and those of r that have no equal one in l, in order
  unfoldable pub union : List T → List T → List T
  union l r = fold (keep cmp) l r

  -- the elements of either that have no equal one in the other
  unfoldable pub symmetric_difference : List T → List T → List T
  symmetric_difference l r = union (difference l r) (difference r l)

  -- the elements of l, with each of xs inserted in order, replacing any equal one
  unfoldable pub put_all : List T → List T → List T
  put_all l xs = fold (put cmp) l xs

  -- m is l with a prefix of xs inserted in order, and rest is the rest of xs
  abbrev pub MovesPrefix : List T → List T → List T → List T → Type 0
  MovesPrefix l xs m rest = (k : ℕ) × (m ≡ put_all l (take k xs)) × (rest ≡ drop k xs)
