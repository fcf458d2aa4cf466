-- The elements of a list on one side of a value.
use Rattle.std.specs.Prelude.{List, Option, filter, find, not}
use Rattle.std.specs.declared.cmp.Ordering.{Ordering}
use Rattle.std.specs.Ordering.{is_gt, is_lt}

-- the elements not below v
abbrev pub not_below : {T Q : Type 0} → (T → Q → Ordering) → List T → Q → List T
not_below cmp l v = filter (λ x. not (is_lt (cmp x v))) l

-- the first element above v, if any
abbrev pub upper_element : {T Q : Type 0} → (T → Q → Ordering) → List T → Q → Option T
upper_element cmp l v = find (λ x. is_gt (cmp x v)) l
