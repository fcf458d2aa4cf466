-- The number of items of a key.
use Rattle.std.specs.Prelude.{ℕ, List, count_by}
use Rattle.std.specs.Ordering.{is_eq}
use Rattle.std.specs.declared.cmp.Ordering.{Ordering}

-- how many items equal v
abbrev pub count_equal : {T Q : Type 0} → (T → Q → Ordering) → List T → Q → ℕ
count_equal cmp l v = count_by (λ x. is_eq (cmp x v)) l
