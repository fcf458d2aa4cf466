-- Lists in the order of a comparison. Equal does not mean identical. An item may be compared with a
-- value of another type, as in a look-up.
use Rattle.std.specs.Prelude.{◌≡◌, ℕ, ◌-◌, ◌<◌, ◌≤◌, ◌==◌, length, Bool, true}
use Rattle.std.specs.Prelude.{false, List, ◌∷◌, ◌++◌, if◌then◌else◌, filter}
use Rattle.std.specs.Prelude.{not, AllPairs, count_by, Option, Some, None, find}
use Rattle.std.specs.declared.cmp.Ordering.{Ordering}
use Rattle.std.specs.declared.cmp.Ordering.TheVariants.{Less, Equal, Greater}
use Rattle.std.specs.declared.ops.Bound.{Bound}
use Rattle.std.specs.declared.ops.Bound.TheVariants.{Included, Excluded, Unbounded}
use Rattle.std.specs.Ordering.{is_lt, is_le, is_gt, is_eq}
use Rattle.std.specs.List.{list_any, AllWithin, HoldsAt}

-- each element is below every later one
abbrev pub IsAscending : {T : Type 0} → (T → T → Ordering) → List T → Type 0
IsAscending cmp l = AllPairs (λ x y. cmp x y ≡ Less) l

-- the elements below v
abbrev pub below : {T Q : Type 0} → (T → Q → Ordering) → List T → Q → List T
below cmp l v = filter (λ x. is_lt (cmp x v)) l

-- the elements above v
abbrev pub above : {T Q : Type 0} → (T → Q → Ordering) → List T → Q → List T
above cmp l v = filter (λ x. is_gt (cmp x v)) l

-- how many are below v
abbrev pub rank : {T Q : Type 0} → (T → Q → Ordering) → List T → Q → ℕ
rank cmp l v = count_by (λ x. is_lt (cmp x v)) l

-- an equal element is present
abbrev pub has_equal : {T Q : Type 0} → (T → Q → Ordering) → List T → Q → Bool
has_equal cmp l v = list_any (λ x. is_eq (cmp x v)) l

-- the index of the element equal to v, if any
abbrev pub index_of : {T Q : Type 0} → (T → Q → Ordering) → List T → Q → Option ℕ
index_of cmp l v = if has_equal cmp l v then Some (rank cmp l v) else None

-- the element equal to v, if any
abbrev pub equal_element : {T Q : Type 0} → (T → Q → Ordering) → List T → Q → Option T
equal_element cmp l v = find (λ x. is_eq (cmp x v)) l

-- the first element not below v, if any
abbrev pub lower_element : {T Q : Type 0} → (T → Q → Ordering) → List T → Q → Option T
lower_element cmp l v = find (λ x. not (is_lt (cmp x v))) l

-- the elements, with v inserted in order, replacing any equal element
unfoldable pub put : {T : Type 0} → (T → T → Ordering) → List T → T → List T
put cmp l v = below cmp l v ++ v ∷ above cmp l v

-- the elements, with v inserted in order, unless an equal element is present
unfoldable pub keep : {T : Type 0} → (T → T → Ordering) → List T → T → List T
keep cmp l v = if has_equal cmp l v then l else put cmp l v

-- the elements that do not compare Equal
unfoldable pub unequal : {T : Type 0} → (T → Ordering) → List T → List T
unequal answer l = filter (λ x. not (is_eq (answer x))) l

-- the elements that are not equal to v
abbrev pub without : {T Q : Type 0} → (T → Q → Ordering) → List T → Q → List T
without cmp l v = unequal (λ x. cmp x v) l

-- how many elements are strictly outside the bound, counted from the start of the list or from its
-- end
abbrev pub outside_count : {T Q : Type 0} → (T → Q → Ordering) → List T → Bound Q → Bool → ℕ
outside_count cmp l (Included v) true = count_by (λ x. is_lt (cmp x v)) l
outside_count cmp l (Excluded v) true = count_by (λ x. is_le (cmp x v)) l
outside_count cmp l (Included v) false = count_by (λ x. is_gt (cmp x v)) l
outside_count cmp l (Excluded v) false = count_by (λ x. not (is_lt (cmp x v))) l
outside_count cmp l Unbounded from_start = 0

-- the index of the last of n elements, if any
abbrev pub last_index : ℕ → Option ℕ
last_index n = if n == 0 then None else Some (n - 1)

-- the element at index i equals v, and all before it are below v
pub record IsFoundAt {T Q : Type 0} (cmp : T → Q → Ordering) (l : List T) (v : Q)
    (i : ℕ) : Type 0 where
  pub inside : i < length l
  pub equal : HoldsAt (λ x. cmp x v ≡ Equal) l i
  pub below_before : AllWithin (λ x. cmp x v ≡ Less) l 0 i

-- index i is the insertion point of v: all elements before it are below v, and all from it on are
-- above v
pub record IsGapFor {T Q : Type 0} (cmp : T → Q → Ordering) (l : List T) (v : Q)
    (i : ℕ) : Type 0 where
  pub inside : i ≤ length l
  pub below_before : AllWithin (λ x. cmp x v ≡ Less) l 0 i
  pub above_after : AllWithin (λ x. cmp x v ≡ Greater) l i (length l)
