-- The events of a change, without numbers.
use Rattle.std.specs.Prelude.{ℕ, ◌+◌, ◌-◌, ◌/◌, length, Bool, List, [], ◌∷◌, ◌++◌}
use Rattle.std.specs.Prelude.{if◌then◌else◌, ◌==◌, get_or, take, drop, Option, Some, None, find}
use Rattle.std.specs.declared.cmp.Ordering.{Ordering}
use Rattle.std.specs.Ordering.{is_eq, is_gt}
use Rattle.std.specs.Option.{option_map_or}
use Rattle.indexset_core.specs.Order.{rank, has_equal}
use Rattle.indexset_core.specs.Parted.{less_count}
use Rattle.indexset_events.specs.declared.change.ChangeEventUnassigned.{ChangeEventUnassigned}
use Rattle.indexset_events.specs.declared.change.ChangeEventUnassigned.TheVariants.{
  InsertAt,
  RemoveAt,
  CreateNode,
  RemoveNode,
  SplitNode,
  MergeNodes,
}
use Rattle.indexset_core.specs.Nodes.{concat, node_at, node_for}
use Rattle.indexset_events.specs.Merging.{item_removed, merge_after}
use Rattle.indexset_events.specs.Nodes.{is_filled, last_of}

-- the index of the first node whose last item is not below v, or of the last node
abbrev pub target : {T Q : Type 0} → (T → Q → Ordering) → List (List T) → Q → ℕ
target cmp ns v = node_for (λ x. cmp x v) ns

-- the replacement of an only item, a last item or an inner item: v in the place of the equal item
unfoldable pub replace_events : {T : Type 0} → (T → T → Ordering) → List T → T
    → List (ChangeEventUnassigned T)
replace_events cmp n v =
    let i = rank cmp n v in
    let old = get_or n i v in
    if length n == 1 then RemoveNode old ∷ CreateNode v ∷ []
    else if i + 1 == length n
    then RemoveAt (last_of n v) old i ∷ InsertAt (get_or n (i - 1) v) v i ∷ []
    else RemoveAt (last_of n v) old i ∷ InsertAt (last_of n v) v i ∷ []

-- a plain insertion, or one of these replacements
unfoldable pub node_events : {T : Type 0} → (T → T → Ordering) → List T → T
    → List (ChangeEventUnassigned T)
node_events cmp n v =
    if has_equal cmp n v then replace_events cmp n v
    else InsertAt (last_of n v) v (rank cmp n v) ∷ []

-- v is above the last item
abbrev pub is_after_last : {T : Type 0} → (T → T → Ordering) → List T → T → Bool
is_after_last cmp n v = is_gt (cmp v (last_of n v))

-- the node, or one half of it if it is full
abbrev pub half_of : {T : Type 0} → Bool → Bool → List T → List T
half_of full right n =
    if full then (if right then drop (length n / 2) n else take (length n / 2) n) else n

-- the part of the target that v is put into: a full node is halved first
abbrev pub part_for : {T : Type 0} → (T → T → Ordering) → ℕ → List T → T → List T
part_for cmp size n v = half_of (length n == size) (is_after_last cmp (take (length n / 2) n) v) n

-- the halving of a full node before a put
abbrev pub halving_events : {T : Type 0} → ℕ → List T → T → List (ChangeEventUnassigned T)
halving_events size n v =
    if length n == size then SplitNode (last_of n v) (length n / 2) ∷ [] else []

-- a put into a tree with nodes
unfoldable pub target_events : {T : Type 0} → (T → T → Ordering) → ℕ → List T → T
    → List (ChangeEventUnassigned T)
target_events cmp size n v = halving_events size n v ++ node_events cmp (part_for cmp size n v) v

-- a put: the first one creates a node
unfoldable pub put_events : {T : Type 0} → (T → T → Ordering) → ℕ → List (List T) → T
    → List (ChangeEventUnassigned T)
put_events cmp size ns v =
    if is_filled ns then target_events cmp size (node_at ns (target cmp ns v)) v
    else CreateNode v ∷ []

-- a checked put: no events if an equal item is present
unfoldable pub checked_put_events : {T : Type 0} → (T → T → Ordering) → ℕ → List (List T) → T
    → List (ChangeEventUnassigned T)
checked_put_events cmp size ns v =
    if has_equal cmp (concat ns) v then [] else put_events cmp size ns v

-- the removal of the item x at offset i of the node n, or of the node if x is its only item
abbrev pub removal_event : {T : Type 0} → List T → ℕ → T → ChangeEventUnassigned T
removal_event n i x = if length n == 1 then RemoveNode x else RemoveAt (last_of n x) x i

-- the merge of the node at index j with the next one, each named by its last item
abbrev pub merge_event : {T : Type 0} → List (List T) → T → ℕ → ChangeEventUnassigned T
merge_event ns d j = MergeNodes (last_of (node_at ns j) d) (last_of (node_at ns (j + 1)) d)

-- the removal of the item x at offset i of the node at index k, and the merge of small neighbours
abbrev pub place_removal_events : {T : Type 0} → ℕ → List (List T) → ℕ → ℕ → T
    → List (ChangeEventUnassigned T)
place_removal_events size ns k i x =
    removal_event (node_at ns k) i x
    ∷ option_map_or (λ j. merge_event (item_removed ns k i) x j ∷ []) (merge_after size ns k i) []

-- how many events a removal emits, by the nodes that it merges
abbrev pub count_with : Option ℕ → ℕ
count_with None = 1
count_with (Some j) = 2

-- how many events the removal of the item at offset i of the node at index k emits
abbrev pub place_removal_count : {T : Type 0} → ℕ → List (List T) → ℕ → ℕ → ℕ
place_removal_count size ns k i = count_with (merge_after size ns k i)

-- the removal of the item that is found Equal: no events if none is
unfoldable pub removal_by : {T : Type 0} → (T → Ordering) → ℕ → List (List T)
    → List (ChangeEventUnassigned T)
removal_by answer size ns =
    let k = node_for answer ns in
    let n = node_at ns k in
    option_map_or (λ x. place_removal_events size ns k (less_count answer n) x)
    (find (λ x. is_eq (answer x)) n) []

-- the removal of the item that equals v: no events if none does
abbrev pub removal_events : {T Q : Type 0} → (T → Q → Ordering) → ℕ → List (List T) → Q
    → List (ChangeEventUnassigned T)
removal_events cmp size ns v = removal_by (λ x. cmp x v) size ns
