-- Where an item is inserted.
use Rattle.std.specs.Prelude.{◌≡◌, ℕ, ◌+◌, Bool, false, [], cond, is_ok, Option, Some, None}
use Rattle.std.specs.Prelude.{MatchOption, ◌/◌, ◌<◌, ◌&&◌, length, List, take, ◌==◌, IfOk, IfErr}
use Rattle.std.specs.declared.cmp.Ordering.{Ordering}
use Rattle.indexset_core.specs.Nodes.{node_at}
use Rattle.indexset_core.specs.Order.{IsFoundAt, IsGapFor}
use Rattle.indexset_log.specs.declared.insert_plan.InsertPlan.{InsertPlan}
use Rattle.indexset_events.specs.Table.{target, part_for, is_after_last}

-- a is where v is inserted
pub record IsInsertPlan {T : Type 0} (cmp : T → T → Ordering) (size : ℕ) (ns : List (List T))
    (v : T) (a : InsertPlan) : Type 0 where
  pub node_in : a.node < length ns
  pub node_is : a.node ≡ target cmp ns v
  pub full_is : a.full ≡ (length (node_at ns a.node) == size)
  pub right_is : a.right
      ≡ ((length (node_at ns a.node) == size)
      && is_after_last cmp (take (length (node_at ns a.node) / 2) (node_at ns a.node)) v)
  pub found : IfOk a.at (IsFoundAt cmp (part_for cmp size (node_at ns a.node) v) v)
  pub gap : IfErr a.at (IsGapFor cmp (part_for cmp size (node_at ns a.node) v) v)

-- where v is inserted; `None` in a tree without nodes
abbrev pub IsPlanned : {T : Type 0} → (T → T → Ordering) → ℕ → List (List T) → T
    → Option InsertPlan → Type 0
IsPlanned cmp size ns v aim = MatchOption aim (ns ≡ []) (IsInsertPlan cmp size ns v)

-- how many events a put there emits; the first put creates a node
abbrev pub count_for : Option InsertPlan → ℕ
count_for None = 1
count_for (Some a) = cond a.full 1 0 + cond (is_ok a.at) 2 1

-- an equal item is present
abbrev pub is_present : Option InsertPlan → Bool
is_present None = false
is_present (Some a) = is_ok a.at
