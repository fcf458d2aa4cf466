-- The model of a replica, and when an event applies to it.
use Rattle.std.specs.Prelude.{◌≡◌, Option, Some, None, ℕ, ◌+◌, ◌-◌, Bool, true, ◌==◌, ◌&&◌, ◌||◌}
use Rattle.std.specs.Prelude.{not, if◌then◌else◌, nat_lt, nat_le, List, length, get_or, slice_get}
use Rattle.std.below.core.specs.declared.int.u64.TheConstants.{MAX}
use Rattle.std.specs.Option.{option_map_or}
use Rattle.std.specs.Ordering.{is_lt, is_eq}
use Rattle.std.specs.declared.cmp.Ordering.{Ordering}
use Rattle.std.specs.declared.cmp.Ordering.TheVariants.{Equal}
use Rattle.indexset_core.specs.Nodes.{concat, node_at, node_lengths, IsNodeList}
use Rattle.indexset_core.specs.declared.refusal.Refusal.{Refusal}
use Rattle.indexset_core.specs.declared.refusal.Refusal.TheVariants.{Numbers, Gap, NoSuchNode}
use Rattle.indexset_core.specs.declared.refusal.Refusal.TheVariants.{IndexOutside, ValueDiffers}
use Rattle.indexset_core.specs.declared.refusal.Refusal.TheVariants.{WouldBeEmpty, OutOfOrder}
use Rattle.indexset_core.specs.declared.refusal.Refusal.TheVariants.{BadSplit, NotNeighbours}
use Rattle.indexset_index.specs.Blocks.{block_sums}
use Rattle.indexset_events.specs.Nodes.{is_ascending}
use Rattle.indexset_events.specs.Replay.{edit, event_number, node_named, step_plain, unassigned}
use Rattle.indexset_events.specs.declared.change.ChangeEvent.{ChangeEvent}
use Rattle.indexset_events.specs.declared.change.ChangeEventUnassigned.{ChangeEventUnassigned}
use Rattle.indexset_events.specs.declared.change.ChangeEventUnassigned.TheVariants.{
  InsertAt,
  RemoveAt,
  CreateNode,
  RemoveNode,
  SplitNode,
  MergeNodes,
}

-- the first item, if any
abbrev pub first_item : {T : Type 0} → List T → Option T
first_item l = slice_get l 0

abbrev pub last_item : {T : Type 0} → List T → Option T
last_item l = slice_get l (length l - 1)

-- the nodes of a replica, and the number of the next event
pub record ReplicaState (T : Type 0) : Type 0 where
  pub nodes : List (List T)
  pub next : ℕ

-- the nodes are a node list, and these are the sums of their lengths over blocks
pub record AreIndexedNodes {T : Type 0} (cmp : T → T → Ordering) (ns : List (List T))
    (sums : List ℕ) : Type 0 where
  pub nodes : IsNodeList cmp ns
  pub index : sums ≡ block_sums (node_lengths ns)

module _ {T : Type 0} (cmp : T → T → Ordering) where
  -- the error of an edit whose nodes would not ascend as a whole
  abbrev pub disorder : Option (List (List T)) → Option Refusal
  disorder edited =
      option_map_or (λ ns. if is_ascending cmp (concat ns) then None else Some OutOfOrder) edited
      None

  -- the error of an edit of the node named m, where f gives the error for that node
  abbrev pub in_named : List (List T) → T → (List T → Option Refusal) → Option Refusal
  in_named ns m f = option_map_or (λ p. f (node_at ns p)) (node_named cmp ns m) (Some NoSuchNode)

  -- the first reason why an event does not apply to the nodes, if any
  unfoldable pub misfit : List (List T) → ChangeEventUnassigned T → Option Refusal
  misfit ns (CreateNode m) = disorder (edit cmp ns (CreateNode m))
  misfit ns (RemoveNode m) = in_named ns m (λ n. None)
  misfit ns (InsertAt m v i) =
      in_named ns m
      (λ n. if nat_lt (length n) i then Some IndexOutside
      else disorder (edit cmp ns (InsertAt m v i)))
  misfit ns (RemoveAt m v i) =
      in_named ns m
      (λ n. if nat_le (length n) i then Some IndexOutside
      else if not (is_eq (cmp (get_or n i v) v)) then Some ValueDiffers else if length n == 1
      then Some WouldBeEmpty else None)
  misfit ns (SplitNode m k) =
      in_named ns m (λ n. if k == 0 || nat_le (length n) k then Some BadSplit else None)
  misfit ns (MergeNodes m w) =
      option_map_or (λ p.
      option_map_or (λ q. if q == p + 1 then None else Some NotNeighbours) (node_named cmp ns w)
      (Some NoSuchNode))
      (node_named cmp ns m) (Some NoSuchNode)

  -- the error of an event for a replica of these nodes that expects the number `next`, other than
  -- `Memory`
  unfoldable pub apply_refusal : List (List T) → ℕ → ChangeEvent T → Option Refusal
  apply_refusal ns next e =
      if not (event_number e == next) then Some Gap else if next == MAX then Some Numbers
      else misfit ns (unassigned e)

  -- the value is above the item before it, if any, and below the item after it, if any
  abbrev pub is_between : Option T → T → Option T → Bool
  is_between before v after =
      option_map_or (λ x. is_lt (cmp x v)) before true
      && option_map_or (λ x. is_lt (cmp v x)) after true

module _ {T : Type 0} (cmp : T → T → Ordering) (C : T → T → Type 0) where
  -- y is a clone of x that equals it
  abbrev pub IsEqualClone : T → T → Type 0
  IsEqualClone x y = C x y × (cmp y x ≡ Equal)

  -- f is e with an equal clone in the place of the item that it adds
  abbrev pub AddsClone : ChangeEventUnassigned T → ChangeEventUnassigned T → Type 0
  AddsClone (InsertAt m v i) f = (w : T) × IsEqualClone v w × (f ≡ InsertAt m w i)
  AddsClone (CreateNode m) f = (w : T) × IsEqualClone m w × (f ≡ CreateNode w)
  AddsClone (RemoveAt m v i) f = f ≡ RemoveAt m v i
  AddsClone (RemoveNode m) f = f ≡ RemoveNode m
  AddsClone (SplitNode m k) f = f ≡ SplitNode m k
  AddsClone (MergeNodes m w) f = f ≡ MergeNodes m w

  -- the event, with an equal clone in the place of the item that it adds, turns the nodes ns into
  -- the nodes `after`
  pub record IsClonedStep (ns : List (List T)) (e : ChangeEventUnassigned T)
      (after : List (List T)) : Type 0 where
    pub event : ChangeEventUnassigned T
    pub adds : AddsClone e event
    pub made : step_plain cmp ns event ≡ Some after

-- the event applies to the nodes ns and turns them into the nodes `after`
pub record IsEdit {T : Type 0} (cmp : T → T → Ordering) (ns : List (List T))
    (e : ChangeEventUnassigned T) (after : List (List T)) : Type 0 where
  pub fits : misfit cmp ns e ≡ None
  pub edited : edit cmp ns e ≡ Some after

-- the same, with an equal clone in the place of the item that the event adds
pub record IsClonedEdit {T : Type 0} (cmp : T → T → Ordering) (C : T → T → Type 0)
    (ns : List (List T)) (e : ChangeEventUnassigned T) (after : List (List T)) : Type 0 where
  pub fits : misfit cmp ns e ≡ None
  pub event : ChangeEventUnassigned T
  pub adds : AddsClone cmp C e event
  pub done : IsEdit cmp ns event after
