-- Lists of commands to a set, defined on its elements in order.
use Rattle.std.specs.Prelude.{◌≡◌, ◌-◌, Option, None, Some, List, []}
use Rattle.std.specs.Prelude.{length, take, drop, slice_get, not}
use Rattle.std.specs.List.{fold, scan}
use Rattle.std.specs.declared.cmp.Ordering.{Ordering}
use Rattle.indexset_core.specs.Order.{rank, has_equal, equal_element}
use Rattle.indexset_core.specs.Order.{lower_element, put, keep, without}
use Rattle.indexset_bench.specs.declared.set_run.SetCommand.{SetCommand}
use Rattle.indexset_bench.specs.declared.set_run.SetCommand.TheVariants.{
  Insert,
  Remove,
  Contains,
  Replace,
  Take,
  Get,
  LowerBound,
  GetIndex,
  First,
  Last,
  PopFirst,
  PopLast,
  Rank,
  Len,
  Clear,
}
use Rattle.indexset_bench.specs.declared.set_run.SetReply.{SetReply}
use Rattle.indexset_bench.specs.declared.set_run.SetReply.TheVariants.{Flag, Item, Count, Done}

-- the reply is a clone of the element, if any
abbrev pub IsItemClone : {T : Type 0} → (T → T → Type 0) → Option T → SetReply T → Type 0
IsItemClone C None r = r ≡ Item None
IsItemClone {T} C (Some x) r = (y : T) × (r ≡ Item (Some y)) × C x y

module _ {T : Type 0} (cmp : T → T → Ordering) where
  -- the reply to a command
  abbrev pub set_reply : List T → SetCommand T → SetReply T
  set_reply l (Insert v) = Flag (not (has_equal cmp l v))
  set_reply l (Remove v) = Flag (has_equal cmp l v)
  set_reply l (Contains v) = Flag (has_equal cmp l v)
  set_reply l (Replace v) = Item (equal_element cmp l v)
  set_reply l (Take v) = Item (equal_element cmp l v)
  set_reply l (Get v) = Item (equal_element cmp l v)
  set_reply l (LowerBound v) = Item (lower_element cmp l v)
  set_reply l (GetIndex i) = Item (slice_get l i)
  set_reply l First = Item (slice_get l 0)
  set_reply l Last = Item (slice_get l (length l - 1))
  set_reply l PopFirst = Item (slice_get l 0)
  set_reply l PopLast = Item (slice_get l (length l - 1))
  set_reply l (Rank v) = Count (rank cmp l v)
  set_reply l Len = Count (length l)
  set_reply l Clear = Done

  -- the reply to a command, with a clone of an element that stays in the set
  abbrev pub IsSetReply : (T → T → Type 0) → List T → SetCommand T → SetReply T → Type 0
  IsSetReply C l (Get v) r = IsItemClone C (equal_element cmp l v) r
  IsSetReply C l (LowerBound v) r = IsItemClone C (lower_element cmp l v) r
  IsSetReply C l (GetIndex i) r = IsItemClone C (slice_get l i) r
  IsSetReply C l First r = IsItemClone C (slice_get l 0) r
  IsSetReply C l Last r = IsItemClone C (slice_get l (length l - 1)) r
  IsSetReply C l command r = r ≡ set_reply l command

  -- the elements of the set after a command
  abbrev pub set_after : List T → SetCommand T → List T
  set_after l (Insert v) = keep cmp l v
  set_after l (Remove v) = without cmp l v
  set_after l (Contains v) = l
  set_after l (Replace v) = put cmp l v
  set_after l (Take v) = without cmp l v
  set_after l (Get v) = l
  set_after l (LowerBound v) = l
  set_after l (GetIndex i) = l
  set_after l First = l
  set_after l Last = l
  set_after l PopFirst = drop 1 l
  set_after l PopLast = take (length l - 1) l
  set_after l (Rank v) = l
  set_after l Len = l
  set_after l Clear = []

  -- the replies to the commands, in order
  abbrev pub set_replies : List T → List (SetCommand T) → List (SetReply T)
  set_replies l commands = scan set_after set_reply l commands

  -- the elements of the set after all commands
  abbrev pub set_after_all : List T → List (SetCommand T) → List T
  set_after_all l commands = fold set_after l commands
