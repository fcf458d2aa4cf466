-- Commands to the set, defined on an ascending list, and their replies.
use Rattle.std.specs.Prelude.{Option, ◌≡◌, false, ℕ, ◌++◌, if◌then◌else◌}
use Rattle.std.specs.Prelude.{List, length, None, Some, codes, slice_get}
use Rattle.std.specs.Ordering.{nat_cmp}
use Rattle.std.specs.Fmt.{decimal}
use Rattle.indexset_core.specs.Order.{rank, has_equal, keep, without}
use Rattle.indexset_wire.specs.Texts.{Texts}
use Rattle.indexset_bench.specs.declared.command.Command.{Command}
use Rattle.indexset_bench.specs.declared.command.Command.TheVariants.{Add, Del, Has, Rank, At, Len}
use Rattle.indexset_bench.specs.declared.reply.Reply.{Reply}
use Rattle.indexset_bench.specs.declared.reply.Reply.TheVariants.{New, Old, OldValue, Gone}
use Rattle.indexset_bench.specs.declared.reply.Reply.TheVariants.{GoneValue, Yes, No, Count}
use Rattle.indexset_bench.specs.declared.reply.Reply.TheVariants.{Item, Nothing, Empty, Bad}

-- the element as a reply, if any
abbrev pub item_reply : Option ℕ → Reply ℕ
item_reply None = Nothing
item_reply (Some n) = Item n

-- the reply to a line that has this meaning
abbrev pub reply_to : List ℕ → Option Command → Reply ℕ
reply_to s (Some (Add n)) = if has_equal nat_cmp s n then Old else New
reply_to s (Some (Del n)) = if has_equal nat_cmp s n then Gone else Nothing
reply_to s (Some (Has n)) = if has_equal nat_cmp s n then Yes else No
reply_to s (Some (Rank n)) = Count (rank nat_cmp s n)
reply_to s (Some (At i)) = item_reply (slice_get s i)
reply_to s (Some Len) = Count (length s)
reply_to s None = Bad

-- the elements of the set after a line that has this meaning
abbrev pub contents_after : List ℕ → Option Command → List ℕ
contents_after s (Some (Add n)) = keep nat_cmp s n
contents_after s (Some (Del n)) = without nat_cmp s n
contents_after s (Some (Has n)) = s
contents_after s (Some (Rank n)) = s
contents_after s (Some (At i)) = s
contents_after s (Some Len) = s
contents_after s None = s

-- the command inserts an absent number
abbrev pub AddsNew : List ℕ → Option Command → Type 0
AddsNew s (Some (Add n)) = has_equal nat_cmp s n ≡ false
AddsNew s other = ⊥

module _ {T : Type 0} (texts : Texts T) where
  -- the text of a reply
  abbrev pub reply_text : Reply T → List ℕ
  reply_text New = codes "new"
  reply_text Old = codes "old"
  reply_text (OldValue v) = codes "old " ++ texts.text v
  reply_text Gone = codes "gone"
  reply_text (GoneValue v) = codes "gone " ++ texts.text v
  reply_text Yes = codes "yes"
  reply_text No = codes "no"
  reply_text (Count n) = decimal n
  reply_text (Item n) = texts.text n
  reply_text Nothing = codes "none"
  reply_text Empty = codes "empty"
  reply_text Bad = codes "bad"
