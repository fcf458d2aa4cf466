-- Lines of the first program that are not events.
use Rattle.std.specs.Prelude.{◌≡◌, Bool, ℕ, ◌^◌, ◌<◌, List, []}
use Rattle.std.specs.declared.cmp.Ordering.{Ordering}
use Rattle.indexset_wire.specs.Texts.{Texts}
use Rattle.indexset_bench.specs.declared.reply.Reply.{Reply}
use Rattle.indexset_bench.specs.declared.reply.Reply.TheVariants.{New, Old, OldValue, Gone}
use Rattle.indexset_bench.specs.declared.reply.Reply.TheVariants.{GoneValue, Yes, No, Count}
use Rattle.indexset_bench.specs.declared.reply.Reply.TheVariants.{Item, Nothing, Empty, Bad}
use Rattle.indexset_follow.specs.Follow.{State, after_line, reply_line}
use Rattle.indexset_follow.specs.declared.others.Others.TheVariants.{Pass}

module _ {T : Type 0} (texts : Texts T) where
  -- the number of a reply has at most 64 bits, or its value is in range
  abbrev pub ReplyFits : Reply T → Type 0
  ReplyFits New = Unit {0}
  ReplyFits Old = Unit {0}
  ReplyFits (OldValue v) = texts.InRange v
  ReplyFits Gone = Unit {0}
  ReplyFits (GoneValue v) = texts.InRange v
  ReplyFits Yes = Unit {0}
  ReplyFits No = Unit {0}
  ReplyFits (Count n) = n < 2 ^ 64
  ReplyFits (Item v) = texts.InRange v
  ReplyFits Nothing = Unit {0}
  ReplyFits Empty = Unit {0}
  ReplyFits Bad = Unit {0}

module _ {T : Type 0} (cmp : T → T → Ordering) (texts : Texts T) where
  -- a follower that passes over other lines writes nothing for the line, and does not change
  abbrev pub IsPassedOver : List ℕ → Type 0
  IsPassedOver line =
      (s : State T)
      → (after_line cmp texts s line ≡ s)
      × ((quiet : Bool)
      → reply_line cmp texts (record { others = Pass; is_quiet = quiet }) s line ≡ [])
