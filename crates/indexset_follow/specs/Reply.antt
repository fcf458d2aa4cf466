-- The text of a reply.
use Rattle.std.specs.Prelude.{ℕ, Bool, true, false, ◌&&◌, not, if◌then◌else◌, List, [], ◌++◌, codes}
use Rattle.std.specs.Fmt.{decimal}
use Rattle.indexset_bench.specs.PairText.{ended}
use Rattle.indexset_follow.specs.Numbers.{tail_text}
use Rattle.indexset_follow.specs.Reason.{word_of}
use Rattle.indexset_follow.specs.declared.others.Others.{Others}
use Rattle.indexset_follow.specs.declared.others.Others.TheVariants.{Tell, Pass}
use Rattle.indexset_follow.specs.declared.others.Voice.{Voice}
use Rattle.indexset_follow.specs.declared.reply.Reply.{Reply}
use Rattle.indexset_follow.specs.declared.reply.Reply.TheVariants.{Next, Had, Gap, Missing, Unfit}
use Rattle.indexset_follow.specs.declared.reply.Reply.TheVariants.{Held, Sum, Count, Nothing, Bad}

abbrev pub reply_text : Reply → List ℕ
reply_text (Next n) = codes "next " ++ decimal n
reply_text (Had n) = codes "had " ++ decimal n
reply_text (Gap n) = codes "gap " ++ decimal n
reply_text (Missing n first) = codes "gap " ++ decimal n ++ codes " " ++ decimal first
reply_text (Unfit n reason) = codes "unfit " ++ decimal n ++ codes " " ++ word_of reason
reply_text Held = codes "held"
reply_text (Sum n count sum d) =
    codes "sum " ++ decimal n ++ codes " " ++ decimal count ++ codes " " ++ decimal sum
    ++ tail_text d
reply_text (Count n) = decimal n
reply_text Nothing = codes "none"
reply_text Bad = codes "bad"

-- a reply as a line
abbrev pub reply_ended : Reply → List ℕ
reply_ended reply = ended (reply_text reply)

-- ---- which replies are written

-- events are missing, or a line does not fit
abbrev pub is_urgent : Reply → Bool
is_urgent (Gap n) = true
is_urgent (Missing n first) = true
is_urgent (Unfit n reason) = true
is_urgent other = false

-- what a follower writes as its reply to an event or a line of a snapshot
abbrev pub voiced : Voice → Reply → List ℕ
voiced v reply = if v.is_quiet && not (is_urgent reply) then [] else reply_ended reply

-- what a follower does with a line that is not one of the grammar: a quiet one passes over it
abbrev pub follower_others : Voice → Others
follower_others v = if v.is_quiet then Pass else v.others

-- the answer to a line that is not one of the grammar
abbrev pub others_text : Others → List ℕ
others_text Tell = reply_ended Bad
others_text Pass = []
