-- Worked examples: a leader's answers to commands, `head`, bytes 13 before a line end, and the
-- output of a quiet follower.
use Rattle.std.proofs.Common.{None, Some, ◌≡◌, true, [], ◌∷◌, ◌++◌, refl}
use lib.Chars.{codes}
use Rattle.std.specs.Fmt.{digits}
use Rattle.indexset_bench.specs.PairText.{ended}
use Rattle.indexset_bench.specs.declared.pair_command.PairCommand.TheVariants.{Put, Cut}
use Rattle.indexset_events.specs.Table.{put_events, removal_by}
use Rattle.indexset_log.specs.Tree.{fresh}
use Rattle.indexset_follow.specs.Echo.{command}
use Rattle.indexset_follow.specs.Leading.{command_text, leader_of}
use Rattle.indexset_follow.specs.Reads.{head_reply}
use Rattle.indexset_follow.specs.Reply.{follower_others, voiced}
use Rattle.indexset_follow.specs.Store.{without_return}
use Rattle.indexset_follow.specs.declared.others.Others.TheVariants.{Tell, Pass}
use Rattle.indexset_follow.specs.declared.others.Voice.{Voice}
use Rattle.indexset_follow.specs.declared.reply.Reply.TheVariants.{Next, Had, Gap, Held}
use Rattle.std.specs.Ordering.{nat_cmp}
use Rattle.indexset_wire.specs.Texts.{number_texts}

-- the first pair of a map, and the removal of an absent key
commands : (command_text nat_cmp number_texts (leader_of (fresh 4) 0) (command None (Put 3 30)) ≡ ended (codes "new") ++ ended (codes "0 create 3:30") ++ ended (codes "next 1"))
    × (command_text nat_cmp number_texts (leader_of (fresh 4) 0) (command None (Cut 3)) ≡ ended (codes "none") ++ ended (codes "next 0"))
unfolding put_events removal_by digits
commands = (refl, refl)

-- the same with a command number, which is or is not the greatest
numbered :
    (command_text nat_cmp number_texts (leader_of (fresh 4) 0) (command (Some 17) (Put 3 30))
    ≡ ended (codes "#17 new") ++ ended (codes "0 create 3:30") ++ ended (codes "done 17 1") ++ ended (codes "next 1"))
    × (command_text nat_cmp number_texts (leader_of (fresh 4) 20) (command (Some 17) (Cut 3)) ≡ ended (codes "#17 none") ++ ended (codes "done 20 0") ++ ended (codes "next 0"))
unfolding put_events removal_by digits
numbered = (refl, refl)

heads : (head_reply 5 0 ≡ Next 5) × (head_reply 5 5 ≡ Next 5) × (head_reply 5 6 ≡ Gap 5)
heads = (refl, refl, refl)

-- only one byte 13 is removed, at the end
returns : (without_return (codes "len" ++ 13 ∷ []) ≡ codes "len") × (without_return (13 ∷ 13 ∷ []) ≡ 13 ∷ []) × (without_return (13 ∷ 65 ∷ []) ≡ 13 ∷ 65 ∷ []) × (without_return [] ≡ [])
returns = (refl, refl, refl, refl)

abbrev quiet : Voice
quiet = record { others = Tell; is_quiet = true }

told_quietly : (voiced quiet (Next 5) ≡ []) × (voiced quiet (Had 5) ≡ []) × (voiced quiet Held ≡ []) × (voiced quiet (Gap 5) ≡ ended (codes "gap 5")) × (follower_others quiet ≡ Pass)
unfolding digits
told_quietly = (refl, refl, refl, refl, refl)
