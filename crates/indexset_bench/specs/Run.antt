-- A run, defined on the bytes that remain in its reader and on the contents of its writer.
use Rattle.std.specs.Prelude.{Option, ℕ, ◌<◌, List}
use Rattle.std.below.core.specs.declared.int.u64.TheConstants.{MAX}
use Rattle.indexset_lines.specs.Run as lines
use Rattle.indexset_bench.specs.Text.{Stores, no_stores, reply_line, stores_after, text_of}

-- the number of events is above the greatest event number
abbrev pub numbers_used_up : Stores → Type 0
numbers_used_up s = MAX < s.pairs.next

-- the reader returned its input to the end, and the replies to it were written
abbrev pub AnswersAll : (reader reader' writer writer' : Option (List ℕ)) → Type 0
AnswersAll = lines.AnswersAll text_of

-- the reader returned whole lines and such a rest, and the replies to the whole lines were written
abbrev pub AnswersWholeLines : (List ℕ → Type 0)
    → (reader reader' writer writer' : Option (List ℕ)) → Type 0
AnswersWholeLines = lines.AnswersWholeLines reply_line stores_after no_stores

-- the same, where the rest is the line whose events need more numbers than remain
abbrev pub LacksNumbers : (reader reader' writer writer' : Option (List ℕ)) → Type 0
LacksNumbers = lines.LacksNumbers reply_line stores_after no_stores numbers_used_up
