-- The words for the reasons why a line does not fit.
use Rattle.std.specs.Prelude.{ℕ, List, codes}
use Rattle.indexset_core.specs.declared.refusal.Refusal.{Refusal}
use Rattle.indexset_core.specs.declared.refusal.Refusal.TheVariants as refusal
use Rattle.indexset_follow.specs.declared.reason.Reason.{Reason}
use Rattle.indexset_follow.specs.declared.reason.Reason.TheVariants.{Refused, NotBegun, Count, Sum}

-- no line has a refusal that is not named
abbrev pub refusal_word : Refusal → List ℕ
refusal_word refusal.Numbers = codes "number"
refusal_word refusal.NoSuchNode = codes "node"
refusal_word refusal.IndexOutside = codes "place"
refusal_word refusal.ValueDiffers = codes "item"
refusal_word refusal.WouldBeEmpty = codes "empty"
refusal_word refusal.Empty = codes "empty"
refusal_word refusal.OutOfOrder = codes "order"
refusal_word refusal.Unsorted = codes "order"
refusal_word refusal.BadSplit = codes "split"
refusal_word refusal.NotNeighbours = codes "neighbours"
refusal_word refusal.Overlaps = codes "overlap"
refusal_word refusal.TooLarge = codes "size"
refusal_word other = codes "other"

abbrev pub word_of : Reason → List ℕ
word_of (Refused refusal) = refusal_word refusal
word_of NotBegun = codes "start"
word_of Count = codes "count"
word_of Sum = codes "sum"
