-- The numbers and the texts of errors.
use Rattle.std.specs.Prelude.{ℕ, List, codes}
use Rattle.indexset_core.specs.declared.refusal.Refusal.{Refusal}
use Rattle.indexset_core.specs.declared.refusal.Refusal.TheVariants.{Memory, Numbers, Empty}
use Rattle.indexset_core.specs.declared.refusal.Refusal.TheVariants.{TooLarge, Unsorted, Overlaps}
use Rattle.indexset_core.specs.declared.refusal.Refusal.TheVariants.{PairNumber, Gap, NoSuchNode}
use Rattle.indexset_core.specs.declared.refusal.Refusal.TheVariants.{IndexOutside, ValueDiffers}
use Rattle.indexset_core.specs.declared.refusal.Refusal.TheVariants.{WouldBeEmpty, OutOfOrder}
use Rattle.indexset_core.specs.declared.refusal.Refusal.TheVariants.{BadSplit, NotNeighbours}

-- the number of an error
abbrev pub number_of : Refusal → ℕ
number_of Memory = 1
number_of Numbers = 2
number_of Empty = 3
number_of TooLarge = 4
number_of Unsorted = 5
number_of Overlaps = 6
number_of PairNumber = 7
number_of Gap = 11
number_of NoSuchNode = 12
number_of IndexOutside = 13
number_of ValueDiffers = 14
number_of WouldBeEmpty = 15
number_of OutOfOrder = 16
number_of BadSplit = 17
number_of NotNeighbours = 18

-- the text of an error
abbrev pub message_of : Refusal → List ℕ
message_of Memory = codes "memory was refused"
message_of Numbers = codes "too few numbers are left"
message_of Empty = codes "the node has no item"
message_of TooLarge = codes "the node has too many items"
message_of Unsorted = codes "the node is not ascending"
message_of Overlaps = codes "the node overlaps another"
message_of PairNumber = codes "a pair in the node has the greatest number"
message_of Gap = codes "the event's number is not the next"
message_of NoSuchNode = codes "no node has the event's last item"
message_of IndexOutside = codes "the event's index is outside its node"
message_of ValueDiffers = codes "another item stands at the event's index"
message_of WouldBeEmpty = codes "the event would empty a node"
message_of OutOfOrder = codes "the event would break the order"
message_of BadSplit = codes "the event would cut off an empty part"
message_of NotNeighbours = codes "the event's nodes are not neighbours"
