-- The output for an input.
use Rattle.std.specs.Prelude.{ℕ, ◌≢◌, List, [], MatchOption}
use Rattle.std.specs.Option.{option_map_or}
use Rattle.std.specs.Ordering.{nat_cmp}
use Rattle.indexset_log.specs.Tree.{fresh}
use Rattle.indexset_bench.specs.Command.{meaning}
use Rattle.indexset_bench.specs.PairCommand.{pair_meaning}
use Rattle.indexset_lines.specs.Lines.{lines_of}
use Rattle.indexset_lines.specs.Run.{left_by, replies_to}
use Rattle.indexset_bench.specs.Pairs.{PairTree, pair_events, pair_reply, pairs_after, reply_ended}
use Rattle.indexset_wire.specs.Texts.{number_texts}
use Rattle.indexset_bench.specs.Reply.{AddsNew, reply_to, contents_after}

-- the state of a run: the numbers of the set, and the map
pub record Stores : Type 0 where
  pub numbers : List ℕ
  pub pairs : PairTree ℕ

abbrev pub stores : List ℕ → PairTree ℕ → Stores
stores s t = record { numbers = s; pairs = t }

-- the initial state: both empty, at most four pairs in a node, and 0 as the number of the next
-- event
abbrev pub no_stores : Stores
no_stores = stores [] (fresh 4)

-- the reply to a line; a byte 10 ends each of its lines
abbrev pub reply_line : Stores → List ℕ → List ℕ
reply_line s line =
    option_map_or (pair_reply nat_cmp number_texts s.pairs) (pair_meaning number_texts line)
    (reply_ended number_texts (reply_to s.numbers (meaning line)))

-- the state after a line
abbrev pub stores_after : Stores → List ℕ → Stores
stores_after s line =
    option_map_or (λ c. stores s.numbers (pairs_after nat_cmp s.pairs c))
    (pair_meaning number_texts line) (stores (contents_after s.numbers (meaning line)) s.pairs)

-- the line is a command that changes the map, or it inserts an absent number into the set
abbrev pub Changes : Stores → List ℕ → Type 0
Changes s line =
    MatchOption (pair_meaning number_texts line) (AddsNew s.numbers (meaning line))
    (λ c. pair_events nat_cmp s.pairs c ≢ [])

-- the concatenation of the replies to the lines
abbrev pub replies_of : Stores → List (List ℕ) → List ℕ
replies_of = replies_to reply_line stores_after

-- the state after the lines
abbrev pub stores_of : Stores → List (List ℕ) → Stores
stores_of = left_by stores_after

-- the replies to the lines of the input, from the initial state
abbrev pub text_of : List ℕ → List ℕ
text_of input = replies_of no_stores (lines_of input)

-- the number of events that the lines of the input emit
abbrev pub events_told : List ℕ → ℕ
events_told input = (stores_of no_stores (lines_of input)).pairs.next
