-- The answers to reads, defined on the nodes of a map and on the list of its pairs.
use Rattle.std.specs.Prelude.{ℕ, nat_lt, if◌then◌else◌, List, ◌++◌}
use Rattle.std.specs.Prelude.{Option, drop, length, slice_get, take}
use Rattle.std.specs.Option.{option_map, option_map_or}
use Rattle.std.specs.declared.cmp.Ordering.{Ordering}
use Rattle.std.specs.declared.ops.Bound.TheVariants.{Included}
use Rattle.indexset_bench.specs.PairText.{ended, lines_for, node_text, pair_text}
use Rattle.indexset_wire.specs.Texts.{Texts}
use Rattle.indexset_core.specs.Nodes.{concat}
use Rattle.indexset_core.specs.Pairs.{entry_of, key_rank, pair, pair_of, pairs_within}
use Rattle.indexset_core.specs.declared.pair.Pair.{Pair}
use Rattle.indexset_events.specs.Nodes.{is_filled}
use Rattle.indexset_replica.specs.Replica.{first_item, last_item}
use Rattle.indexset_follow.specs.Copy.{copy, snapshot_text, sum_of}
use Rattle.indexset_follow.specs.Query.{query_of}
use Rattle.indexset_follow.specs.Reply.{others_text, reply_ended}
use Rattle.indexset_follow.specs.declared.others.Others.{Others}
use Rattle.indexset_follow.specs.declared.reads.query.Query.{Query}
use Rattle.indexset_follow.specs.declared.reads.query.Query.TheVariants.{
  Get,
  Len,
  First,
  Last,
  Range,
  Rank,
  At,
  Page,
  Nodes,
  Next,
  Head,
  Snapshot,
  Sum,
  Compact,
}
use Rattle.indexset_follow.specs.declared.reply.Reply.{Reply}
use Rattle.indexset_follow.specs.declared.reply.Reply.TheVariants as reply

-- the nodes of a map
abbrev pub PairNodes : Type 0 → Type 0
PairNodes T = List (List (Pair T T))

-- the pairs from position i on, at most n
abbrev pub page : {T : Type 0} → List (Pair T T) → ℕ → ℕ → List (Pair T T)
page ps i n = take n (drop i ps)

-- the pairs whose keys are from a to b
abbrev pub keys_from : {T : Type 0} → (T → T → Ordering) → List (Pair T T) → T → T → List (Pair T T)
keys_from cmp ps a b = pairs_within cmp ps (Included a) (Included b)

-- the reply to `head`: whether events before number m are missing
abbrev pub head_reply : ℕ → ℕ → Reply
head_reply next m = if nat_lt next m then reply.Gap next else reply.Next next

module _ {T : Type 0} (texts : Texts T) where
  -- a key and its value as a line, or `none`
  abbrev pub entry_text : Option (T × T) → List ℕ
  entry_text o =
      option_map_or (λ e. ended (pair_text texts (pair e.0 e.1))) o (reply_ended reply.Nothing)

  -- a pair as a line, or `none`
  abbrev pub item_text : Option (Pair T T) → List ℕ
  item_text o = entry_text (option_map entry_of o)

  -- the pairs in one line, or `none`
  abbrev pub row_text : List (Pair T T) → List ℕ
  row_text ps = if is_filled ps then ended (node_text texts ps) else reply_ended reply.Nothing

  -- the nodes, one in each line, and then the next number
  abbrev pub nodes_text : PairNodes T → ℕ → List ℕ
  nodes_text ns next = lines_for (node_text texts) ns ++ reply_ended (reply.Next next)

module _ {T : Type 0} (cmp : T → T → Ordering) (texts : Texts T) where
  -- the answer to a read, where d is the greatest command number
  abbrev pub query_text : PairNodes T → ℕ → ℕ → Query T → List ℕ
  query_text ns next d (Get k) = item_text texts (pair_of cmp (concat ns) k)
  query_text ns next d Len = reply_ended (reply.Count (length (concat ns)))
  query_text ns next d First = item_text texts (first_item (concat ns))
  query_text ns next d Last = item_text texts (last_item (concat ns))
  query_text ns next d (Range a b) = row_text texts (keys_from cmp (concat ns) a b)
  query_text ns next d (Rank k) = reply_ended (reply.Count (key_rank cmp (concat ns) k))
  query_text ns next d (At i) = item_text texts (slice_get (concat ns) i)
  query_text ns next d (Page i n) = row_text texts (page (concat ns) i n)
  query_text ns next d Nodes = nodes_text texts ns next
  query_text ns next d Next = reply_ended (reply.Next next)
  query_text ns next d (Head m) = reply_ended (head_reply next m)
  query_text ns next d Snapshot = snapshot_text texts (copy ns next) d
  query_text ns next d Sum =
      reply_ended (reply.Sum next (length ns) (sum_of texts (copy ns next) d) d)
  query_text ns next d Compact = reply_ended (reply.Next next)

  -- the answer to a line that is a read, or not one of the grammar
  abbrev pub read_reply : Others → PairNodes T → ℕ → ℕ → List ℕ → List ℕ
  read_reply o ns next d line =
      option_map_or (query_text ns next d) (query_of texts line) (others_text o)
