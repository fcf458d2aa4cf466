-- Reads of a map, and their lines.
use Rattle.std.specs.Prelude.{ℕ, ◌<◌, ◌^◌, if◌then◌else◌, List}
use Rattle.std.specs.Prelude.{◌∷◌, ◌++◌, Option, None, Some, codes}
use Rattle.std.specs.Fmt.{decimal}
use Rattle.std.specs.Option.{option_map, option_map_or}
use Rattle.std.specs.Str.{bytes_eq}
use Rattle.indexset_bench.specs.Texts.{two_keys}
use Rattle.indexset_wire.specs.Texts.{Texts}
use Rattle.indexset_wire.specs.Numbers.{number_of}
use Rattle.indexset_wire.specs.Parts.{cut_at}
use Rattle.indexset_follow.specs.Numbers.{two_numbers}
use Rattle.indexset_follow.specs.declared.reads.query.Query.{Query}
use Rattle.indexset_follow.specs.declared.reads.query.Query.TheVariants.{
  Get,
  Len,
  First,
  Last,
  Range,
  Rank,
  At,
  Page,
  Nodes,
  Next,
  Head,
  Snapshot,
  Sum,
  Compact,
}

-- the read of one word
abbrev pub word_query : {T : Type 0} → List ℕ → Option (Query T)
word_query word =
    if bytes_eq word (codes "len") then Some Len
    else if bytes_eq word (codes "first") then Some First
    else if bytes_eq word (codes "last") then Some Last
    else if bytes_eq word (codes "nodes") then Some Nodes
    else if bytes_eq word (codes "next") then Some Next
    else if bytes_eq word (codes "snapshot") then Some Snapshot
    else if bytes_eq word (codes "sum") then Some Sum
    else if bytes_eq word (codes "compact") then Some Compact
    else None

-- the read of a word and one number or two
abbrev pub numbered_query : {T : Type 0} → List ℕ → List ℕ → Option (Query T)
numbered_query word rest =
    if bytes_eq word (codes "at") then option_map At (number_of rest)
    else if bytes_eq word (codes "head") then option_map Head (number_of rest)
    else if bytes_eq word (codes "page") then option_map (λ p. Page p.0 p.1) (two_numbers rest)
    else None

module _ {T : Type 0} (texts : Texts T) where
  -- the line of a read
  abbrev pub query_line : Query T → List ℕ
  query_line (Get k) = codes "get " ++ texts.text k
  query_line Len = codes "len"
  query_line First = codes "first"
  query_line Last = codes "last"
  query_line (Range a b) = codes "range " ++ texts.text a ++ 32 ∷ texts.text b
  query_line (Rank k) = codes "rank " ++ texts.text k
  query_line (At i) = codes "at " ++ decimal i
  query_line (Page i n) = codes "page " ++ decimal i ++ 32 ∷ decimal n
  query_line Nodes = codes "nodes"
  query_line Next = codes "next"
  query_line (Head m) = codes "head " ++ decimal m
  query_line Snapshot = codes "snapshot"
  query_line Sum = codes "sum"
  query_line Compact = codes "compact"

  -- the numbers of a read have at most 64 bits, and its keys are in range
  abbrev pub QueryFits : Query T → Type 0
  QueryFits (Get k) = texts.InRange k
  QueryFits Len = Unit {0}
  QueryFits First = Unit {0}
  QueryFits Last = Unit {0}
  QueryFits (Range a b) = texts.InRange a × texts.InRange b
  QueryFits (Rank k) = texts.InRange k
  QueryFits (At i) = i < 2 ^ 64
  QueryFits (Page i n) = (i < 2 ^ 64) × (n < 2 ^ 64)
  QueryFits Nodes = Unit {0}
  QueryFits Next = Unit {0}
  QueryFits (Head m) = m < 2 ^ 64
  QueryFits Snapshot = Unit {0}
  QueryFits Sum = Unit {0}
  QueryFits Compact = Unit {0}

  -- the read of a word and the text after it
  abbrev pub keyed_query : List ℕ → List ℕ → Option (Query T)
  keyed_query word rest =
      if bytes_eq word (codes "get") then option_map Get (texts.parse rest)
      else if bytes_eq word (codes "rank") then option_map Rank (texts.parse rest)
      else if bytes_eq word (codes "range")
      then option_map (λ p. Range p.0 p.1) (two_keys texts rest)
      else numbered_query word rest

  -- the read of a line
  abbrev pub query_of : List ℕ → Option (Query T)
  query_of line = option_map_or (λ cut. keyed_query cut.0 cut.1) (cut_at 32 line) (word_query line)
