-- Lists of commands to a map, defined on its pairs in key order.
use Rattle.std.specs.Prelude.{◌≡◌, ◌-◌, Option, None, Some, List, [], length, take, drop, slice_get}
use Rattle.std.specs.List.{fold, scan}
use Rattle.std.specs.Option.{option_map}
use Rattle.std.specs.declared.cmp.Ordering.{Ordering}
use Rattle.indexset_core.specs.declared.pair.Pair.{Pair}
use Rattle.indexset_core.specs.Pairs.{entry_of, has_key, key_rank, pair_of}
use Rattle.indexset_core.specs.Pairs.{put_value, value_of, without_key}
use Rattle.indexset_bench.specs.declared.map_run.MapCommand.{MapCommand}
use Rattle.indexset_bench.specs.declared.map_run.MapCommand.TheVariants.{
  Insert,
  Get,
  Remove,
  GetIndex,
  RemoveEntry,
  PopFirst,
  PopLast,
  ContainsKey,
  Rank,
  Len,
  Clear,
}
use Rattle.indexset_bench.specs.declared.map_run.MapReply.{MapReply}
use Rattle.indexset_bench.specs.declared.map_run.MapReply.TheVariants.{
  Value,
  Entry,
  Flag,
  Count,
  Done,
}

module _ {K V : Type 0} where
  -- the reply is a clone of the value, if any
  abbrev pub IsValueClone : (V → V → Type 0) → Option V → MapReply K V → Type 0
  IsValueClone D None r = r ≡ Value None
  IsValueClone D (Some w) r = (copy : V) × (r ≡ Value (Some copy)) × D w copy

  -- the reply is clones of the key and the value of the pair, if any
  abbrev pub IsEntryClone : (K → K → Type 0) → (V → V → Type 0) → Option (Pair K V)
      → MapReply K V → Type 0
  IsEntryClone C D None r = r ≡ Entry None
  IsEntryClone C D (Some p) r =
      (k : K) × (w : V) × (r ≡ Entry (Some (k, w))) × C p.key k × D p.value w

module _ {K V : Type 0} (cmp : K → K → Ordering) where
  -- the reply to a command
  abbrev pub map_reply : List (Pair K V) → MapCommand K V → MapReply K V
  map_reply l (Insert k v) = Value (value_of cmp l k)
  map_reply l (Get k) = Value (value_of cmp l k)
  map_reply l (Remove k) = Value (value_of cmp l k)
  map_reply l (GetIndex i) = Entry (option_map entry_of (slice_get l i))
  map_reply l (RemoveEntry k) = Entry (option_map entry_of (pair_of cmp l k))
  map_reply l PopFirst = Entry (option_map entry_of (slice_get l 0))
  map_reply l PopLast = Entry (option_map entry_of (slice_get l (length l - 1)))
  map_reply l (ContainsKey k) = Flag (has_key cmp l k)
  map_reply l (Rank k) = Count (key_rank cmp l k)
  map_reply l Len = Count (length l)
  map_reply l Clear = Done

  -- the reply to a command, with clones of what stays in the map
  abbrev pub IsMapReply : (K → K → Type 0) → (V → V → Type 0) → List (Pair K V) → MapCommand K V
      → MapReply K V → Type 0
  IsMapReply C D l (Get k) r = IsValueClone D (value_of cmp l k) r
  IsMapReply C D l (GetIndex i) r = IsEntryClone C D (slice_get l i) r
  IsMapReply C D l command r = r ≡ map_reply l command

  -- the pairs of the map after a command
  abbrev pub map_after : List (Pair K V) → MapCommand K V → List (Pair K V)
  map_after l (Insert k v) = put_value cmp l k v
  map_after l (Get k) = l
  map_after l (Remove k) = without_key cmp l k
  map_after l (GetIndex i) = l
  map_after l (RemoveEntry k) = without_key cmp l k
  map_after l PopFirst = drop 1 l
  map_after l PopLast = take (length l - 1) l
  map_after l (ContainsKey k) = l
  map_after l (Rank k) = l
  map_after l Len = l
  map_after l Clear = []

  -- the replies to the commands, in order
  abbrev pub map_replies : List (Pair K V) → List (MapCommand K V) → List (MapReply K V)
  map_replies l commands = scan map_after map_reply l commands

  -- the pairs of the map after all commands
  abbrev pub map_after_all : List (Pair K V) → List (MapCommand K V) → List (Pair K V)
  map_after_all l commands = fold map_after l commands
