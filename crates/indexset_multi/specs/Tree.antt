-- The model of a multimap, and the multimap after an insertion or a removal.
use Rattle.std.specs.Prelude.{◌≡◌, ℕ, zero, suc, ◌+◌, ◌-◌, ◌++◌, ◌==◌, ◌&&◌, length}
use Rattle.std.specs.Prelude.{Bool, List, [], Option, Some, is_none, if◌then◌else◌}
use Rattle.std.below.core.specs.declared.int.u64.TheConstants.{MAX}
use Rattle.std.specs.Option.{option_map_or, unwrap_or}
use Rattle.std.specs.declared.cmp.Ordering.{Ordering}
use Rattle.indexset_core.specs.declared.multipair.MultiPair.{MultiPair}
use Rattle.indexset_core.specs.declared.refusal.Refusal.{Refusal}
use Rattle.indexset_core.specs.declared.refusal.Refusal.TheVariants.{Numbers}
use Rattle.indexset_core.specs.MultiPairs.{by_number, numbered_pair}
use Rattle.indexset_core.specs.Nodes.{concat}
use Rattle.indexset_events.specs.declared.change.ChangeEventUnassigned.{ChangeEventUnassigned}
use Rattle.indexset_events.specs.declared.change.ChangeEvent.{ChangeEvent}
use Rattle.indexset_events.specs.Edits.{with_put}
use Rattle.indexset_events.specs.Replay.{replay, numbered_from, IsNumberedFrom}
use Rattle.indexset_events.specs.Table.{put_events, removal_events}
use Rattle.indexset_log.specs.Tree.{refusal_for}
use Rattle.indexset_multi.specs.Keys.{first_pair, kept_number, pairs_of}

-- the nodes, the node size, the number of the next event, and the number of the next new pair
pub record MultiTree (K V : Type 0) : Type 0 where
  pub nodes : List (List (MultiPair K V))
  pub size : ℕ
  pub next : ℕ
  pub pair_next : ℕ

-- the events of the removal of an optional pair
abbrev pub pair_removal_events : {K V : Type 0} → (K → K → Ordering) → ℕ
    → List (List (MultiPair K V)) → Option (MultiPair K V)
    → List (ChangeEventUnassigned (MultiPair K V))
pair_removal_events cmp size ns pair =
    option_map_or (λ p. removal_events (by_number cmp) size ns p) pair []

-- the multimap after that removal, with the nodes after the replay of its events
abbrev pub after_pair_removal : {K V : Type 0} → (K → K → Ordering) → MultiTree K V
    → Option (MultiPair K V) → MultiTree K V
after_pair_removal cmp m pair =
    let events = pair_removal_events cmp m.size m.nodes pair in
    record {
      nodes = unwrap_or (replay (by_number cmp) m.nodes (numbered_from m.next events)) m.nodes;
      size = m.size;
      next = m.next + length events;
      pair_next = m.pair_next;
    }

-- the multimap after n removals of the key's first pair
abbrev pub after_removals : {K V Q : Type 0} → (K → K → Ordering) → (K → Q → Ordering)
    → MultiTree K V → Q → ℕ → MultiTree K V
after_removals cmp order m k zero = m
after_removals cmp order m k (suc n) = let t = after_removals cmp order m k n in
    after_pair_removal cmp t (first_pair order (concat t.nodes) k)

-- the events of the removal of the key's first pair
abbrev pub first_events : {K V Q : Type 0} → (K → K → Ordering) → (K → Q → Ordering)
    → MultiTree K V → Q → List (ChangeEventUnassigned (MultiPair K V))
first_events cmp order m k =
    pair_removal_events cmp m.size m.nodes (first_pair order (concat m.nodes) k)

-- the events of those n removals, in order
abbrev pub removals_events : {K V Q : Type 0} → (K → K → Ordering) → (K → Q → Ordering)
    → MultiTree K V → Q → ℕ → List (ChangeEventUnassigned (MultiPair K V))
removals_events cmp order m k zero = []
removals_events cmp order m k (suc n) =
    removals_events cmp order m k n ++ first_events cmp order (after_removals cmp order m k n) k

-- the events of the removals of the key's first pairs between the multimaps m and n
abbrev pub key_events : {K V Q : Type 0} → (K → K → Ordering) → (K → Q → Ordering)
    → MultiTree K V → MultiTree K V → Q → List (ChangeEventUnassigned (MultiPair K V))
key_events cmp order m n k =
    removals_events cmp order m k
    (length (pairs_of order (concat m.nodes) k) - length (pairs_of order (concat n.nodes) k))

-- q is p with clones of its key and its value, and with its number
abbrev pub IsMultiPairClone : {K V : Type 0} → (K → K → Type 0) → (V → V → Type 0)
    → MultiPair K V → MultiPair K V → Type 0
IsMultiPairClone C D p q = C p.key q.key × (D p.value q.value × (q.discriminator ≡ p.discriminator))

-- the events are numbered from the next number of m, their replay turns the nodes of m into those
-- of n, and the next number of n follows theirs
pub record EvolvesBy {K V : Type 0} (cmp : K → K → Ordering) (m n : MultiTree K V)
    (events : List (ChangeEvent (MultiPair K V))) : Type 0 where
  pub numbered : IsNumberedFrom m.next events
  pub replayed : replay (by_number cmp) m.nodes events ≡ Some n.nodes
  pub next : n.next ≡ m.next + length events

-- the same for some events
pub record EvolvesTo {K V : Type 0} (cmp : K → K → Ordering) (m n : MultiTree K V) : Type 0 where
  pub events : List (ChangeEvent (MultiPair K V))
  pub numbered : IsNumberedFrom m.next events
  pub replayed : replay (by_number cmp) m.nodes events ≡ Some n.nodes
  pub next : n.next ≡ m.next + length events

module _ {K V : Type 0} (cmp : K → K → Ordering) (eq : V → V → Bool) where
  module _ (m : MultiTree K V) (k : K) (w : V) where
    -- the insertion assigns a new number
    abbrev pub takes_number : Bool
    takes_number = is_none (kept_number cmp eq (concat m.nodes) k w)

    -- the inserted pair, which keeps the number of the pair that it replaces
    abbrev pub inserted_pair : MultiPair K V
    inserted_pair =
        numbered_pair k w (unwrap_or (kept_number cmp eq (concat m.nodes) k w) m.pair_next)

    -- the events of the insertion, which are those of a put
    abbrev pub insertion_events : List (ChangeEventUnassigned (MultiPair K V))
    insertion_events = put_events (by_number cmp) m.size m.nodes inserted_pair

    -- the number of the next new pair after the insertion
    abbrev pub pair_next_after : ℕ
    pair_next_after = if takes_number then m.pair_next + 1 else m.pair_next

    -- the multimap after the insertion
    abbrev pub after_insertion : MultiTree K V
    after_insertion = record {
      nodes = with_put (by_number cmp) m.size m.nodes inserted_pair;
      size = m.size;
      next = m.next + length insertion_events;
      pair_next = pair_next_after;
    }

    -- the insertion needs a new number, and none remains
    abbrev pub lacks_number : Bool
    lacks_number = takes_number && (m.pair_next == MAX)

    -- the error of a failed insertion
    abbrev pub insertion_refusal : Refusal
    insertion_refusal =
        if lacks_number then Numbers else refusal_for m.next (length insertion_events)
