-- The change that a call makes to a tree, and the events that it returns.
use Rattle.std.specs.Prelude.{◌≡◌, ℕ, ◌+◌, ◌-◌, ◌/◌, ◌≤◌, length, List, Some, drop, take}
use Rattle.std.below.core.specs.declared.int.u64.TheConstants.{MAX}
use Rattle.std.specs.declared.cmp.Ordering.{Ordering}
use Rattle.indexset_core.specs.declared.pair.Pair.{Pair}
use Rattle.indexset_core.specs.declared.refusal.Refusal.{Refusal}
use Rattle.indexset_core.specs.Nodes.{concat}
use Rattle.indexset_core.specs.Order.{keep, put, without}
use Rattle.indexset_core.specs.Pairs.{by_key, without_key}
use Rattle.indexset_events.specs.Clones.{AreTableEvents}
use Rattle.indexset_core.specs.Clones.{AreIdentical}
use Rattle.indexset_events.specs.Edits.{with_removed}
use Rattle.indexset_log.specs.Edits.{after_checked_put, after_put}
use Rattle.indexset_log.specs.Edits.{after_removal, after_removal_at, after_place_removal}
use Rattle.indexset_events.specs.Ends.{removal_events_at}
use Rattle.indexset_events.specs.Merging.{IsDense}
use Rattle.indexset_events.specs.Keys.{IsPairClone, key_removal_events}
use Rattle.indexset_log.specs.Keys.{after_key_removal}
use Rattle.indexset_events.specs.Replay.{IsNumberedFrom, numbered_from, replay}
use Rattle.indexset_events.specs.Table.{checked_put_events, put_events}
use Rattle.indexset_events.specs.Table.{removal_events, place_removal_events}
use Rattle.indexset_log.specs.Tree.{Tree, refusal_for}
use Rattle.indexset_events.specs.declared.change.ChangeEvent.{ChangeEvent}
use Rattle.indexset_events.specs.declared.change.ChangeEventUnassigned.{ChangeEventUnassigned}

-- a change of a tree: the new tree, its items, and the events of the change
pub record Change (T : Type 0) : Type 0 where
  pub tree : Tree T
  pub items : List T
  pub events : List (ChangeEventUnassigned T)

module _ {T : Type 0} (cmp : T → T → Ordering) (t : Tree T) where
  -- the change of a put
  abbrev pub put_change : T → Change T
  put_change v = record {
    tree = after_put cmp t v;
    items = put cmp (concat t.nodes) v;
    events = put_events cmp t.size t.nodes v;
  }

  -- the change of a checked put
  abbrev pub checked_put_change : T → Change T
  checked_put_change v = record {
    tree = after_checked_put cmp t v;
    items = keep cmp (concat t.nodes) v;
    events = checked_put_events cmp t.size t.nodes v;
  }

  -- the removal of the first item, if any
  abbrev pub first_removal : Change T
  first_removal = record {
    tree = after_removal_at cmp t 0;
    items = drop 1 (concat t.nodes);
    events = removal_events_at cmp t.size t.nodes 0;
  }

  -- the removal of the last item, if any
  abbrev pub last_removal : Change T
  last_removal =
      let last = length (concat t.nodes) - 1 in
      record {
        tree = after_removal_at cmp t last;
        items = take last (concat t.nodes);
        events = removal_events_at cmp t.size t.nodes last;
      }

-- the removal of the item x at offset i of the node at index k
abbrev pub place_removal : {T : Type 0} → Tree T → ℕ → ℕ → T → Change T
place_removal t k i x = record {
  tree = after_place_removal t k i;
  items = concat (with_removed t.size t.nodes k i);
  events = place_removal_events t.size t.nodes k i x;
}

-- the removal of the item that equals v, if any
abbrev pub removal_change : {T Q : Type 0} → (T → Q → Ordering) → Tree T → Q → Change T
removal_change cmp t v = record {
  tree = after_removal cmp t v;
  items = without cmp (concat t.nodes) v;
  events = removal_events cmp t.size t.nodes v;
}

-- the removal of the pair of the key k, if any
abbrev pub key_removal : {K V Q : Type 0} → (K → Q → Ordering) → Tree (Pair K V) → Q
    → Change (Pair K V)
key_removal cmp t k = record {
  tree = after_key_removal cmp t k;
  items = without_key cmp (concat t.nodes) k;
  events = key_removal_events cmp t.size t.nodes k;
}

-- the numbers of the change's events fit the counter
abbrev pub Fits : {T : Type 0} → Tree T → Change T → Type 0
Fits t made = t.next + length made.events ≤ MAX

-- the error of a failed call that would make the change
abbrev pub refusal_of : {T : Type 0} → Tree T → Change T → Refusal
refusal_of t made = refusal_for t.next (length made.events)

-- the new tree is the old one after the change
pub record Changed {T : Type 0} (cmp : T → T → Ordering) (old new : Tree T)
    (made : Change T) : Type 0 where
  pub tree : new ≡ made.tree
  pub contents : concat new.nodes ≡ made.items
  pub nodes : new.nodes ≡ made.tree.nodes
  pub size : new.size ≡ old.size
  pub next : new.next ≡ old.next + length made.events
  pub fits : old.next + length made.events ≤ MAX
  pub table : replay cmp old.nodes (numbered_from old.next made.events) ≡ Some new.nodes
  pub at_most_three_events : length made.events ≤ 3
  pub dense : IsDense (old.size / 2) old.nodes → IsDense (new.size / 2) new.nodes

-- the events of the change are returned, with clones in the place of their items; under H the
-- clones are identical to them
pub record AreEventsOf {T : Type 0} (H : Type 0) (cmp : T → T → Ordering) (C : T → T → Type 0)
    (old new : Tree T) (made : Change T) (events : List (ChangeEvent T)) : Type 0 where
  pub clones : AreTableEvents C old.next made.events events
  pub identical : H → events ≡ numbered_from old.next made.events
  pub numbered : IsNumberedFrom old.next events
  pub replay : H → replay cmp old.nodes events ≡ Some new.nodes
  pub at_most_three_events : length events ≤ 3

-- the events that a set returns
abbrev pub ItemEvents : {T : Type 0} → (T → T → Ordering) → (T → T → Type 0) → Tree T → Tree T
    → Change T → List (ChangeEvent T) → Type 0
ItemEvents cmp C old new made events = AreEventsOf (AreIdentical C) cmp C old new made events

-- the events that a map returns
abbrev pub PairEvents : {K V : Type 0} → (K → K → Ordering) → (K → K → Type 0)
    → (V → V → Type 0) → Tree (Pair K V) → Tree (Pair K V) → Change (Pair K V)
    → List (ChangeEvent (Pair K V)) → Type 0
PairEvents cmp C D old new made events =
    AreEventsOf (AreIdentical C × AreIdentical D) (by_key cmp) (IsPairClone C D) old new made events
