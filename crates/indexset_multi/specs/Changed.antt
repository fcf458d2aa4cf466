-- The change that a call makes to a multimap, and the events that it returns.
use Rattle.std.specs.Prelude.{◌≡◌, ◌+◌, ◌-◌, ◌/◌, ◌++◌, ◌≤◌, [], ◌∷◌, Bool, true}
use Rattle.std.specs.Prelude.{false, length, List, Option, Some, drop, slice_get, take}
use Rattle.std.below.core.specs.declared.int.u64.TheConstants.{MAX}
use Rattle.std.specs.Ordering.{is_eq}
use Rattle.std.specs.declared.cmp.Ordering.{Ordering}
use Rattle.indexset_core.specs.declared.multipair.MultiPair.{MultiPair}
use Rattle.indexset_core.specs.declared.refusal.Refusal.{Refusal}
use Rattle.indexset_core.specs.MultiPairs.{by_number, numbered_pair}
use Rattle.indexset_core.specs.Nodes.{concat}
use Rattle.indexset_core.specs.Order.{put}
use Rattle.indexset_log.specs.Changed.{Change, AreEventsOf}
use Rattle.indexset_events.specs.Clones.{AreTableEvents}
use Rattle.indexset_core.specs.Clones.{AreIdentical}
use Rattle.indexset_events.specs.Merging.{IsDense}
use Rattle.indexset_events.specs.Replay.{IsNumberedFrom, numbered_from, replay}
use Rattle.indexset_log.specs.Tree.{Tree, refusal_for}
use Rattle.indexset_events.specs.declared.change.ChangeEvent.{ChangeEvent}
use Rattle.indexset_events.specs.declared.change.ChangeEventUnassigned.{ChangeEventUnassigned}
use Rattle.indexset_multi.specs.Keys.{equal_pair, first_pair, pairs_of}
use Rattle.indexset_multi.specs.Keys.{without_pairs_of, without_named}
use Rattle.indexset_multi.specs.Tree.{EvolvesBy, EvolvesTo, IsMultiPairClone, MultiTree}
use Rattle.indexset_multi.specs.Tree.{after_insertion, after_pair_removal, after_removals}
use Rattle.indexset_multi.specs.Tree.{inserted_pair, insertion_events, insertion_refusal}
use Rattle.indexset_multi.specs.Tree.{key_events, pair_removal_events, takes_number}

-- a change of a multimap: the new multimap, its pairs, and the events of the change
pub record MultiChange (K V : Type 0) : Type 0 where
  pub tree : MultiTree K V
  pub items : List (MultiPair K V)
  pub events : List (ChangeEventUnassigned (MultiPair K V))

-- the change of an insertion
abbrev pub insertion : {K V : Type 0} → (K → K → Ordering) → (V → V → Bool) → MultiTree K V → K
    → V → MultiChange K V
insertion cmp eq m k w = record {
  tree = after_insertion cmp eq m k w;
  items = put (by_number cmp) (concat m.nodes) (inserted_pair cmp eq m k w);
  events = insertion_events cmp eq m k w;
}

module _ {K V : Type 0} (cmp : K → K → Ordering) (m : MultiTree K V) (k : K) (w : V) where
  -- an insertion for which no two values are equal, so its pair is new
  abbrev pub addition : MultiChange K V
  addition = insertion cmp (λ _ _. false) m k w

  -- the error of a failed call that would make that insertion
  abbrev pub addition_refusal : Refusal
  addition_refusal = insertion_refusal cmp (λ _ _. false) m k w

module _ {K V : Type 0} (cmp : K → K → Ordering) where
  -- the removal of an optional pair
  abbrev pub named_removal : MultiTree K V → Option (MultiPair K V) → MultiChange K V
  named_removal m pair = record {
    tree = after_pair_removal cmp m pair;
    items = without_named cmp (concat m.nodes) pair;
    events = pair_removal_events cmp m.size m.nodes pair;
  }

  -- the removal of the key's first pair, if any
  abbrev pub some_removal : {Q : Type 0} → (K → Q → Ordering) → MultiTree K V → Q → MultiChange K V
  some_removal order m k = named_removal m (first_pair order (concat m.nodes) k)

  -- the removal of the key's first pair with an equal value, if any
  abbrev pub equal_removal : {Q : Type 0} → (K → Q → Ordering) → (V → V → Bool) → MultiTree K V
      → Q → V → MultiChange K V
  equal_removal order eq m k w = named_removal m (equal_pair order eq (concat m.nodes) k w)

  -- the removal of the first pair of the multimap, if any
  abbrev pub first_pair_removal : MultiTree K V → MultiChange K V
  first_pair_removal m =
      let pair = slice_get (concat m.nodes) 0 in
      record {
        tree = after_pair_removal cmp m pair;
        items = drop 1 (concat m.nodes);
        events = pair_removal_events cmp m.size m.nodes pair;
      }

  -- the removal of the last pair of the multimap, if any
  abbrev pub last_pair_removal : MultiTree K V → MultiChange K V
  last_pair_removal m =
      let last = length (concat m.nodes) - 1 in
      let pair = slice_get (concat m.nodes) last in
      record {
        tree = after_pair_removal cmp m pair;
        items = take last (concat m.nodes);
        events = pair_removal_events cmp m.size m.nodes pair;
      }

-- the numbers of the change's events fit the counter
abbrev pub MultiFits : {K V : Type 0} → MultiTree K V → MultiChange K V → Type 0
MultiFits m made = m.next + length made.events ≤ MAX

-- the error of a failed call that would make the change
abbrev pub multi_refusal_of : {K V : Type 0} → MultiTree K V → MultiChange K V → Refusal
multi_refusal_of m made = refusal_for m.next (length made.events)

-- the new multimap is the old one after the change
pub record MultiChanged {K V : Type 0} (cmp : K → K → Ordering) (old new : MultiTree K V)
    (made : MultiChange K V) : Type 0 where
  pub tree : new ≡ made.tree
  pub contents : concat new.nodes ≡ made.items
  pub nodes : new.nodes ≡ made.tree.nodes
  pub size : new.size ≡ old.size
  pub next : new.next ≡ old.next + length made.events
  pub pair_next : new.pair_next ≡ made.tree.pair_next
  pub fits : old.next + length made.events ≤ MAX
  pub table : replay (by_number cmp) old.nodes (numbered_from old.next made.events) ≡ Some new.nodes
  pub at_most_three_events : length made.events ≤ 3
  pub dense : IsDense (old.size / 2) old.nodes → IsDense (new.size / 2) new.nodes

-- the tree of the multimap's set
abbrev pub set_tree : {K V : Type 0} → MultiTree K V → Tree (MultiPair K V)
set_tree m = record { nodes = m.nodes; size = m.size; next = m.next }

-- the change of that tree
abbrev pub set_change : {K V : Type 0} → MultiChange K V → Change (MultiPair K V)
set_change made = record { tree = set_tree made.tree; items = made.items; events = made.events }

-- the events that a multimap returns
abbrev pub MultiPairEvents : {K V : Type 0} → (K → K → Ordering) → (K → K → Type 0)
    → (V → V → Type 0) → MultiTree K V → MultiTree K V → MultiChange K V
    → List (ChangeEvent (MultiPair K V)) → Type 0
MultiPairEvents cmp C D old new made events =
    AreEventsOf (AreIdentical C × AreIdentical D) (by_number cmp) (IsMultiPairClone C D)
    (set_tree old) (set_tree new) (set_change made) events

module _ {K V : Type 0} (cmp : K → K → Ordering) where
  -- each key that `order` does not find Equal to k has the same pairs in the new multimap as in the
  -- old one
  abbrev pub KeepsOtherPairs : {Q : Type 0} → (K → Q → Ordering) → MultiTree K V → MultiTree K V
      → Q → Type 0
  KeepsOtherPairs order old new k =
      (other : K) → is_eq (order other k) ≡ false
      → pairs_of cmp (concat new.nodes) other ≡ pairs_of cmp (concat old.nodes) other

  -- the key has the inserted pair, as its last pair if its number is new; the other keys keep their
  -- pairs
  pub record IsInserted (eq : V → V → Bool) (old new : MultiTree K V) (k : K) (w : V) : Type 0 where
    pub contains : equal_pair cmp eq (concat new.nodes) k w ≡ Some (inserted_pair cmp eq old k w)
    pub last : takes_number cmp eq old k w ≡ true
        → pairs_of cmp (concat new.nodes) k
        ≡ pairs_of cmp (concat old.nodes) k ++ inserted_pair cmp eq old k w ∷ []
    pub others : KeepsOtherPairs cmp old new k

  -- the key has the new pair as its last pair; the other keys keep their pairs
  pub record IsAdded (old new : MultiTree K V) (k : K) (w : V) : Type 0 where
    pub last : pairs_of cmp (concat new.nodes) k
        ≡ pairs_of cmp (concat old.nodes) k ++ numbered_pair k w old.pair_next ∷ []
    pub others : KeepsOtherPairs cmp old new k

  -- some first pairs of the key were removed, one after another
  pub record AreRemoved {Q : Type 0} (order : K → Q → Ordering) (old new : MultiTree K V)
      (k : Q) : Type 0 where
    pub tree : new
        ≡ after_removals cmp order old k
        (length (pairs_of order (concat old.nodes) k)
        - length (pairs_of order (concat new.nodes) k))
    pub left : pairs_of order (concat new.nodes) k
        ≡ drop
        (length (pairs_of order (concat old.nodes) k)
        - length (pairs_of order (concat new.nodes) k))
        (pairs_of order (concat old.nodes) k)
    pub rest : without_pairs_of order (concat new.nodes) k
        ≡ without_pairs_of order (concat old.nodes) k
    pub others : KeepsOtherPairs order old new k
    pub led : EvolvesTo cmp old new
    pub table : replay (by_number cmp) old.nodes
        (numbered_from old.next (key_events cmp order old new k))
        ≡ Some new.nodes
    pub size : new.size ≡ old.size
    pub dense : IsDense (old.size / 2) old.nodes → IsDense (new.size / 2) new.nodes
    pub pair_next : new.pair_next ≡ old.pair_next

  -- the events that these removals return
  pub record RemovalEvents {Q : Type 0} (order : K → Q → Ordering) (C : K → K → Type 0)
      (D : V → V → Type 0) (old new : MultiTree K V) (k : Q)
      (events : List (ChangeEvent (MultiPair K V))) : Type 0 where
    pub clones : AreTableEvents (IsMultiPairClone C D) old.next (key_events cmp order old new k)
        events
    pub numbered : IsNumberedFrom old.next events
    pub replay : AreIdentical C × AreIdentical D → EvolvesBy cmp old new events
