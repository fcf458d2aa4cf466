-- The facts of a removal of a pair, from one equation.
use Rattle.std.proofs.Common.{◌≡◌, ℕ, ◌+◌, zero, suc, ◌<◌, ◌≤◌, List, [], ◌∷◌, length, Option, None, Some, is_some, true, Result, OnOk, Ordering, slice_get, refl, ap, sym, ◌∙◌, subst, arith}
use Rattle.std.specs.Cmp.{IsTotalOrder}
use Rattle.std.specs.Option.{unwrap_or}
use Rattle.indexset_core.specs.declared.multipair.MultiPair.{MultiPair}
use Rattle.indexset_core.specs.MultiPairs.{by_number}
use Rattle.indexset_core.specs.Nodes.{concat, node_at, IsLawful}
use Rattle.indexset_events.specs.declared.change.ChangeEvent.{ChangeEvent}
use Rattle.indexset_events.specs.declared.change.ChangeEventUnassigned.{ChangeEventUnassigned}
use Rattle.indexset_log.specs.Changed.{Changed}
use Rattle.indexset_events.specs.Clones.{AreTableEvents}
use Rattle.indexset_log.specs.Edits.{after_place_removal, after_removal}
use Rattle.indexset_events.specs.Replay.{replay, numbered_from}
use Rattle.indexset_events.specs.Table.{place_removal_count, place_removal_events}
use Rattle.indexset_log.specs.Tree.{IsTree, Tree}
use Rattle.indexset_events.proofs.CallerLemmas.{Leads, nothing_leads, place_events, removal_few, removal_leads, taking_length}
use Rattle.indexset_log.proofs.CallerLemmas.{Altered, altered_nowhere, on_ok_both, removal_altered, told_where}
use Rattle.indexset_multi.specs.Changed.{MultiFits, MultiChange, MultiChanged, MultiPairEvents, named_removal, set_change, set_tree}
use Rattle.indexset_multi.specs.Keys.{AreNumberedBelow, without_named}
use Rattle.indexset_log.specs.PlaceRemoval.{IsItemPlaceInNodes, placed_item}
use Rattle.indexset_multi.specs.Tree.{IsMultiPairClone, MultiTree, after_pair_removal, pair_removal_events}
use Rattle.indexset_multi.proofs.PairNumberLemmas.{below_without}
use Rattle.indexset_multi.proofs.KeyListLemmas.{any_each}
use Rattle.indexset_multi.proofs.NumberedPairLemmas.{numbers_total}

pub pair_removal_few : {K V : Type 0} (cmp : K → K → Ordering) (size : ℕ) (ns : List (List (MultiPair K V))) (pair : Option (MultiPair K V)) → length (pair_removal_events cmp size ns pair) ≤ 3
pair_removal_few cmp size ns None = omega arith
pair_removal_few cmp size ns (Some p) = removal_few (by_number cmp) size ns p

-- the multimap whose set has the nodes after the replay of the events
pub removal_tree : {K V : Type 0} (cmp : K → K → Ordering) (m : MultiTree K V) (pair : Option (MultiPair K V))
    {nodes : List (List (MultiPair K V))} {size next pair_next : ℕ}
    → replay (by_number cmp) m.nodes (numbered_from m.next (pair_removal_events cmp m.size m.nodes pair)) ≡ Some nodes
    → size ≡ m.size → next ≡ m.next + length (pair_removal_events cmp m.size m.nodes pair) → pair_next ≡ m.pair_next
    → (let t : MultiTree K V = record { nodes = nodes; size = size; next = next; pair_next = pair_next } in t)
    ≡ after_pair_removal cmp m pair
removal_tree cmp m pair replayed size next pair_next = λ i. record { nodes = unwrap_or (sym replayed i) m.nodes; size = size i; next = next i; pair_next = pair_next i }

-- clones of pairs are identical to their sources if clones of keys and of values are
pub pair_same : {K V : Type 0} {C : K → K → Type 0} {D : V → V → Type 0} → ((x y : K) → C x y → y ≡ x)
    → ((x y : V) → D x y → y ≡ x) → (p q : MultiPair K V)
    → C p.key q.key × (D p.value q.value × (q.discriminator ≡ p.discriminator)) → q ≡ p
pair_same hk hv p q e = λ i. record { key = hk p.key q.key e.0 i; value = hv p.value q.value e.1.0 i; discriminator = e.1.1 i }

some_read : {T : Type 0} (l : List T) (i : ℕ) → i < length l → (x : T) × (slice_get l i ≡ Some x)
some_read [] i lt = absurd (omega arith)
some_read (x ∷ xs) zero lt = (x, refl)
some_read (x ∷ xs) (suc i) lt = some_read xs i (omega arith)

-- the place of an item has an item
pub item_there : {T : Type 0} (ns : List (List T)) (place : Option (ℕ × ℕ)) (p : ℕ × ℕ) → place ≡ Some p → IsItemPlaceInNodes ns place → is_some (placed_item ns place) ≡ true
item_there ns place p is at =
    let inside = rw is at at in
    let there = some_read (node_at ns p.0) p.1 inside.1 in
    rw is (ap is_some there.1)

module _ {K V : Type 0} {cmp : K → K → Ordering} (o : IsTotalOrder cmp) (old : MultiTree K V) {most len : ℕ} (t : IsTree (by_number cmp) most old.nodes old.size len) where
  -- the replay of the events gives lawful nodes
  pair_leads : (pair : Option (MultiPair K V)) → Leads (by_number cmp) (λ p. Unit {0}) old.size old.next old.nodes (pair_removal_events cmp old.size old.nodes pair)
  pair_leads None = nothing_leads (by_number cmp) (numbers_total cmp o) (λ p. Unit {0}) old.size old.next t.two old.nodes t.lawful (any_each (concat old.nodes))
  pair_leads (Some p) = removal_leads (by_number cmp) (numbers_total cmp o) (λ p. Unit {0}) old.size old.next t.two old.nodes t.lawful (any_each (concat old.nodes)) p

  module _ (pair : Option (MultiPair K V)) {new : MultiTree K V} (e : new ≡ after_pair_removal cmp old pair) where
    pub pair_altered : Altered (by_number cmp) (set_tree old) (set_tree new) (without_named cmp (concat old.nodes) pair) (pair_removal_events cmp old.size old.nodes pair)
    pair_altered = at pair e
      where
        at : (pair : Option (MultiPair K V)) → new ≡ after_pair_removal cmp old pair
            → Altered (by_number cmp) (set_tree old) (set_tree new) (without_named cmp (concat old.nodes) pair)
            (pair_removal_events cmp old.size old.nodes pair)
        at None e =
            let nodes : new.nodes ≡ old.nodes = ap (λ t. t.nodes) e in
            let size : new.size ≡ old.size = ap (λ t. t.size) e in
            let next : new.next ≡ old.next = omega (arith, ap (λ t. t.next) e) in
            altered_nowhere (by_number cmp) (set_tree old) (set_tree new) (λ i. record { nodes = nodes i; size = size i; next = next i })
        at (Some p) e =
            let after = after_removal (by_number cmp) (set_tree old) p in
            let d = removal_altered {old = set_tree old} {new = after} (numbers_total cmp o) t p refl in
            let nodes : new.nodes ≡ after.nodes = ap (λ t. t.nodes) e ∙ ap (λ r. unwrap_or r old.nodes) d.table in
            let size : new.size ≡ after.size = ap (λ t. t.size) e ∙ sym d.size in
            let next : new.next ≡ after.next = ap (λ t. t.next) e ∙ sym d.next in
            removal_altered {old = set_tree old} {new = set_tree new} (numbers_total cmp o) t p (λ i. record { nodes = nodes i; size = size i; next = next i })

    pub pair_tree : IsTree (by_number cmp) most new.nodes new.size (length (concat new.nodes))
    pair_tree =
        let leads = pair_leads pair in
        let nodes : new.nodes ≡ leads.after = ap (λ t. t.nodes) e ∙ ap (λ r. unwrap_or r old.nodes) leads.replayed in
        let size : new.size ≡ old.size = ap (λ t. t.size) e in
        record { lawful = rw (nodes, size) leads.lawful; two = rw size t.two; within = rw size t.within; counted = refl }

    pub pair_below : (n : ℕ) → AreNumberedBelow n (concat old.nodes) → AreNumberedBelow n (concat new.nodes)
    pair_below n below = let d = pair_altered in rw d.contents (at pair)
      where
        at : (pair : Option (MultiPair K V)) → AreNumberedBelow n (without_named cmp (concat old.nodes) pair)
        at None = below
        at (Some p) = below_without (by_number cmp) n (concat old.nodes) p below

-- a change of the multimap, from that of its set
module _ {K V : Type 0} {cmp : K → K → Ordering} {old new : MultiTree K V} {made : MultiChange K V} where
  pub multi_changed : new ≡ made.tree → MultiFits old made → Altered (by_number cmp) (set_tree old) (set_tree new) made.items made.events → MultiChanged cmp old new made
  multi_changed e fits a = record {
    tree = e;
    contents = a.contents;
    nodes = ap (λ t. t.nodes) e;
    size = a.size;
    next = a.next;
    pair_next = ap (λ t. t.pair_next) e;
    fits = fits;
    table = a.table;
    at_most_three_events = a.at_most_three_events;
    dense = a.dense;
  }

  set_changed : MultiChanged cmp old new made → Changed (by_number cmp) (set_tree old) (set_tree new) (set_change made)
  set_changed d = record {
    tree = ap set_tree d.tree;
    contents = d.contents;
    nodes = d.nodes;
    size = d.size;
    next = d.next;
    fits = d.fits;
    table = d.table;
    at_most_three_events = d.at_most_three_events;
    dense = d.dense;
  }

  pub multi_told : (C : K → K → Type 0) (D : V → V → Type 0) (fs : List (ChangeEvent (MultiPair K V)))
      → MultiChanged cmp old new made → AreTableEvents (IsMultiPairClone C D) old.next made.events fs
      → MultiPairEvents cmp C D old new made fs
  multi_told C D fs d clones = told_where (IsMultiPairClone C D) (λ h. pair_same h.0 h.1) fs (set_changed d) clones

-- a call removes the pair, or it fails
pub removed : {K V A E : Type 0} {cmp : K → K → Ordering} {most len : ℕ} (old new : MultiTree K V)
    → IsTotalOrder cmp → IsTree (by_number cmp) most old.nodes old.size len
    → (pair : Option (MultiPair K V)) (r : Result A E) → OnOk r (new ≡ after_pair_removal cmp old pair)
    → OnOk r (MultiFits old (named_removal cmp old pair))
    → OnOk r (MultiChanged cmp old new (named_removal cmp old pair))
removed {cmp = cmp} old new o t pair r tree fits = on_ok_both r tree fits (λ e f. multi_changed {made = named_removal cmp old pair} e f (pair_altered o old t pair e))

-- the removal of the pair at a place, as in the set's contract
module _ {K V : Type 0} (cmp : K → K → Ordering) where
  abbrev place_removal : MultiTree K V → Option (ℕ × ℕ) → List (ChangeEventUnassigned (MultiPair K V))
  place_removal m place = pair_removal_events cmp m.size m.nodes (placed_item m.nodes place)

  pub record Taken (size : ℕ) (ns : List (List (MultiPair K V))) (s pair_next : ℕ) (m : MultiTree K V)
      (place : Option (ℕ × ℕ)) (p : ℕ × ℕ) (x : MultiPair K V) (after : Tree (MultiPair K V)) : Type 0 where
    pub told : numbered_from s (place_removal_events size ns p.0 p.1 x) ≡ numbered_from m.next (place_removal m place)
    pub tree : (let t : MultiTree K V = record { nodes = after.nodes; size = after.size; next = after.next; pair_next = pair_next } in t) ≡ after_pair_removal cmp m (placed_item m.nodes place)

  module _ (o : IsTotalOrder cmp) {most len : ℕ} {ns : List (List (MultiPair K V))} {size next pair_next : ℕ}
      {m : MultiTree K V}
      (seen : (let t : MultiTree K V = record { nodes = ns; size = size; next = next; pair_next = pair_next } in t) ≡ m)
      (rule : IsTree (by_number cmp) most m.nodes m.size len) {place : Option (ℕ × ℕ)} {p : ℕ × ℕ} (is : place ≡ Some p)
      (at : IsItemPlaceInNodes m.nodes place) where
    law : IsLawful (by_number cmp) size ns
    law = subst (λ (t : MultiTree K V). IsLawful (by_number cmp) t.size t.nodes) (sym seen) rule.lawful

    inside : (p.0 < length ns) × (p.1 < length (node_at ns p.0))
    inside = rw is at (subst (λ (t : MultiTree K V). IsItemPlaceInNodes t.nodes place) (sym seen) at)

    module _ {x : MultiPair K V} (here : slice_get (node_at ns p.0) p.1 ≡ Some x) where
      item : placed_item ns place ≡ Some x
      item = rw is here

      events : pair_removal_events cmp size ns (placed_item ns place) ≡ place_removal_events size ns p.0 p.1 x
      events = rw item (place_events (by_number cmp) (numbers_total cmp o) size ns law p inside.0 x here)

      count : length (pair_removal_events cmp size ns (placed_item ns place)) ≡ place_removal_count size ns p.0 p.1
      count = ap (λ l. length l) events ∙ taking_length size ns p.0 p.1 x

      pub taken : {after : Tree (MultiPair K V)}
          → after ≡ after_place_removal (record { nodes = ns; size = size; next = next }) p.0 p.1
          → replay (by_number cmp) ns (numbered_from next (place_removal_events size ns p.0 p.1 x)) ≡ Some after.nodes
          → Taken size ns next pair_next m place p x after
      taken {after = after} made h = subst (λ (t : MultiTree K V). Taken size ns next pair_next t place p x after) seen (record {
        told = ap (numbered_from next) (sym events);
        tree =
            removal_tree cmp (record { nodes = ns; size = size; next = next; pair_next = pair_next })
            (placed_item ns place) (rw events h) (ap (λ t. t.size) made)
            (ap (λ t. t.next) made ∙ ap (λ c. next + c) (sym count)) refl;
      })

    pub taken_count : length (place_removal m place) ≡ place_removal_count size ns p.0 p.1
    taken_count =
        let there = some_read (node_at ns p.0) p.1 inside.1 in
        subst (λ (t : MultiTree K V). length (place_removal t place) ≡ place_removal_count size ns p.0 p.1) seen (count there.1)
