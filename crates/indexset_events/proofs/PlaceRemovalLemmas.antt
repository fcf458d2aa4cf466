-- The item that a removal by place removes from lawful nodes.
use Rattle.std.proofs.Common.{◌≡◌, ℕ, ◌+◌, ◌<◌, List, length, Ok, Err, Ordering, Some, slice_get, refl, ap, sym, ◌∙◌, subst, arith}
use Rattle.std.specs.Cmp.{IsTotalOrder}
use Rattle.std.proofs.lemmas.Bool.{false≢true}
use Rattle.std.proofs.lemmas.Cmp.{tied_itself}
use Rattle.std.proofs.lemmas.Option.{slice_get_within}
use Rattle.indexset_core.specs.Nodes.{concat, node_at, IsLawful}
use Rattle.indexset_core.specs.Order.{without}
use Rattle.indexset_core.specs.Parted.{less_count}
use Rattle.indexset_events.specs.Edits.{with_removed}
use Rattle.indexset_events.specs.Located.{IsFoundIn}
use Rattle.indexset_events.specs.Replay.{replay, numbered_from}
use Rattle.indexset_events.specs.Table.{place_removal_events, removal_events}
use Rattle.indexset_events.proofs.SearchLemmas.{found_at}
use Rattle.indexset_events.proofs.RemovalLemmas.{found_contents, found_events, taken_replay}
use Rattle.indexset_events.proofs.NodeViewLemmas.{lawful_ascends, lawful_filled, lawful_parted}
use Rattle.indexset_core.proofs.CallerLemmas.{equal_read, get_in_node, places_order, rank-slice_get, end_at, end_gap, end_node, end_offset}
use Rattle.indexset_core.specs.Places.{items_before, located}

-- two items with equally many items before them are the same
module _ {T : Type 0} (ns : List (List T)) (p q : ℕ × ℕ) (p_node : p.0 < length ns)
    (p_in : p.1 < length (node_at ns p.0)) (q_node : q.0 < length ns) (q_in : q.1 < length (node_at ns q.0))
    (same : items_before ns p ≡ items_before ns q) where
  same_node : q.0 ≡ p.0
  same_node = omega (arith, places_order ns p.0 p.1 q.0 (q.1 + 1) q_node (omega arith) (omega arith), places_order ns q.0 q.1 p.0 (p.1 + 1) p_node (omega arith) (omega arith))

  same_offset : q.1 ≡ p.1
  same_offset = omega (arith, ap (λ k. items_before ns (k, 0)) same_node)

module _ {T : Type 0} (cmp : T → T → Ordering) (o : IsTotalOrder cmp) (size : ℕ) (ns : List (List T))
    (law : IsLawful cmp size ns) (p : ℕ × ℕ) (node_in : p.0 < length ns) (x : T)
    (here : slice_get (node_at ns p.0) p.1 ≡ Some x) where
  abbrev answer : T → Ordering
  answer y = cmp y x

  offset_in : p.1 < length (node_at ns p.0)
  offset_in = slice_get_within (node_at ns p.0) p.1 x here

  in_all : slice_get (concat ns) (items_before ns p) ≡ Some x
  in_all = get_in_node ns p.0 p.1 node_in offset_in ∙ here

  before_it : less_count answer (concat ns) ≡ items_before ns p
  before_it = rank-slice_get cmp o (concat ns) (lawful_ascends cmp size ns law) (items_before ns p) x in_all

  -- a search for the item ends at its place
  pub found_there : IsFoundIn cmp ns x p.0 p.1
  found_there =
      let filled = lawful_filled cmp size ns law in
      let parted = lawful_parted cmp size ns law o x in
      elim (located answer ns) as (λ r. r ≡ located answer ns → IsFoundIn cmp ns x p.0 p.1) [
        | Ok q ↦ λ e.
            let found = found_at cmp o x size ns law (Ok q) e q refl in
            let at = end_at answer ns filled parted (Ok q) e q refl in
            let q_node = end_node answer ns filled parted (Ok q) e q refl in
            let q_in = end_offset answer ns filled parted (Ok q) e q refl in
            let same : items_before ns p ≡ items_before ns q = sym before_it ∙ sym at.before in
            subst (λ i. IsFoundIn cmp ns x p.0 i) (same_offset ns p q node_in offset_in q_node q_in same)
            (subst (λ k. IsFoundIn cmp ns x k q.1) (same_node ns p q node_in offset_in q_node q_in same) found)
        | Err q ↦ λ e.
            let at = end_gap answer ns filled parted (Err q) e q refl in
            absurd (false≢true (sym at.equal ∙ (equal_read answer (concat ns) _ x (rw before_it in_all) ∙ rw (tied_itself o x) refl)))
      ] refl

  pub place_events : removal_events cmp size ns x ≡ place_removal_events size ns p.0 p.1 x
  place_events = found_events o law found_there here

  pub place_contents : (s : ℕ) (after : List (List T)) → replay cmp ns (numbered_from s (place_removal_events size ns p.0 p.1 x)) ≡ Some after → concat after ≡ without cmp (concat ns) x
  place_contents s after h =
      let replayed = taken_replay o law p.0 p.1 node_in here s in
      let same : with_removed size ns p.0 p.1 ≡ after = cc in
      ap concat (sym same) ∙ found_contents o law found_there here
