-- The item at a position of lawful nodes: the events of its removal, and that no item is below the
-- first or above the last.
use Rattle.std.proofs.Common.{◌≡◌, ℕ, zero, suc, ◌+◌, ◌-◌, ◌<◌, ◌≤◌, Bool, true, false, List, [], ◌∷◌}
use Rattle.std.proofs.Common.{length, length-append, filter, take, drop, remove, slice_get, Option, Some}
use Rattle.std.proofs.Common.{None, IfSome, MatchOption, Ordering, refl, ap, sym, subst, ◌∙◌, arith}
use Rattle.std.below.core.specs.declared.int.u64.TheConstants.{MAX}
use Rattle.std.specs.Borrow.{Bor}
use Rattle.std.specs.Cmp.{IsTotalOrder}
use Rattle.std.specs.Map.Iter.{TakesFirst, TakesLast, deref}
use Rattle.std.specs.Option.{option_map_or}
use Rattle.std.specs.Ordering.{is_lt}
use Rattle.std.proofs.lemmas.Cmp.{tied_itself}
use Rattle.std.proofs.lemmas.List.{length-set, nil_from_length, take_all}
use Rattle.std.proofs.lemmas.List.Sums.{length-filter}
use Rattle.std.proofs.lemmas.Option.{slice_get_within}
use Rattle.indexset_core.specs.declared.pair.Pair.{Pair}
use Rattle.indexset_core.specs.Nodes.{concat, node_at, IsLawful}
use Rattle.indexset_core.specs.Order.{IsAscending, IsFoundAt, above, below, put, without}
use Rattle.indexset_core.specs.Pairs.{pair_keys}
use Rattle.indexset_core.proofs.CallerLemmas.{equal_read, found_put, found_without, get_in_node, length-concat-more, located_found, parted_by_item, rank-slice_get, slice_get-right}
use Rattle.indexset_log.specs.Changed.{Changed, Fits, first_removal, last_removal}
use Rattle.indexset_log.specs.Edits.{after_removal}
use Rattle.indexset_events.specs.Ends.{IsItemAt, removal_events_at}
use Rattle.indexset_log.specs.Edits.{after_removal_at}
use Rattle.indexset_events.specs.Table.{removal_events}
use Rattle.indexset_log.specs.Tree.{IsTree, Tree}
use Rattle.indexset_log.proofs.ChangeLemmas.{Goes, found_after, removal_changed, unchanged}
use Rattle.indexset_events.proofs.CallerLemmas.{found_there, lawful_ascends, place_events, some_read}

module _ {T : Type 0} (cmp : T → T → Ordering) (o : IsTotalOrder cmp) (l : List T) (up : IsAscending cmp l) where
  module _ (i : ℕ) (x : T) (is : slice_get l i ≡ Some x) where
    stands : IsFoundAt cmp l x i
    stands = located_found cmp l x i (parted_by_item cmp o l up x) (sym (rank-slice_get cmp o l up i x is)) (equal_read (λ y. cmp y x) l i x is ∙ rw (tied_itself o x) refl)

    how_low : length (below cmp l x) ≡ i
    how_low = length-filter (λ y. is_lt (cmp y x)) l ∙ rank-slice_get cmp o l up i x is

    none_above : i ≡ length l - 1 → above cmp l x ≡ []
    unfolding put
    none_above last =
        let low = how_low in
        let whole = ap (λ q. length q) (found_put cmp l x i o up stands) in
        let long = length-append (below cmp l x) (x ∷ above cmp l x) in
        nil_from_length (above cmp l x) (omega (arith, low, whole, long, length-set l i x, slice_get_within l i x is))

    pub without_there : without cmp l x ≡ remove l i
    without_there = found_without cmp l x i o up stands

  pub first_least : (r : Option (Bor T)) (rest : List T) → TakesFirst deref l r rest → IfSome r (λ x. below cmp l x.now ≡ [])
  first_least None rest is = tt
  first_least (Some x) rest is = nil_from_length (below cmp l x.now) (how_low 0 x.now (rw is refl))

  pub last_greatest : (r : Option (Bor T)) (rest : List T) → TakesLast deref l r rest → IfSome r (λ x. above cmp l x.now ≡ [])
  last_greatest None rest is = tt
  last_greatest (Some x) rest is =
      none_above (length rest + 0) x.now (rw is (slice_get-right rest (x.now ∷ []) (length rest + 0) 0 refl))
      (omega (arith, ap (λ q. length q) is, length-append rest (x.now ∷ [])))

-- the removal of the item at the place
module _ {T : Type 0} {cmp : T → T → Ordering} {size : ℕ} {ns : List (List T)} (o : IsTotalOrder cmp) (law : IsLawful cmp size ns) {p : ℕ × ℕ} {i : ℕ} (at : IsItemAt ns p i) where
  module _ {x : T} (here : slice_get (node_at ns p.0) p.1 ≡ Some x) where
    pub item_there : slice_get (concat ns) i ≡ Some x
    item_there = rw (← at.before) (get_in_node ns p.0 p.1 at.node_in at.offset_in ∙ here)

pub position_goes : {T : Type 0} {cmp : T → T → Ordering} {old : Tree T} → IsTotalOrder cmp
    → IsLawful cmp old.size old.nodes → (i : ℕ) (place : Option (ℕ × ℕ))
    → MatchOption place (concat old.nodes ≡ []) (λ p. IsItemAt old.nodes p i)
    → Goes old place (slice_get (concat old.nodes) i) (removal_events_at cmp old.size old.nodes i)
    (after_removal_at cmp old i)
unfolding after_removal_at removal_events_at
position_goes o law i None none = rw none (record { inside = tt; item = refl; events = refl; after = refl })
position_goes {cmp = cmp} {old = old} o law i (Some p) at =
    let x = some_read (node_at old.nodes p.0) p.1 at.offset_in in
    let there = item_there o law at x.1 in
    record {
      inside = (at.node_in, at.offset_in);
      item = x.1 ∙ sym there;
      events = rw (x.1, there) (sym (place_events cmp o old.size old.nodes law p at.node_in x.0 x.1));
      after = rw there (sym (found_after old o law (found_there cmp o old.size old.nodes law p at.node_in x.0 x.1)));
    }

remove_beyond : {X : Type 0} (l : List X) (i : ℕ) → slice_get l i ≡ None → l ≡ remove l i
remove_beyond [] zero none = refl
remove_beyond [] (suc i) none = refl
remove_beyond (x ∷ l) zero none = cc
remove_beyond (x ∷ l) (suc i) none = ap (λ q. x ∷ q) (remove_beyond l i none)

-- a list without its first or its last item
pub remove_first : {X : Type 0} (l : List X) → remove l 0 ≡ drop 1 l
remove_first [] = refl
remove_first (x ∷ l) = refl

pub remove_last : {X : Type 0} (l : List X) (i : ℕ) → i ≡ length l - 1 → remove l i ≡ take i l
remove_last [] zero last = refl
remove_last [] (suc i) last = refl
remove_last (x ∷ []) zero last = refl
remove_last (x ∷ y ∷ l) zero last = absurd (omega (arith, last))
remove_last (x ∷ l) (suc i) last = ap (λ q. x ∷ q) (remove_last l i (omega (arith, last)))

-- the item at position i was removed, and l are the other items
abbrev Popped : {T : Type 0} → (T → T → Ordering) → Tree T → Tree T → ℕ → List T → Type 0
Popped cmp old new i l = Changed cmp old new (record { tree = after_removal_at cmp old i; items = l; events = removal_events_at cmp old.size old.nodes i })

module _ {T : Type 0} {cmp : T → T → Ordering} {most len : ℕ} {old new : Tree T} (o : IsTotalOrder cmp) (t : IsTree cmp most old.nodes old.size len) where
  popped : (i : ℕ) → new ≡ after_removal_at cmp old i → old.next + length (removal_events_at cmp old.size old.nodes i) ≤ MAX → Popped cmp old new i (remove (concat old.nodes) i)
  unfolding after_removal_at removal_events_at
  popped i e fits = at (slice_get (concat old.nodes) i) refl e fits
    where
      at : (r : Option T) → slice_get (concat old.nodes) i ≡ r → new ≡ option_map_or (after_removal cmp old) r old
          → old.next + length (option_map_or (λ x. removal_events cmp old.size old.nodes x) r []) ≤ MAX
          → Changed cmp old new
          (record {
            tree = option_map_or (after_removal cmp old) r old;
            items = remove (concat old.nodes) i;
            events = option_map_or (λ x. removal_events cmp old.size old.nodes x) r [];
          })
      at None is e fits = rw (← remove_beyond (concat old.nodes) i is) (unchanged cmp old new e (omega (arith, fits)) refl)
      at (Some x) is e fits = rw (← without_there cmp o (concat old.nodes) (lawful_ascends cmp old.size old.nodes t.lawful) i x is) (removal_changed o t x e fits)

  pub first_changed : new ≡ after_removal_at cmp old 0 → Fits old (first_removal cmp old) → Changed cmp old new (first_removal cmp old)
  first_changed e fits = subst (Popped cmp old new 0) (remove_first (concat old.nodes)) (popped 0 e fits)

  pub last_changed : new ≡ after_removal_at cmp old (length (concat old.nodes) - 1) → Fits old (last_removal cmp old) → Changed cmp old new (last_removal cmp old)
  last_changed e fits =
      let last = length (concat old.nodes) - 1 in
      subst (Popped cmp old new last) (remove_last (concat old.nodes) last refl) (popped last e fits)

-- the last item is at the end of the last node
pub last_there : {T : Type 0} (ns : List (List T)) (k o : ℕ) → k + 1 ≡ length ns → o + 1 ≡ length (node_at ns k) → IsItemAt ns (k, o) (length (concat ns) - 1)
last_there ns k o last end =
    let inside : k < length ns = omega (arith, last) in
    let whole : take (k + 1) ns ≡ ns = take_all (k + 1) ns (omega (arith, last)) in
    record { node_in = inside; offset_in = omega (arith, end); before = omega (arith, end, length-concat-more ns k inside, ap (λ l. length (concat l)) whole) }

-- no key passes a test if no pair's key does
pub no_key_passes : {K V : Type 0} (p : K → Bool) (l : List (Pair K V)) → filter (λ q. p q.key) l ≡ [] → filter p (pair_keys l) ≡ []
no_key_passes p [] none = refl
no_key_passes p (q ∷ l) none =
    elim (p q.key) as (λ b. p q.key ≡ b → filter p (pair_keys (q ∷ l)) ≡ []) [
      | true ↦ λ e. let some : q ∷ filter (λ r. p r.key) l ≡ [] = rw e at none in cc
      | false ↦ λ e. rw e (no_key_passes p l (rw e at none))
    ] refl
