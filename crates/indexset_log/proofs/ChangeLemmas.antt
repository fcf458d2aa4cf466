-- The facts of `Changed`, from one equation between trees.
use Rattle.std.proofs.Common.{◌≡◌, ℕ, ◌+◌, ◌/◌, ◌<◌, ◌≤◌, true, false, List, [], length}
use Rattle.std.proofs.Common.{slice_get, Option, Some, None, IfSome, MatchOption, Result, Ok}
use Rattle.std.proofs.Common.{Err, IfOk, OnOk, OnErr, Ordering, refl, ap, sym, ◌∙◌, subst, arith}
use Rattle.std.below.core.specs.declared.int.u64.TheConstants.{MAX}
use Rattle.std.specs.Cmp.{IsTotalOrder}
use Rattle.std.proofs.lemmas.List.Elements.{length_all_zip, same_from_all_zip}
use Rattle.std.proofs.lemmas.Option.{slice_get_within}
use Rattle.indexset_core.specs.declared.pair.Pair.{Pair}
use Rattle.indexset_core.specs.Nodes.{concat, node_at, IsLawful}
use Rattle.indexset_core.specs.Order.{equal_element, has_equal, keep, put, without}
use Rattle.indexset_core.specs.Pairs.{by_key}
use Rattle.indexset_log.specs.Changed.{Change, Changed, Fits, ItemEvents, PairEvents, AreEventsOf, checked_put_change, put_change, removal_change, place_removal}
use Rattle.indexset_events.specs.Clones.{IsEventClone, AreTableEvents}
use Rattle.indexset_core.specs.Clones.{AreIdentical}
use Rattle.indexset_events.specs.Edits.{with_removed}
use Rattle.indexset_log.specs.Edits.{after_put, after_removal, after_removal_by, after_place_removal}
use Rattle.indexset_events.specs.Merging.{IsDense, item_removed, merge_after, with_merged}
use Rattle.indexset_events.specs.Keys.{IsPairClone}
use Rattle.indexset_events.specs.Located.{IsFoundIn}
use Rattle.indexset_events.specs.Replay.{numbered_from, replay}
use Rattle.indexset_events.specs.Table.{put_events, removal_events, place_removal_count, place_removal_events}
use Rattle.indexset_log.specs.PlaceRemoval.{after_optional_removal, optional_removal_events, placed_item}
use Rattle.indexset_log.specs.Tree.{IsTree, Tree}
use Rattle.indexset_events.specs.declared.change.ChangeEvent.{ChangeEvent}
use Rattle.indexset_events.specs.declared.change.ChangeEventUnassigned.{ChangeEventUnassigned}
use Rattle.indexset_log.proofs.CheckedPutLemmas.{absent_change, there_change}
use Rattle.indexset_events.proofs.CallerLemmas.{absent_contents, absent_events, absent_here, ascends, clones_numbered}
use Rattle.indexset_events.proofs.CallerLemmas.{event_same, lawful_ascends, lawful_filled, lawful_ruled}
use Rattle.indexset_events.proofs.CallerLemmas.{length-numbered, pair_same, put_contents, put_replayed, put_spaced}
use Rattle.indexset_events.proofs.CallerLemmas.{some_read, sought_at, sought_contents, sought_events, taken_replay}
use Rattle.indexset_events.proofs.CallerLemmas.{taken_spaced, taking_length, three_at_most, two_at_most, up_node}
use Rattle.indexset_core.proofs.CallerLemmas.{found_has_equal, found_rank, has_put, parted_by_sought, gap_found}
use Rattle.indexset_core.specs.Places.{located}
use Rattle.indexset_core.specs.LookupKey.{OrdersAsItem, EqualsAtMostOne, acts_as_itself, one_as_itself}

-- the facts of a change that hold even if its event numbers do not fit the counter
pub record Altered {T : Type 0} (cmp : T → T → Ordering) (old new : Tree T) (l : List T) (es : List (ChangeEventUnassigned T)) : Type 0 where
  pub contents : concat new.nodes ≡ l
  pub size : new.size ≡ old.size
  pub next : new.next ≡ old.next + length es
  pub table : replay cmp old.nodes (numbered_from old.next es) ≡ Some new.nodes
  pub at_most_three_events : length es ≤ 3
  pub dense : IsDense (old.size / 2) old.nodes → IsDense (new.size / 2) new.nodes

module _ {T : Type 0} {cmp : T → T → Ordering} {old new : Tree T} {made : Change T} where
  pub changed : new ≡ made.tree → Fits old made → Altered cmp old new made.items made.events → Changed cmp old new made
  changed e fits a = record {
    tree = e;
    contents = a.contents;
    nodes = ap (λ t. t.nodes) e;
    size = a.size;
    next = a.next;
    fits = fits;
    table = a.table;
    at_most_three_events = a.at_most_three_events;
    dense = a.dense;
  }

  pub told_where : {H : Type 0} (C : T → T → Type 0) → (H → AreIdentical C) → (fs : List (ChangeEvent T))
      → Changed cmp old new made → AreTableEvents C old.next made.events fs → AreEventsOf H cmp C old new made fs
  told_where {H} C identical fs d clones =
      let same : H → fs ≡ numbered_from old.next made.events = λ h. same_from_all_zip (IsEventClone C) (numbered_from old.next made.events) fs clones (event_same C (identical h)) in
      record {
        clones = clones;
        identical = same;
        numbered = clones_numbered C old.next made.events fs clones;
        replay = λ h. rw (same h) d.table;
        at_most_three_events = omega (arith, length_all_zip (IsEventClone C) (numbered_from old.next made.events) fs clones, length-numbered old.next made.events, d.at_most_three_events);
      }

  pub told : (C : T → T → Type 0) (fs : List (ChangeEvent T)) → Changed cmp old new made → AreTableEvents C old.next made.events fs → ItemEvents cmp C old new made fs
  told C = told_where C (λ h. h)

-- the events that a set of pairs returns are those that a map returns
pub pairs_told : {K V : Type 0} (cmp : K → K → Ordering) (C : K → K → Type 0) (D : V → V → Type 0)
    {old new : Tree (Pair K V)} {made : Change (Pair K V)} {fs : List (ChangeEvent (Pair K V))}
    → ItemEvents (by_key cmp) (IsPairClone C D) old new made fs → PairEvents cmp C D old new made fs
pairs_told cmp C D s = record {
  clones = s.clones;
  identical = λ h. s.identical (pair_same h.0 h.1);
  numbered = s.numbered;
  replay = λ h. s.replay (pair_same h.0 h.1);
  at_most_three_events = s.at_most_three_events;
}

pub if_some_map : {A : Type 0} (r : Option A) {P Q : A → Type 0} → IfSome r P → ((x : A) → P x → Q x) → IfSome r Q
if_some_map (Some x) p f = f x p
if_some_map None p f = tt

pub if_ok_map : {A E : Type 0} (r : Result A E) {P Q : A → Type 0} {D : Type 0} → IfOk r P → OnOk r D → ((x : A) → P x → D → Q x) → IfOk r Q
if_ok_map (Ok x) p d f = f x p d
if_ok_map (Err e) p d f = tt

pub on_ok_both : {A E : Type 0} (r : Result A E) {P Q X : Type 0} → OnOk r P → OnOk r Q → (P → Q → X) → OnOk r X
on_ok_both (Ok x) p q f = f p q
on_ok_both (Err e) p q f = tt

-- a call makes the change, or it fails and changes nothing
pub either_way : {A E : Type 0} (r : Result A E) {P Q X : Type 0} → OnOk r P → (P → X) → OnErr r Q → (Q → X) → X
either_way (Ok x) p f q g = f p
either_way (Err e) p f q g = g q

pub same_spaced : {T : Type 0} {old new : Tree T} → new ≡ old → IsDense (old.size / 2) old.nodes → IsDense (new.size / 2) new.nodes
same_spaced same = subst (λ t. IsDense (t.size / 2) t.nodes) (sym same)

-- a put
module _ {T : Type 0} {cmp : T → T → Ordering} {most len : ℕ} {old new : Tree T} (o : IsTotalOrder cmp) (t : IsTree cmp most old.nodes old.size len) (v : T) where
  pub put_changed : new ≡ after_put cmp old v → Fits old (put_change cmp old v) → Changed cmp old new (put_change cmp old v)
  put_changed e fits = record {
    tree = e;
    contents = ap (λ t. concat t.nodes) e ∙ put_contents o t.two t.lawful v;
    nodes = ap (λ t. t.nodes) e;
    size = ap (λ t. t.size) e;
    next = ap (λ t. t.next) e;
    fits = fits;
    table = put_replayed o t.two t.lawful v old.next ∙ ap (λ t. Some t.nodes) (sym e);
    at_most_three_events = three_at_most cmp old.size v old.nodes;
    dense = λ s. subst (λ t. IsDense (t.size / 2) t.nodes) (sym e) (put_spaced cmp o old.size t.two old.nodes v t.lawful s);
  }

pub put_there : {T : Type 0} {cmp : T → T → Ordering} {m : List T} → IsTotalOrder cmp → (l : List T) (v : T) → m ≡ put cmp l v → has_equal cmp m v ≡ true
put_there {cmp = cmp} o l v e = ap (λ l. has_equal cmp l v) e ∙ has_put cmp l v o

pub keep_there : {T : Type 0} {cmp : T → T → Ordering} {m : List T} → IsTotalOrder cmp → (l : List T) (v : T) → false ≡ has_equal cmp l v → m ≡ keep cmp l v → has_equal cmp m v ≡ true
unfolding keep
keep_there o l v absent e = put_there o l v (rw (← absent) at e)

-- a checked put if no equal item is present, and if one is
module _ {T : Type 0} {cmp : T → T → Ordering} {most len : ℕ} {old new : Tree T} (o : IsTotalOrder cmp) (t : IsTree cmp most old.nodes old.size len) (v : T) where
  pub checked_changed : false ≡ has_equal cmp (concat old.nodes) v → new ≡ after_put cmp old v → Fits old (put_change cmp old v) → Changed cmp old new (checked_put_change cmp old v)
  checked_changed absent e fits = subst (Changed cmp old new) (sym (absent_change cmp old v absent)) (put_changed o t v e fits)

  pub checked_told : (C : T → T → Type 0) (fs : List (ChangeEvent T)) → false ≡ has_equal cmp (concat old.nodes) v
      → Changed cmp old new (checked_put_change cmp old v)
      → AreTableEvents C old.next (put_events cmp old.size old.nodes v) fs
      → ItemEvents cmp C old new (checked_put_change cmp old v) fs
  checked_told C fs absent d clones = told C fs d (subst (λ m. AreTableEvents C old.next m.events fs) (sym (absent_change cmp old v absent)) clones)

-- the removal of the item at a place
module _ {T : Type 0} (old : Tree T) (k i : ℕ) {nodes : List (List T)} {size next : ℕ} where
  -- as the code removes it, with a merge and without one
  pub joined_after : {j : ℕ} → merge_after old.size old.nodes k i ≡ Some j
      → nodes ≡ with_merged (item_removed old.nodes k i) j → size ≡ old.size → next ≡ old.next + 2
      → (let made : Tree T = record { nodes = nodes; size = size; next = next } in made) ≡ after_place_removal old k i
  joined_after join n s c = rw join (λ i. record { nodes = n i; size = s i; next = c i })

  pub lone_after : merge_after old.size old.nodes k i ≡ None → nodes ≡ item_removed old.nodes k i → size ≡ old.size
      → next ≡ old.next + 1
      → (let made : Tree T = record { nodes = nodes; size = size; next = next } in made) ≡ after_place_removal old k i
  lone_after join n s c = rw join (λ i. record { nodes = n i; size = s i; next = c i })

module _ {T : Type 0} {cmp : T → T → Ordering} {most len : ℕ} {old new : Tree T} (o : IsTotalOrder cmp) (t : IsTree cmp most old.nodes old.size len) where
  pub taken_altered : (k i : ℕ) → k < length old.nodes → {x : T} → slice_get (node_at old.nodes k) i ≡ Some x
      → new ≡ after_place_removal old k i
      → Altered cmp old new (concat (with_removed old.size old.nodes k i))
      (place_removal_events old.size old.nodes k i x)
  taken_altered k i inside {x} here e =
      let count = taking_length old.size old.nodes k i x in
      record {
        contents = ap (λ t. concat t.nodes) e;
        size = ap (λ t. t.size) e;
        next = omega (arith, ap (λ t. t.next) e, count);
        table = taken_replay o t.lawful k i inside here old.next ∙ ap (λ t. Some t.nodes) (sym e);
        at_most_three_events = omega (arith, count, two_at_most old.size old.nodes k i);
        dense = λ s. subst (λ t. IsDense (t.size / 2) t.nodes) (sym e) (taken_spaced cmp old.size t.two old.nodes k i t.lawful inside (slice_get_within (node_at old.nodes k) i x here) s);
      }

  pub taken_changed : (k i : ℕ) → k < length old.nodes → {x : T} → slice_get (node_at old.nodes k) i ≡ Some x
      → new ≡ after_place_removal old k i → old.next + place_removal_count old.size old.nodes k i ≤ MAX
      → Changed cmp old new (place_removal old k i x)
  taken_changed k i inside {x} here e fits =
      changed {made = place_removal old k i x} e (omega (arith, fits, taking_length old.size old.nodes k i x)) (taken_altered k i inside here e)

-- a removal, by the place of its item
module _ {T : Type 0} {cmp : T → T → Ordering} (old : Tree T) where
  pub sought_after : {Q : Type 0} {order : T → Q → Ordering} {among : Q → Q → Ordering} {v : Q} {k i : ℕ}
      → OrdersAsItem cmp order among → IsLawful cmp old.size old.nodes → IsFoundIn order old.nodes v k i
      → after_removal order old v ≡ after_place_removal old k i
  unfolding after_removal_by
  sought_after {order = order} {v = v} {k = k} {i = i} acts law f =
      let n = node_at old.nodes k in
      let parted = parted_by_sought acts n (ascends cmp n (up_node cmp old.nodes k (lawful_ruled cmp old.size old.nodes law))) v in
      rw (← f.node_is, found_has_equal order n v i f.here, found_rank order n v i f.here parted) refl

  pub found_after : {v : T} {k i : ℕ} → IsTotalOrder cmp → IsLawful cmp old.size old.nodes → IsFoundIn cmp old.nodes v k i → after_removal cmp old v ≡ after_place_removal old k i
  found_after o law f = sought_after (acts_as_itself o) law f

pub absent_after : {T Q : Type 0} (cmp : T → Q → Ordering) (old : Tree T) (v : Q) → equal_element cmp (concat old.nodes) v ≡ None → after_removal cmp old v ≡ old
unfolding after_removal_by
absent_after cmp old v none = rw (absent_here cmp old.nodes v none) refl

-- the removal from an optional place
pub record Goes {T : Type 0} (old : Tree T) (place : Option (ℕ × ℕ)) (answer : Option T) (es : List (ChangeEventUnassigned T)) (new : Tree T) : Type 0 where
  pub inside : IfSome place (λ p. (p.0 < length old.nodes) × (p.1 < length (node_at old.nodes p.0)))
  pub item : placed_item old.nodes place ≡ answer
  pub events : optional_removal_events old place ≡ es
  pub after : after_optional_removal old place ≡ new

pub value_goes : {T Q : Type 0} {cmp : T → T → Ordering} {order : T → Q → Ordering} {among : Q → Q → Ordering}
    {old : Tree T}
    → IsTotalOrder cmp → OrdersAsItem cmp order among → IsLawful cmp old.size old.nodes
    → (v : Q) (place : Option (ℕ × ℕ))
    → MatchOption place (equal_element order (concat old.nodes) v ≡ None) (λ p. IsFoundIn order old.nodes v p.0 p.1)
    → Goes old place (equal_element order (concat old.nodes) v) (removal_events order old.size old.nodes v)
    (after_removal order old v)
value_goes {order = order} {old = old} o acts law v None none = record {
  inside = tt;
  item = sym none;
  events = sym (absent_events order old.nodes v none old.size);
  after = sym (absent_after order old v none);
}
value_goes {old = old} o acts law v (Some p) found =
    let x = some_read (node_at old.nodes p.0) p.1 found.here.inside in
    record { inside = (found.node_in, found.here.inside); item = found.item; events = rw x.1 (sym (sought_events o law found acts x.1)); after = sym (sought_after old acts law found) }

-- the number of its events
pub events_counted : {T : Type 0} (old : Tree T) (k i : ℕ) → i < length (node_at old.nodes k) → length (optional_removal_events old (Some (k, i))) ≡ place_removal_count old.size old.nodes k i
events_counted old k i here =
    let x = some_read (node_at old.nodes k) i here in
    rw x.1 (taking_length old.size old.nodes k i x.0)

-- a call without events changes nothing
pub altered_nowhere : {T : Type 0} (cmp : T → T → Ordering) (old new : Tree T) → new ≡ old → Altered cmp old new (concat old.nodes) []
altered_nowhere cmp old new same = subst (λ t. Altered cmp old t (concat old.nodes) []) (sym same) (record {
  contents = refl;
  size = refl;
  next = omega arith;
  table = refl;
  at_most_three_events = omega arith;
  dense = λ s. s;
})

pub unchanged : {T : Type 0} (cmp : T → T → Ordering) (old new : Tree T) → new ≡ old → old.next ≤ MAX
    → {made : Change T} → made ≡ record { tree = old; items = concat old.nodes; events = [] } → Changed cmp old new made
unchanged cmp old new same in_range is =
    subst (Changed cmp old new) (sym is) (changed {made = record { tree = old; items = concat old.nodes; events = [] }} same (omega (arith, in_range)) (altered_nowhere cmp old new same))

pub there_changed : {T : Type 0} (cmp : T → T → Ordering) (old : Tree T) (v : T) → old.next ≤ MAX → true ≡ has_equal cmp (concat old.nodes) v → Changed cmp old old (checked_put_change cmp old v)
there_changed cmp old v in_range there = unchanged cmp old old refl in_range (there_change cmp old v there)

-- a removal
module _ {T Q : Type 0} {cmp : T → T → Ordering} {order : T → Q → Ordering} {among : Q → Q → Ordering}
    {most len : ℕ} {old new : Tree T} (o : IsTotalOrder cmp) (acts : OrdersAsItem cmp order among)
    (one : EqualsAtMostOne cmp order) (t : IsTree cmp most old.nodes old.size len) (v : Q) where
  pub sought_altered : new ≡ after_removal order old v → Altered cmp old new (without order (concat old.nodes) v) (removal_events order old.size old.nodes v)
  sought_altered e = at (located (λ x. order x v) old.nodes) refl
    where
      at : (r : Result (ℕ × ℕ) (ℕ × ℕ)) → r ≡ located (λ x. order x v) old.nodes → Altered cmp old new (without order (concat old.nodes) v) (removal_events order old.size old.nodes v)
      at (Ok p) w =
          let found : IsFoundIn order old.nodes v p.0 p.1 = sought_at acts v old.size old.nodes t.lawful (Ok p) w p refl in
          let read = some_read (node_at old.nodes p.0) p.1 found.here.inside in
          rw (sought_events o t.lawful found acts read.1, ← sought_contents o t.lawful found one read.1) (taken_altered o t p.0 p.1 found.node_in read.1 (e ∙ sought_after old acts t.lawful found))
      at (Err p) w =
          let none =
          gap_found (λ x. order x v) old.nodes (lawful_filled cmp old.size old.nodes t.lawful)
          (parted_by_sought acts (concat old.nodes) (lawful_ascends cmp old.size old.nodes t.lawful) v) (Err p) w p
          refl in
          rw (absent_events order old.nodes v none old.size, ← absent_contents order old.nodes v none) (altered_nowhere cmp old new (e ∙ absent_after order old v none))

  pub sought_changed : new ≡ after_removal order old v → Fits old (removal_change order old v) → Changed cmp old new (removal_change order old v)
  sought_changed e fits = changed {made = removal_change order old v} e fits (sought_altered e)

-- the same for an item
module _ {T : Type 0} {cmp : T → T → Ordering} {most len : ℕ} {old new : Tree T} (o : IsTotalOrder cmp) (t : IsTree cmp most old.nodes old.size len) (v : T) where
  pub removal_altered : new ≡ after_removal cmp old v → Altered cmp old new (without cmp (concat old.nodes) v) (removal_events cmp old.size old.nodes v)
  removal_altered = sought_altered o (acts_as_itself o) (one_as_itself o) t v

  pub removal_changed : new ≡ after_removal cmp old v → Fits old (removal_change cmp old v) → Changed cmp old new (removal_change cmp old v)
  removal_changed = sought_changed o (acts_as_itself o) (one_as_itself o) t v
