-- Lawful nodes after a removal.
use Rattle.std.proofs.Common.{◌≡◌, ℕ, zero, suc, ◌+◌, ◌-◌, ◌/◌, ◌<◌, ◌≤◌, ◌||◌, Bool, true, false}
use Rattle.std.proofs.Common.{not, if◌then◌else◌, List, [], ◌∷◌, ◌++◌, length, get_or, set, remove}
use Rattle.std.proofs.Common.{filter, slice_get, eqb, Option, Some, None, is_some, Ordering, refl}
use Rattle.std.proofs.Common.{ap, sym, ◌∙◌, subst, arith, append_assoc, length-append, map}
use Rattle.std.specs.Cmp.{IsTotalOrder}
use Rattle.std.specs.List.{list_any}
use Rattle.std.specs.Option.{option_map_or}
use Rattle.std.specs.Ordering.{is_eq}
use Rattle.std.proofs.lemmas.Bool.{false≢true, eqb-true, eqb-false}
use Rattle.std.specs.declared.cmp.Ordering.TheVariants.{Less, Equal}
use Rattle.std.proofs.lemmas.Cmp.{tied_itself}
use Rattle.std.proofs.lemmas.List.{append-nil, get_or_append_left, nil_from_length}
use Rattle.std.proofs.lemmas.List.Folds.{list_any-append}
use Rattle.std.proofs.Math.Seq.{set-append_seam}
use Rattle.std.proofs.lemmas.Option.{get_or_from_slice_get, slice_get-get_or}
use Rattle.indexset_core.specs.Nodes.{concat, node_at, IsLawful}
use Rattle.indexset_core.specs.Order.{IsAscending, rank, has_equal, without, equal_element, unequal}
use Rattle.indexset_core.specs.LookupKey.{OrdersAsItem, EqualsAtMostOne, acts_as_itself, one_as_itself}
use Rattle.indexset_core.proofs.CallerLemmas.{is_some-find, concat-append, found_equal, found_rank, parted_by_sought, offset-le}
use Rattle.indexset_core.specs.declared.pair.Pair.{Pair}
use Rattle.indexset_events.specs.Edits.{with_removed}
use Rattle.indexset_events.specs.Ends.{removal_events_at}
use Rattle.indexset_events.specs.Keys.{key_removal_events}
use Rattle.indexset_events.specs.Located.{IsFoundIn}
use Rattle.indexset_events.specs.Merging.{merge_after, with_merged, item_removed}
use Rattle.indexset_events.specs.Nodes.{is_filled, last_of}
use Rattle.indexset_events.specs.Replay.{replay, replay_plain, step_plain, numbered_from}
use Rattle.indexset_events.specs.Table.{count_with, merge_event, target, place_removal_count, removal_event, place_removal_events, removal_by, removal_events}
use Rattle.indexset_events.proofs.MergeLemmas.{JoinedAfter, JoinedPair, after_from, joins, pair_up}
use Rattle.indexset_events.proofs.AscendingListLemmas.{last_any, last_answer, last-append, Each, each-append}
use Rattle.indexset_events.proofs.AscendingListLemmas.{each-left, each-right, each-map, Up, up-right}
use Rattle.indexset_events.proofs.AscendingListLemmas.{up-between, Ruled, parts-without, length_filled}
use Rattle.indexset_events.proofs.AscendingListLemmas.{ascends, lawful_from, lawful_ruled, lawful_bounded}
use Rattle.indexset_events.proofs.StepLemmas.{At, at_ruled, ruled_at, remove_step, remove_node_step, remove_at}
use Rattle.indexset_events.proofs.ReplayTheorem.{numbered_replay, up_node}

-- a list, split around the item at an index
pub at_place : {X : Type 0} (P : List X → ℕ → X → Type 0) → ((b : List X) (x : X) (a : List X) → P (b ++ x ∷ a) (length b) x) → (xs : List X) (k : ℕ) (x : X) → slice_get xs k ≡ Some x → P xs k x
at_place {X = X} P f [] k x e = let none : (let n : Option X = None in n) ≡ Some x = e in cc
at_place P f (y ∷ ys) zero x e = let same : y ≡ x = cc in subst (λ z. P (y ∷ ys) 0 z) same (f [] y ys)
at_place P f (y ∷ ys) (suc k) x e = at_place (λ q j. P (y ∷ q) (suc j)) (λ b z a. f (y ∷ b) z a) ys k x e

-- one event, and a second one if nodes are merged
pub taking_length : {T : Type 0} (size : ℕ) (ns : List (List T)) (k i : ℕ) (x : T) → length (place_removal_events size ns k i x) ≡ place_removal_count size ns k i
taking_length size ns k i x =
    elim (merge_after size ns k i) as (λ j. length (removal_event (node_at ns k) i x ∷ option_map_or (λ p. merge_event (item_removed ns k i) x p ∷ []) j []) ≡ count_with j) [
      | None ↦ refl
      | Some j ↦ refl
    ]

pub two_at_most : {T : Type 0} (size : ℕ) (ns : List (List T)) (k i : ℕ) → place_removal_count size ns k i ≤ 2
two_at_most size ns k i =
    elim (merge_after size ns k i) as (λ j. count_with j ≤ 2) [
      | None ↦ omega arith
      | Some j ↦ omega arith
    ]

pub some_taken : {T : Type 0} (size : ℕ) (ns : List (List T)) (k i : ℕ) → 1 ≤ place_removal_count size ns k i
some_taken size ns k i =
    elim (merge_after size ns k i) as (λ j. 1 ≤ count_with j) [
      | None ↦ omega arith
      | Some j ↦ omega arith
    ]

pub removal_few : {T Q : Type 0} (cmp : T → Q → Ordering) (size : ℕ) (ns : List (List T)) (v : Q) → length (removal_events cmp size ns v) ≤ 3
unfolding removal_by
removal_few cmp size ns v =
    let k = target cmp ns v in
    let n = node_at ns k in
    let i = rank cmp n v in
    elim (equal_element cmp n v) as (λ r. length (option_map_or (λ x. place_removal_events size ns k i x) r []) ≤ 3) [
      | None ↦ omega arith
      | Some x ↦ omega (arith, taking_length size ns k i x, two_at_most size ns k i)
    ]

pub few_at : {T : Type 0} (cmp : T → T → Ordering) (size : ℕ) (ns : List (List T)) (i : ℕ) → length (removal_events_at cmp size ns i) ≤ 3
unfolding removal_events_at
few_at cmp size ns i =
    elim (slice_get (concat ns) i) as (λ r. length (option_map_or (λ x. removal_events cmp size ns x) r []) ≤ 3) [
      | None ↦ omega arith
      | Some x ↦ removal_few cmp size ns x
    ]

pub key_removal_few : {K V Q : Type 0} (cmp : K → Q → Ordering) (size : ℕ) (ns : List (List (Pair K V))) (k : Q) → length (key_removal_events cmp size ns k) ≤ 3
key_removal_few cmp size ns k = removal_few (λ p q. cmp p.key q) size ns k

module _ {T : Type 0} (cmp : T → T → Ordering) (o : IsTotalOrder cmp) (size : ℕ) where
  -- the event gives the nodes without the item, which are lawful and hold all other items
  pub record Taken (ns : List (List T)) (k : ℕ) (n : List T) (i : ℕ) (x : T) : Type 0 where
    pub stepped : step_plain cmp ns (removal_event n i x) ≡ Some (if eqb (length n) 1 then remove ns k else set ns k (remove n i))
    pub ruled : Ruled cmp (if eqb (length n) 1 then remove ns k else set ns k (remove n i))
    pub small : Each (λ n. length n ≤ size) (if eqb (length n) 1 then remove ns k else set ns k (remove n i))
    pub front : List T
    pub back : List T
    pub was : concat ns ≡ front ++ x ∷ back
    pub left : concat (if eqb (length n) 1 then remove ns k else set ns k (remove n i)) ≡ front ++ back

  taken_at : (b : List (List T)) (l : List T) (x : T) (r : List T) (a : List (List T))
      → Ruled cmp (b ++ (l ++ x ∷ r) ∷ a) → Each (λ n. length n ≤ size) (b ++ (l ++ x ∷ r) ∷ a)
      → Taken (b ++ (l ++ x ∷ r) ∷ a) (length b) (l ++ x ∷ r) (length l) x
  taken_at b l x r a ruled small =
      let at = ruled_at cmp o b (l ++ x ∷ r) a ruled in
      let before = each-left _ b ((l ++ x ∷ r) ∷ a) small in
      let rest : Each (λ n. length n ≤ size) ((l ++ x ∷ r) ∷ a) = each-right _ b ((l ++ x ∷ r) ∷ a) small in
      let long = length-append l (x ∷ r) in
      let was : concat (b ++ (l ++ x ∷ r) ∷ a) ≡ (concat b ++ l) ++ x ∷ (r ++ concat a) = rw (concat-append b ((l ++ x ∷ r) ∷ a)) (simp append_assoc) in
      elim (eqb (length (l ++ x ∷ r)) 1) as (λ t. eqb (length (l ++ x ∷ r)) 1 ≡ t → Taken (b ++ (l ++ x ∷ r) ∷ a) (length b) (l ++ x ∷ r) (length l) x) [
        | true ↦ λ e.
            let one = eqb-true _ _ e in
            let none : l ≡ [] = nil_from_length l (omega (arith, one)) in
            let past : r ≡ [] = nil_from_length r (omega (arith, one)) in
            let whole : x ∷ [] ≡ l ++ x ∷ r = rw (none, past) refl in
            let did = remove_node_step cmp o b a (x ∷ []) x (subst (λ n. At cmp o b n a) (sym whole) at) in
            let gone = remove_at b (l ++ x ∷ r) a in
            record {
              stepped = rw (e, gone) (subst (λ n. step_plain cmp (b ++ n ∷ a) (removal_event (x ∷ []) 0 x) ≡ Some (b ++ a)) whole did.1);
              ruled = rw (e, gone) did.0;
              small = rw (e, gone) (each-append _ b a before rest.1);
              front = concat b ++ l;
              back = r ++ concat a;
              was = was;
              left = rw (e, gone, none, past, append-nil (concat b)) (concat-append b a);
            }
        | false ↦ λ e.
            let more = eqb-false _ _ e in
            let full : is_filled (l ++ r) ≡ true = length_filled (l ++ r) (rw (length-append l r) (some_left (length l + length r) (λ z. more (omega (arith, long))))) in
            let did = remove_step cmp o b a l x r x at full in
            let made : set (b ++ (l ++ x ∷ r) ∷ a) (length b) (remove (l ++ x ∷ r) (length l)) ≡ b ++ (l ++ r) ∷ a = rw (remove_at l x r) (set-append_seam b (l ++ x ∷ r) a (l ++ r)) in
            record {
              stepped = rw (e, made) did.1;
              ruled = rw (e, made) (at_ruled cmp o b (l ++ r) a did.0);
              small = rw (e, made) (each-append _ b ((l ++ r) ∷ a) before (omega (arith, length-append l r, long, rest.0), rest.1));
              front = concat b ++ l;
              back = r ++ concat a;
              was = was;
              left = rw (e, made, concat-append b ((l ++ r) ∷ a)) (simp append_assoc);
            }
      ] refl
    where
      some_left : (n : ℕ) → (n ≡ 0 → ⊥) → 1 ≤ n
      some_left n h = grind arith

  taken : (ns : List (List T)) (k : ℕ) (n : List T) → slice_get ns k ≡ Some n → (i : ℕ) (x : T) → slice_get n i ≡ Some x → Ruled cmp ns → Each (λ n. length n ≤ size) ns → Taken ns k n i x
  taken ns k n at = at_place (λ q j m. (i : ℕ) (x : T) → slice_get m i ≡ Some x → Ruled cmp q → Each (λ n. length n ≤ size) q → Taken q j m i x)
      (λ b m a. at_place (λ m i x. Ruled cmp (b ++ m ∷ a) → Each (λ n. length n ≤ size) (b ++ m ∷ a) → Taken (b ++ m ∷ a) (length b) m i x) (λ l x r. taken_at b l x r a) m)
      ns k n at

-- an item removed from lawful nodes
module _ {T : Type 0} {cmp : T → T → Ordering} {size : ℕ} {ns : List (List T)} (o : IsTotalOrder cmp) (law : IsLawful cmp size ns) where
  module _ (k i : ℕ) {x : T} (inside : k < length ns) (here : slice_get (node_at ns k) i ≡ Some x) where
    did : Taken cmp o size ns k (node_at ns k) i x
    did = taken cmp o size ns k (node_at ns k) (slice_get-get_or ns k [] inside) i x here (lawful_ruled cmp size ns law) (lawful_bounded cmp size ns law)

    -- the replay of the events gives lawful nodes, by the two nodes that are merged, if any
    pub record Out (join : Option ℕ) : Type 0 where
      pub replayed : replay_plain cmp ns
          (removal_event (node_at ns k) i x ∷ option_map_or (λ j. merge_event (item_removed ns k i) x j ∷ []) join [])
          ≡ Some (option_map_or (with_merged (item_removed ns k i)) join (item_removed ns k i))
      pub ruled : Ruled cmp (option_map_or (with_merged (item_removed ns k i)) join (item_removed ns k i))
      pub small : Each (λ n. length n ≤ size) (option_map_or (with_merged (item_removed ns k i)) join (item_removed ns k i))
      pub same : concat (option_map_or (with_merged (item_removed ns k i)) join (item_removed ns k i)) ≡ concat (item_removed ns k i)

    pub out : Out (merge_after size ns k i)
    out =
        let d = did in
        elim (merge_after size ns k i) as (λ join. merge_after size ns k i ≡ join → Out join) [
          | None ↦ λ e. record { replayed = rw d.stepped refl; ruled = d.ruled; small = d.small; same = refl }
          | Some j ↦ λ e.
              let after = after_from size ns k i j e in
              let pair : JoinedPair (size / 2) (item_removed ns k i) k j = subst (λ q. JoinedPair (size / 2) q k j) (sym after.without) after.pair in
              let one = joins cmp o size x (item_removed ns k i) j pair.next_in (omega (arith, pair.few)) d.ruled d.small in
              record { replayed = rw d.stepped (rw one.stepped refl); ruled = one.ruled; small = one.small; same = one.same }
        ] refl

    pub taken_lawful : IsLawful cmp size (with_removed size ns k i)
    taken_lawful = let r = out in lawful_from cmp size (with_removed size ns k i) r.ruled r.small

    pub taken_counted : length (concat ns) ≡ length (concat (with_removed size ns k i)) + 1
    taken_counted =
        let d = did in
        let r = out in
        let before = ap (λ q. length q) d.was ∙ length-append d.front (x ∷ d.back) in
        let left = ap (λ q. length q) (r.same ∙ d.left) ∙ length-append d.front d.back in
        omega (arith, before, left)

    pub join_up : {j : ℕ} → JoinedAfter size ns k i j → IsAscending cmp (node_at (set ns k (remove (node_at ns k) i)) j ++ node_at (set ns k (remove (node_at ns k) i)) (j + 1))
    join_up {j = j} joins =
        let d = did in
        let pair : JoinedPair (size / 2) (set ns k (remove (node_at ns k) i)) k j = joins.pair in
        pair_up cmp _ j pair.next_in (subst (Ruled cmp) joins.without d.ruled)

    pub taken_replay : (s : ℕ) → replay cmp ns (numbered_from s (place_removal_events size ns k i x)) ≡ Some (with_removed size ns k i)
    taken_replay s = let r = out in numbered_replay cmp ns s (place_removal_events size ns k i x) ∙ r.replayed

    -- the removed items are those that equal the item
    pub taken_contents : (answer : T → Ordering) → (λ y. cmp y x) ≡ answer → concat (with_removed size ns k i) ≡ filter (λ y. not (is_eq (answer y))) (concat ns)
    unfolding unequal
    taken_contents answer same =
        let d = did in
        let r = out in
        let rule = lawful_ruled cmp size ns law in
        let up : Up cmp (d.front ++ x ∷ d.back) = subst (Up cmp) d.was rule.up in
        let rest : Up cmp (x ∷ d.back) = up-right cmp d.front (x ∷ d.back) up in
        let low = each-map _ _ (λ y (h : Each (λ z. cmp y z ≡ Less) (x ∷ d.back)). h.0) d.front (up-between cmp d.front (x ∷ d.back) up) in
        r.same ∙ (d.left ∙ (sym (parts-without cmp o d.front (x ∷ []) d.back x low (tied_itself o x, tt) rest.0) ∙ rw (← d.was) (ap (λ a. filter (λ y. not (is_eq (a y))) (concat ns)) same)))

  -- the removal of the item that a look-up key finds, at its place
  module _ {Q : Type 0} {order : T → Q → Ordering} {v : Q} {k i : ℕ} (f : IsFoundIn order ns v k i) where
    pub sought_events : {among : Q → Q → Ordering} → OrdersAsItem cmp order among → {x : T} → slice_get (node_at ns k) i ≡ Some x → removal_events order size ns v ≡ place_removal_events size ns k i x
    unfolding removal_by
    sought_events acts {x} here =
        let n = node_at ns k in
        let parted = parted_by_sought acts n (ascends cmp n (up_node cmp ns k (lawful_ruled cmp size ns law))) v in
        rw (← f.node_is, found_rank order n v i f.here parted, found_equal order n v i f.here, here) refl

    pub sought_contents : EqualsAtMostOne cmp order → {x : T} → slice_get (node_at ns k) i ≡ Some x → concat (with_removed size ns k i) ≡ without order (concat ns) v
    unfolding unequal
    sought_contents one {x} here =
        let e : order x v ≡ Equal = subst (λ y. order y v ≡ Equal) (get_or_from_slice_get (node_at ns k) i x x here) (f.here.equal x) in
        taken_contents k i f.node_in here (λ y. order y v) (λ j y. sym (one v x y e) j)

  -- the same for an item
  module _ {v : T} {k i : ℕ} (f : IsFoundIn cmp ns v k i) where
    pub found_events : {x : T} → slice_get (node_at ns k) i ≡ Some x → removal_events cmp size ns v ≡ place_removal_events size ns k i x
    found_events = sought_events f (acts_as_itself o)

    pub found_contents : {x : T} → slice_get (node_at ns k) i ≡ Some x → concat (with_removed size ns k i) ≡ without cmp (concat ns) v
    found_contents = sought_contents f (one_as_itself o)

-- a removal if no item is equal
module _ {T Q : Type 0} (cmp : T → Q → Ordering) (ns : List (List T)) (v : Q) (none : equal_element cmp (concat ns) v ≡ None) where
  pub absent_here : has_equal cmp (node_at ns (target cmp ns v)) v ≡ false
  absent_here = any_in (λ x. is_eq (cmp x v)) ns (target cmp ns v) (sym (is_some-find (λ x. is_eq (cmp x v)) (concat ns)) ∙ ap is_some none)
    where
      neither : (a b : Bool) → (a || b) ≡ false → (a ≡ false) × (b ≡ false)
      neither true b h = absurd (false≢true (sym h))
      neither false b h = (refl, h)

      any_in : (p : T → Bool) (ns : List (List T)) (k : ℕ) → list_any p (concat ns) ≡ false → list_any p (node_at ns k) ≡ false
      any_in p [] k h = refl
      any_in p (n ∷ ns) zero h = (neither _ _ (sym (list_any-append p n (concat ns)) ∙ h)).0
      any_in p (n ∷ ns) (suc k) h = any_in p ns k (neither _ _ (sym (list_any-append p n (concat ns)) ∙ h)).1

  pub absent_events : (size : ℕ) → removal_events cmp size ns v ≡ []
  unfolding removal_by
  absent_events size = rw (nothing _ (is_some-find (λ x. is_eq (cmp x v)) (node_at ns (target cmp ns v)) ∙ absent_here)) refl
    where
      nothing : (r : Option T) → is_some r ≡ false → r ≡ None
      nothing None h = refl
      nothing (Some x) h = absurd (false≢true (sym h))

  pub absent_contents : concat ns ≡ without cmp (concat ns) v
  unfolding unequal
  absent_contents = sym (unmatched (concat ns) none)
    where
      unmatched : (l : List T) → equal_element cmp l v ≡ None → filter (λ x. not (is_eq (cmp x v))) l ≡ l
      unmatched [] h = refl
      unmatched (x ∷ l) h = elim (is_eq (cmp x v)) as (λ b. is_eq (cmp x v) ≡ b → filter (λ x. not (is_eq (cmp x v))) (x ∷ l) ≡ x ∷ l) [
        | true ↦ λ e. let some : Some x ≡ None = rw e at h in cc
        | false ↦ λ e. rw e (ap (λ q. x ∷ q) (unmatched l (rw e at h)))
      ] refl

pub some_read : {T : Type 0} (l : List T) (i : ℕ) → i < length l → (x : T) × (slice_get l i ≡ Some x)
some_read [] i lt = absurd (omega arith)
some_read (x ∷ xs) zero lt = (x, refl)
some_read (x ∷ xs) (suc i) lt = some_read xs i (omega arith)

-- the last item but the one at an index
module _ {T : Type 0} (n : List T) (i : ℕ) (x d : T) (inside : i < length n) where
  pub last_end : 2 ≤ length n → i ≡ length n - 1 → x ≡ get_or n (i - 1) x → last_of (remove n i) d ≡ x
  last_end two end is =
      let there = some_read n i inside in
      at_place (λ q j y. 2 ≤ length q → j ≡ length q - 1 → x ≡ get_or q (j - 1) x → last_of (remove q j) d ≡ x)
      (λ l y r two end is.
      let long = length-append l (y ∷ r) in
      let none : r ≡ [] = nil_from_length r (omega (arith, long)) in
      let full = length_filled l (omega (arith, long)) in
      let read : x ≡ get_or l (length l - 1) x = is ∙ get_or_append_left l (y ∷ r) x (length l - 1) (omega (arith, long)) in
      rw (remove_at l y r, none, append-nil l) (last_any l d x full ∙ (last_answer l x ∙ sym read)))
      n i there.0 there.1 two end is

  pub last_stays : (i ≡ length n - 1 → ⊥) → x ≡ get_or n (length n - 1) x → last_of (remove n i) d ≡ x
  last_stays inner is =
      let there = some_read n i inside in
      at_place (λ q j y. (j ≡ length q - 1 → ⊥) → x ≡ get_or q (length q - 1) x → last_of (remove q j) d ≡ x)
      (λ l y r inner is.
      let long = length-append l (y ∷ r) in
      let full = length_filled r (some_left (length r) (λ none. inner (omega (arith, long)))) in
      rw (remove_at l y r) (last-append l r d d full ∙ (last_any r d y full ∙ (sym (last-append l (y ∷ r) x x refl) ∙ (last_answer (l ++ y ∷ r) x ∙ sym is)))))
      n i there.0 there.1 inner is
    where
      some_left : (k : ℕ) → (k ≡ 0 → ⊥) → 1 ≤ k
      some_left k h = grind arith

pub map_remove : {X Y : Type 0} (f : X → Y) (xs : List X) (k : ℕ) → map f (remove xs k) ≡ remove (map f xs) k
map_remove f [] zero = refl
map_remove f [] (suc k) = refl
map_remove f (x ∷ xs) zero = refl
map_remove f (x ∷ xs) (suc k) = ap (λ q. f x ∷ q) (map_remove f xs k)

-- the list is not empty if a node is not empty
pub some_joined : {T : Type 0} (ns : List (List T)) (k i : ℕ) → k < length ns → i < length (node_at ns k) → 1 ≤ length (concat ns)
some_joined ns k i inside lt = omega (arith, offset-le ns k 1 inside (omega arith))
