-- Lawful nodes after two neighbours were merged.
use Rattle.std.proofs.Common.{◌≡◌, ℕ, zero, suc, ◌+◌, ◌-◌, ◌/◌, ◌<◌, ◌≤◌, ◌&&◌, ◌⊎◌, Bool, true, false, if◌then◌else◌}
use Rattle.std.proofs.Common.{List, [], ◌∷◌, ◌++◌, length, map, get_or, set, remove, eqb, ltb, leb, Option, Some}
use Rattle.std.proofs.Common.{None, Ordering, refl, ap, sym, inl, inr, ◌∙◌, subst, arith, append_assoc, length-append}
use Rattle.std.specs.Cmp.{IsTotalOrder}
use Rattle.std.proofs.lemmas.Bool.{false≢true, lt-ltb, ltb-true, leb-true, leb-false, eqb-false}
use Rattle.std.proofs.lemmas.List.Edits.{length-remove}
use Rattle.std.proofs.lemmas.List.{length-set, get_or-set_other, get_or-set_same, length-map, map-append}
use Rattle.std.proofs.Math.Seq.{get_or-append_seam, set-append_seam}
use Rattle.indexset_core.specs.Nodes.{concat, node_at}
use Rattle.indexset_core.specs.Order.{IsAscending}
use Rattle.indexset_core.proofs.CallerLemmas.{concat-append}
use Rattle.indexset_events.specs.Merging.{are_small, merge_place, merge_after, with_merged, item_removed}
use Rattle.indexset_events.specs.Replay.{step_plain}
use Rattle.indexset_events.specs.Table.{merge_event}
use Rattle.indexset_events.proofs.AscendingListLemmas.{Each, each-append, each-left, each-right, Up, up-left, up-right, ascends, Ruled}
use Rattle.indexset_events.proofs.StepLemmas.{at_ruled, remove_at, second_at, set_second, joined_seam, merge_step}
use Rattle.indexset_events.proofs.NodeViewLemmas.{node_is}

-- a list, split around two neighbouring indices
pub at_pair : {X : Type 0} (P : List X → ℕ → Type 0) → ((b : List X) (l r : X) (a : List X) → P (b ++ l ∷ r ∷ a) (length b)) → (xs : List X) (j : ℕ) → j + 1 < length xs → P xs j
at_pair P f [] j lt = absurd (omega arith)
at_pair P f (x ∷ []) j lt = absurd (omega arith)
at_pair P f (x ∷ y ∷ xs) zero lt = f [] x y xs
at_pair P f (x ∷ y ∷ xs) (suc j) lt = at_pair (λ q i. P (x ∷ q) (suc i)) (λ b l r a. f (x ∷ b) l r a) (y ∷ xs) j (omega arith)

both : (a b : Bool) → (a && b) ≡ true → (a ≡ true) × (b ≡ true)
both true true h = (refl, refl)
both true false h = absurd (false≢true h)
both false b h = absurd (false≢true h)

module _ {T : Type 0} where
  pub small_means : (h : ℕ) (ns : List (List T)) (j : ℕ) → are_small h ns j ≡ true → (j + 1 < length ns) × (length (node_at ns j) + length (node_at ns (j + 1)) ≤ h)
  small_means h ns j e =
      let parts = both (ltb (j + 1) (length ns)) (leb (length (node_at ns j) + length (node_at ns (j + 1))) h) e in
      (ltb-true _ _ parts.0, leb-true _ _ parts.1)

  pub not_small : (h : ℕ) (ns : List (List T)) (j : ℕ) → are_small h ns j ≡ false → j + 1 < length ns → h < length (node_at ns j) + length (node_at ns (j + 1))
  not_small h ns j e lt =
      let inside = lt-ltb (j + 1) (length ns) lt in
      let none : leb (length (node_at ns j) + length (node_at ns (j + 1))) h ≡ false = rw inside at e in
      leb-false _ _ none

  -- if no nodes are merged, the node and its neighbours hold more
  pub none_small : (h : ℕ) (ms : List (List T)) (k : ℕ) → merge_place h ms k ≡ None → (j : ℕ) → (k ≡ j) ⊎ (k ≡ j + 1) → j + 1 < length ms → h < length (node_at ms j) + length (node_at ms (j + 1))
  none_small h ms k =
      elim (are_small h ms k)
      as (λ t. are_small h ms k ≡ t
      → (if t then Some k else if ltb 0 k && are_small h ms (k - 1) then Some (k - 1) else None) ≡ None → (j : ℕ)
      → (k ≡ j) ⊎ (k ≡ j + 1) → j + 1 < length ms → h < length (node_at ms j) + length (node_at ms (j + 1))) [
        | true ↦ λ e g. let none : Some k ≡ None = g in cc
        | false ↦ λ e.
            elim (ltb 0 k && are_small h ms (k - 1))
            as (λ t. (ltb 0 k && are_small h ms (k - 1)) ≡ t → (if t then Some (k - 1) else None) ≡ None → (j : ℕ)
            → (k ≡ j) ⊎ (k ≡ j + 1) → j + 1 < length ms → h < length (node_at ms j) + length (node_at ms (j + 1))) [
              | true ↦ λ f g. let none : Some (k - 1) ≡ None = g in cc
              | false ↦ λ f g j which lt. elim which [
                | inl same ↦ subst (λ q. q + 1 < length ms → h < length (node_at ms q) + length (node_at ms (q + 1))) same (not_small h ms k e) lt
                | inr after ↦
                    let some : ltb 0 k ≡ true = lt-ltb 0 k (omega arith) in
                    let less : k - 1 ≡ j = omega arith in
                    let small : are_small h ms (k - 1) ≡ false = rw some at f in
                    not_small h ms j (subst (λ q. are_small h ms q ≡ false) less small) lt
              ]
            ] refl
      ] refl

  -- the two nodes that are merged after the node at index k lost an item
  pub record JoinedPair (h : ℕ) (ms : List (List T)) (k j : ℕ) : Type 0 where
    pub next_in : j + 1 < length ms
    pub few : length (node_at ms j) + length (node_at ms (j + 1)) ≤ h
    pub either : (k ≡ j) ⊎ ((k ≡ j + 1) × (are_small h ms k ≡ false))

  pub pair_from : (h : ℕ) (ms : List (List T)) (k j : ℕ) → merge_place h ms k ≡ Some j → JoinedPair h ms k j
  pair_from h ms k j =
      elim (are_small h ms k) as (λ t. are_small h ms k ≡ t → (if t then Some k else if ltb 0 k && are_small h ms (k - 1) then Some (k - 1) else None) ≡ Some j → JoinedPair h ms k j) [
        | true ↦ λ e g.
            let same : k ≡ j = cc in
            let means = small_means h ms k e in
            subst (JoinedPair h ms k) same (record { next_in = means.0; few = means.1; either = inl refl })
        | false ↦ λ e.
            elim (ltb 0 k && are_small h ms (k - 1)) as (λ t. (ltb 0 k && are_small h ms (k - 1)) ≡ t → (if t then Some (k - 1) else None) ≡ Some j → JoinedPair h ms k j) [
              | true ↦ λ f g.
                  let same : k - 1 ≡ j = cc in
                  let parts = both (ltb 0 k) (are_small h ms (k - 1)) f in
                  let some = ltb-true 0 k parts.0 in
                  let means = small_means h ms (k - 1) parts.1 in
                  subst (JoinedPair h ms k) same (record { next_in = means.0; few = means.1; either = inr (omega arith, e) })
              | false ↦ λ f g. let none : (let n : Option ℕ = None in n) ≡ Some j = g in cc
            ] refl
      ] refl

  -- the nodes after one of two or more items was removed and two nodes were merged
  pub record JoinedAfter (size : ℕ) (ns : List (List T)) (k i j : ℕ) : Type 0 where
    pub more : length (node_at ns k) ≡ 1 → ⊥
    pub without : item_removed ns k i ≡ set ns k (remove (node_at ns k) i)
    pub pair : JoinedPair (size / 2) (set ns k (remove (node_at ns k) i)) k j

  pub after_from : (size : ℕ) (ns : List (List T)) (k i j : ℕ) → merge_after size ns k i ≡ Some j → JoinedAfter size ns k i j
  after_from size ns k i j =
      elim (eqb (length (node_at ns k)) 1)
      as (λ t. eqb (length (node_at ns k)) 1 ≡ t
      → (if t then None
      else merge_place (size / 2) (if t then remove ns k else set ns k (remove (node_at ns k) i)) k)
      ≡ Some j
      → JoinedAfter size ns k i j) [
        | true ↦ λ e g. let none : (let n : Option ℕ = None in n) ≡ Some j = g in cc
        | false ↦ λ e g. record {
          more = eqb-false _ _ e;
          without = rw e refl;
          pair = pair_from (size / 2) _ k j g;
        }
      ] refl

module _ {T : Type 0} (cmp : T → T → Ordering) (o : IsTotalOrder cmp) (size : ℕ) where
  -- the event gives the merged nodes, which hold the same items
  pub record Joined (ms : List (List T)) (j : ℕ) (d : T) : Type 0 where
    pub stepped : step_plain cmp ms (merge_event ms d j) ≡ Some (with_merged ms j)
    pub ruled : Ruled cmp (with_merged ms j)
    pub small : Each (λ n. length n ≤ size) (with_merged ms j)
    pub same : concat (with_merged ms j) ≡ concat ms

  pub joins : (d : T) (ms : List (List T)) (j : ℕ) → j + 1 < length ms → length (node_at ms j) + length (node_at ms (j + 1)) ≤ size → Ruled cmp ms → Each (λ n. length n ≤ size) ms → Joined ms j d
  joins d ms j inside = at_pair (λ q i. length (node_at q i) + length (node_at q (i + 1)) ≤ size → Ruled cmp q → Each (λ n. length n ≤ size) q → Joined q i d)
      (λ b l r a few ruled small.
      let first = get_or-append_seam b l (r ∷ a) [] in
      let next = second_at b l r a in
      let did = merge_step cmp o b a l r d d ruled in
      let rest : Each (λ n. length n ≤ size) (l ∷ r ∷ a) = each-right _ b (l ∷ r ∷ a) small in
      let long : length l + length r ≤ size = rw (first, next) at few in
      record {
        stepped = rw (joined_seam b l r a, first, next) did.1;
        ruled = rw (joined_seam b l r a) (at_ruled cmp o b (l ++ r) a did.0);
        small = rw (joined_seam b l r a) (each-append _ b ((l ++ r) ∷ a) (each-left _ b (l ∷ r ∷ a) small) (omega (arith, length-append l r), rest.1.1));
        same = rw (joined_seam b l r a, concat-append b ((l ++ r) ∷ a), concat-append b (l ∷ r ∷ a)) (simp append_assoc);
      })
      ms j inside

module _ {T : Type 0} (b : List (List T)) (l r : List T) (a : List (List T)) (m : List T) (j : ℕ) (at : length b ≡ j) where
  first_seam : with_merged (set (b ++ l ∷ r ∷ a) j m) j ≡ b ++ (m ++ r) ∷ a
  first_seam = subst (λ i. with_merged (set (b ++ l ∷ r ∷ a) i m) i ≡ b ++ (m ++ r) ∷ a) at (rw (set-append_seam b l (r ∷ a) m) (joined_seam b m r a))

  next_seam : with_merged (set (b ++ l ∷ r ∷ a) (j + 1) m) j ≡ b ++ (l ++ m) ∷ a
  next_seam = subst (λ i. with_merged (set (b ++ l ∷ r ∷ a) (i + 1) m) i ≡ b ++ (l ++ m) ∷ a) at (rw (set_second b l r a m) (joined_seam b l m a))

-- the nodes as the code merges them, where f gives the list of each
module _ {T N : Type 0} (f : N → List T) (first : N) where
  -- the first node has room, and takes the items of the next one
  pub record TwoSeen (items : List N) (j : ℕ) : Type 0 where
    pub next_is : (n : N) → n ≡ get_or (set items j first) (j + 1) n → f n ≡ node_at (map f items) (j + 1)
    pub first_is : (n : N) → n ≡ get_or (remove (set items j first) (j + 1)) j n → n ≡ first
    pub short : length (remove (set items j first) (j + 1)) + 1 ≡ length items
    pub first_made : (one : N) (m : List T) → f one ≡ m ++ node_at (map f items) (j + 1) → map f (set (remove (set items j first) (j + 1)) j one) ≡ with_merged (set (map f items) j m) j
    pub next_made : (one : N) (m : List T) → f one ≡ node_at (map f items) j ++ m → map f (set (remove (set items j first) (j + 1)) j one) ≡ with_merged (set (map f items) (j + 1) m) j

  pub two_seen : (items : List N) (j : ℕ) → j + 1 < length items → TwoSeen items j
  two_seen items j inside = at_pair TwoSeen
      (λ b l r a.
      let whole : map f (b ++ l ∷ r ∷ a) ≡ map f b ++ f l ∷ f r ∷ map f a = map-append f b (l ∷ r ∷ a) in
      let long : length (map f b) ≡ length b = length-map b f in
      let left : node_at (map f (b ++ l ∷ r ∷ a)) (length b) ≡ f l =
      rw whole
      (subst (λ i. node_at (map f b ++ f l ∷ f r ∷ map f a) i ≡ f l) long
      (get_or-append_seam (map f b) (f l) (f r ∷ map f a) [])) in
      let right : node_at (map f (b ++ l ∷ r ∷ a)) (length b + 1) ≡ f r =
      rw whole
      (subst (λ i. node_at (map f b ++ f l ∷ f r ∷ map f a) (i + 1) ≡ f r) long
      (second_at (map f b) (f l) (f r) (map f a))) in
      let placed : set (b ++ l ∷ r ∷ a) (length b) first ≡ b ++ first ∷ r ∷ a = set-append_seam b l (r ∷ a) first in
      let gone : remove (set (b ++ l ∷ r ∷ a) (length b) first) (length b + 1) ≡ b ++ first ∷ a = rw placed (remove_second b first r a) in
      let made : (one : N)
      → map f (set (remove (set (b ++ l ∷ r ∷ a) (length b) first) (length b + 1)) (length b) one)
      ≡ map f b ++ f one ∷ map f a =
      λ one. rw (gone, set-append_seam b first a one) (map-append f b (one ∷ a)) in
      record {
        next_is = λ n is. rw right (ap f (is ∙ rw placed (get_second b first r a n)));
        first_is = λ n is. is ∙ rw gone (get_or-append_seam b first a n);
        short = rw gone (omega (arith, length-append b (first ∷ a), length-append b (l ∷ r ∷ a)));
        first_made = λ one m e. made one ∙ rw (e, right, whole) (sym (first_seam (map f b) (f l) (f r) (map f a) m (length b) long));
        next_made = λ one m e. made one ∙ rw (e, left, whole) (sym (next_seam (map f b) (f l) (f r) (map f a) m (length b) long));
      })
      items j inside
    where
      remove_second : (b : List N) (l r : N) (a : List N) → remove (b ++ l ∷ r ∷ a) (length b + 1) ≡ b ++ l ∷ a
      remove_second b l r a =
          subst (λ q. remove q (length b + 1) ≡ b ++ l ∷ a) (append_assoc b (l ∷ []) (r ∷ a))
          (rw (← length-append b (l ∷ []), remove_at (b ++ l ∷ []) r a) (append_assoc b (l ∷ []) a))

      get_second : (b : List N) (l r : N) (a : List N) (d : N) → get_or (b ++ l ∷ r ∷ a) (length b + 1) d ≡ r
      get_second b l r a d = subst (λ q. get_or q (length b + 1) d ≡ r) (append_assoc b (l ∷ []) (r ∷ a)) (rw (← length-append b (l ∷ [])) (get_or-append_seam (b ++ l ∷ []) r a d))

-- the two nodes as the code reads them
module _ {T N : Type 0} (f : N → List T) (items : List N) (j : ℕ) (inside : j + 1 < length items) {was first : N} (read : was ≡ get_or items j was) (kept : f first ≡ f was) where
  pub first_list : {rest : List N} {n : N} → rest ≡ remove (set items j first) (j + 1) → n ≡ get_or rest j n → (n ≡ first) × (f n ≡ node_at (map f items) j)
  first_list {n = n} gone again =
      let two = two_seen f first items j inside in
      let same = two.first_is n (rw gone at again) in
      (same, ap f same ∙ (kept ∙ node_is f items (map f items) j was refl (omega arith) read))

  pub next_list : {next : N} → next ≡ get_or (set items j first) (j + 1) next → f next ≡ node_at (map f items) (j + 1)
  next_list {next = next} out = let two = two_seen f first items j inside in two.next_is next out

-- the one of two neighbours that lost an item
module _ {T : Type 0} (ns : List (List T)) (j : ℕ) (inside : j + 1 < length ns) where
  pub left_lost : (m : List T) → (node_at (set ns j m) j ≡ m) × (node_at (set ns j m) (j + 1) ≡ node_at ns (j + 1))
  left_lost m = (get_or-set_same ns j m [] (omega arith), get_or-set_other ns j (j + 1) m [] (λ e. omega arith))

  pub right_lost : (m : List T) → (node_at (set ns (j + 1) m) j ≡ node_at ns j) × (node_at (set ns (j + 1) m) (j + 1) ≡ m)
  right_lost m = (get_or-set_other ns (j + 1) j m [] (λ e. omega arith), get_or-set_same ns (j + 1) m [] (omega arith))

  module _ (k i : ℕ) where
    abbrev lost : List (List T)
    lost = set ns k (remove (node_at ns k) i)

    -- the two nodes as they are merged
    pub left_joined : {l r : List T} → k ≡ j → l ≡ remove (node_at ns j) i → r ≡ node_at ns (j + 1) → l ++ r ≡ node_at lost j ++ node_at lost (j + 1)
    left_joined at left right = let pair = left_lost (remove (node_at ns j) i) in rw (at, left, right, pair.0, pair.1) refl

    pub right_joined : {l r : List T} → k ≡ j + 1 → l ≡ node_at ns j → r ≡ remove (node_at ns (j + 1)) i → l ++ r ≡ node_at lost j ++ node_at lost (j + 1)
    right_joined at left right = let pair = right_lost (remove (node_at ns (j + 1)) i) in rw (at, left, right, pair.0, pair.1) refl

module _ {T : Type 0} (size : ℕ) (ns : List (List T)) (k i j : ℕ) (inside : i < length (node_at ns k)) (joins : JoinedAfter size ns k i j) where
  -- the two nodes held at most the node size before, too
  pub few_before : 2 ≤ size → length (node_at ns j) + length (node_at ns (j + 1)) ≤ size
  few_before two =
      let pair : JoinedPair (size / 2) (set ns k (remove (node_at ns k) i)) k j = joins.pair in
      let next : j + 1 < length ns = rw (length-set ns k (remove (node_at ns k) i)) at pair.next_in in
      let less = length-remove (node_at ns k) i inside in
      elim pair.either [
        | inl same ↦
            let lost = left_lost ns j next (remove (node_at ns j) i) in
            let few = pair.few in
            omega (arith, rw (same, lost.0, lost.1) at few, rw same at less)
        | inr after ↦
            let lost = right_lost ns j next (remove (node_at ns (j + 1)) i) in
            let few = pair.few in
            omega (arith, rw (after.0, lost.0, lost.1) at few, rw after.0 at less)
      ]

  pub next_inside : j + 1 < length ns
  next_inside = let pair : JoinedPair (size / 2) (set ns k (remove (node_at ns k) i)) k j = joins.pair in rw (length-set ns k (remove (node_at ns k) i)) at pair.next_in

  pub two_held : 2 ≤ length (node_at ns k)
  two_held = two_of (length (node_at ns k)) joins.more (omega (arith, inside))
    where
      two_of : (n : ℕ) → (n ≡ 1 → ⊥) → 1 ≤ n → 2 ≤ n
      two_of n more some = grind arith

-- neighbours of ascending nodes ascend together
pub pair_up : {T : Type 0} (cmp : T → T → Ordering) (ms : List (List T)) (j : ℕ) → j + 1 < length ms → Ruled cmp ms → IsAscending cmp (node_at ms j ++ node_at ms (j + 1))
pair_up cmp ms j inside = at_pair (λ q i. Ruled cmp q → IsAscending cmp (node_at q i ++ node_at q (i + 1)))
    (λ b l r a ruled.
    let up : Up cmp (concat b ++ (l ++ (r ++ concat a))) = subst (Up cmp) (concat-append b (l ∷ r ∷ a)) ruled.up in
    let rest : Up cmp ((l ++ r) ++ concat a) = subst (Up cmp) (sym (append_assoc l r (concat a))) (up-right cmp (concat b) (l ++ (r ++ concat a)) up) in
    rw (get_or-append_seam b l (r ∷ a) [], second_at b l r a) (ascends cmp (l ++ r) (up-left cmp (l ++ r) (concat a) rest)))
    ms j inside
