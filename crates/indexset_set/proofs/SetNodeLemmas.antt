-- The nodes of a set, with or without an equal element.
use Rattle.std.proofs.Common.{◌≡◌, ℕ, zero, suc, ◌+◌, ◌<◌, ◌≤◌, ◌==◌, ◌&&◌, Bool, true, false, List, [], ◌∷◌, ◌++◌, length, nat_lt}
use Rattle.std.proofs.Common.{Ordering, if◌then◌else◌, refl, ap, sym, ◌∙◌, arith, add-one}
use Rattle.std.specs.List.{list_any, remove, slice_set, splice}
use Rattle.std.specs.Ordering.{is_eq, is_lt}
use Rattle.std.proofs.lemmas.Bool.{false≢true}
use Rattle.std.proofs.lemmas.List.{append-nil}
use Rattle.std.proofs.lemmas.List.Sums.{length-filter}
use Rattle.indexset_spine.specs.declared.spot.Spot.{Spot}
use Rattle.indexset_core.specs.Nodes.{concat, ends_less, node_at, node_for}
use Rattle.indexset_spine.specs.NodeList.{NodeList, items, parts_with, with_inserted, with_replaced, without_item}
use Rattle.indexset_spine.specs.Search.{IsSearchResult}
use Rattle.indexset_core.specs.Order.{IsFoundAt, IsGapFor, below, has_equal}
use Rattle.indexset_core.specs.Parted.{IsParted, less_count}
use Rattle.indexset_core.proofs.CallerLemmas.{told_found, told_gap, told_has_equal}
use Rattle.indexset_set.specs.SetNodes.{nodes_kept, nodes_put, nodes_unequal, nodes_without, with_node_edited}
use Rattle.indexset_set.specs.SetSpots.{IsSpotFor, search_spot, spot_of}

module _ {T Q : Type 0} (cmp : T → Q → Ordering) where
  -- a search that returns the place of w, which is v
  pub spot_told : (ns : List (List T)) (v w : Q) (s : Spot) → w ≡ v → s.node ≡ node_for (λ x. cmp x w) ns
      → s.offset ≡ less_count (λ x. cmp x w) (node_at ns s.node) → s.found ≡ has_equal cmp (concat ns) v
      → s ≡ spot_of cmp ns v
  spot_told ns v w s same node offset found =
      let node' : s.node ≡ node_for (λ x. cmp x v) ns = node ∙ ap (λ u. node_for (λ x. cmp x u) ns) same in
      let offset' : s.offset ≡ less_count (λ x. cmp x v) (node_at ns (node_for (λ x. cmp x v) ns))
      = offset ∙ (ap (λ u. less_count (λ x. cmp x u) (node_at ns s.node)) same ∙ ap (λ k. less_count (λ x. cmp x v) (node_at ns k)) node') in
      λ j. record { node = node' j; offset = offset' j; found = found j }

  -- as the spot that a search for w returns, which is v
  pub spot_for : (s : NodeList T) → (v w : Q) → IsParted (λ x. cmp x v) (items s) → w ≡ v → (spot : Spot)
      → IsSearchResult (λ x. cmp x w) s.nodes spot → IsSpotFor cmp s.nodes v spot
  spot_for s v w parted same spot is =
      let found = told_found cmp _ _ _ _ same parted _ is.position is.found in
      let gap = told_gap cmp _ _ _ _ same parted _ is.position is.found in
      record {
        place = spot_told s.nodes v w spot same is.node is.offset (told_has_equal cmp _ _ _ _ found gap);
        position = is.position ∙ ap (λ u. less_count (λ x. cmp x u) (items s)) same;
        found = found;
        gap = gap;
        spot = is.spot;
        item = is.item;
      }

-- the k-th node, replaced or removed
set_spliced : {X : Type 0} (ns : List X) (k : ℕ) (m : X) → k < length ns → slice_set ns k m ≡ splice ns k (suc k) (m ∷ [])
set_spliced [] k m lt = absurd (omega (arith, lt))
set_spliced (n ∷ ns) zero m lt = refl
set_spliced (n ∷ ns) (suc k) m lt = ap (λ l. n ∷ l) (set_spliced ns k m (omega (arith, lt)))

remove_spliced : {X : Type 0} (ns : List X) (k : ℕ) → k < length ns → remove ns k ≡ splice ns k (suc k) []
remove_spliced [] k lt = absurd (omega (arith, lt))
remove_spliced (n ∷ ns) zero lt = refl
remove_spliced (n ∷ ns) (suc k) lt = ap (λ l. n ∷ l) (remove_spliced ns k (omega (arith, lt)))

module _ {T : Type 0} (answer : T → Ordering) where
  node_for-past : (n m : List T) (ms : List (List T)) → ends_less answer n ≡ true → node_for answer (n ∷ m ∷ ms) ≡ suc (node_for answer (m ∷ ms))
  node_for-past n m ms e = rw e (omega arith)

  node_for-here : (n : List T) (ns : List (List T)) → ends_less answer n ≡ false → node_for answer (n ∷ ns) ≡ 0
  node_for-here n ns e = rw e (omega arith)

  -- the node in which a search ends is the one that is edited
  edited : (f : List T → List (List T)) (ns : List (List T)) (k : ℕ) → k ≡ node_for answer ns → splice ns k (suc k) (f (node_at ns k)) ≡ with_node_edited answer f ns
  unfolding with_node_edited
  edited f [] zero e = append-nil (f [])
  edited f [] (suc k) e = absurd (omega (arith, e))
  edited f (n ∷ []) zero e = append-nil (f n)
  edited f (n ∷ []) (suc k) e = absurd (omega (arith, e))
  edited f (n ∷ m ∷ ms) zero e =
      elim (ends_less answer n) as (λ b. ends_less answer n ≡ b → f n ++ m ∷ ms ≡ (if b then n ∷ with_node_edited answer f (m ∷ ms) else f n ++ m ∷ ms)) [
        | true ↦ λ h. absurd (omega (arith, e, node_for-past n m ms h))
        | false ↦ λ _. refl
      ] refl
  edited f (n ∷ m ∷ ms) (suc k) e =
      elim (ends_less answer n)
      as (λ b. ends_less answer n ≡ b
      → splice (n ∷ m ∷ ms) (suc k) (suc (suc k)) (f (node_at (m ∷ ms) k)) ≡ (if b then n ∷ with_node_edited answer f (m ∷ ms) else f n ++ m ∷ ms)) [
        | true ↦ λ h. ap (λ l. n ∷ l) (edited f (m ∷ ms) k (omega (arith, e, node_for-past n m ms h)))
        | false ↦ λ h. absurd (omega (arith, e, node_for-here n (m ∷ ms) h))
      ] refl

  node_inside : (ns : List (List T)) → 1 ≤ length ns → node_for answer ns < length ns
  node_inside ns some = omega (arith, some)

  pub edited_set : (g : List T → List T) (ns : List (List T)) → 1 ≤ length ns
      → slice_set ns (node_for answer ns) (g (node_at ns (node_for answer ns))) ≡ with_node_edited answer (λ n. g n ∷ []) ns
  edited_set g ns some = let k = node_for answer ns in set_spliced ns k (g (node_at ns k)) (node_inside ns some) ∙ edited (λ n. g n ∷ []) ns k refl

  pub edited_without : (ns : List (List T)) → 1 ≤ length ns
      → without_item ns (search_spot answer ns)
      ≡ with_node_edited answer (λ n. if (length n == 1) && nat_lt 1 (length ns) then [] else remove n (less_count answer n) ∷ []) ns
  unfolding without_item
  edited_without ns some =
      let k = node_for answer ns in
      let c : List T → Bool = λ n. (length n == 1) && nat_lt 1 (length ns) in
      let m = remove (node_at ns k) (less_count answer (node_at ns k)) in
      let there : (if c (node_at ns k) then remove ns k else slice_set ns k m) ≡ splice ns k (suc k) (if c (node_at ns k) then [] else m ∷ []) =
      elim (c (node_at ns k)) as (λ b. (if b then remove ns k else slice_set ns k m) ≡ splice ns k (suc k) (if b then [] else m ∷ [])) [
        | true ↦ remove_spliced ns k (node_inside ns some)
        | false ↦ set_spliced ns k m (node_inside ns some)
      ] in
      there ∙ edited (λ n. if c n then [] else remove n (less_count answer n) ∷ []) ns k refl

-- a list with an element that compares Equal has a node
some_node : {T : Type 0} (p : T → Bool) (ns : List (List T)) → list_any p (concat ns) ≡ true → 1 ≤ length ns
some_node p [] h = absurd (false≢true h)
some_node p (n ∷ ns) h = omega arith

module _ {T Q : Type 0} (cmp : T → Q → Ordering) (s : NodeList T) (v : Q) where
  pub without_none : has_equal cmp (items s) v ≡ false → nodes_without cmp s v ≡ s.nodes
  unfolding nodes_unequal
  without_none h = rw h refl

  pub without_there : (spot : Spot) (t : List (List T)) (place : spot ≡ spot_of cmp s.nodes v) → has_equal cmp (items s) v ≡ true → t ≡ without_item s.nodes spot → t ≡ nodes_without cmp s v
  unfolding nodes_unequal
  without_there spot t place h is =
      is ∙ (ap (λ p. without_item s.nodes p) place ∙ (edited_without (λ x. cmp x v) s.nodes (some_node (λ x. is_eq (cmp x v)) s.nodes h) ∙ rw h refl))

module _ {T : Type 0} (cmp : T → T → Ordering) (s : NodeList T) (v : T) where
  abbrev at_rank : List T → ℕ
  at_rank n = length (below cmp n v)

  count_below : (n : List T) → less_count (λ x. cmp x v) n ≡ at_rank n
  count_below n = sym (length-filter (λ x. is_lt (cmp x v)) n)

  pub kept_there : has_equal cmp (items s) v ≡ true → nodes_kept cmp s v ≡ s.nodes
  unfolding nodes_kept
  kept_there h = rw h refl

  -- an insertion of an element that is present leaves the set as it is
  pub kept_present : (t : NodeList T) → has_equal cmp (items s) v ≡ true → t.nodes ≡ nodes_kept cmp s v → t.size ≡ s.size → t ≡ s
  kept_present t h nodes size = let same = nodes ∙ kept_there h in λ j. record { nodes = same j; size = size j }

  inserted : with_inserted s.size s.nodes (spot_of cmp s.nodes v) v ≡ with_node_edited (λ x. cmp x v) (λ n. parts_with s.size n (at_rank n) v) s.nodes
  unfolding with_inserted
  inserted =
      let k = node_for (λ x. cmp x v) s.nodes in let n = node_at s.nodes k in
      rw add-one (ap (λ o. splice s.nodes k (suc k) (parts_with s.size n o v)) (count_below n) ∙ edited (λ x. cmp x v) (λ n. parts_with s.size n (at_rank n) v) s.nodes k refl)

  replaced : has_equal cmp (items s) v ≡ true → with_replaced s.nodes (spot_of cmp s.nodes v) v ≡ with_node_edited (λ x. cmp x v) (λ n. slice_set n (at_rank n) v ∷ []) s.nodes
  unfolding with_replaced
  replaced h =
      let k = node_for (λ x. cmp x v) s.nodes in let n = node_at s.nodes k in
      ap (λ o. slice_set s.nodes k (slice_set n o v)) (count_below n) ∙ edited_set (λ x. cmp x v) (λ n. slice_set n (at_rank n) v) s.nodes (some_node (λ x. is_eq (cmp x v)) s.nodes h)

  -- the result of an edit at the place of a search
  module _ (spot : Spot) (t : List (List T)) (place : spot ≡ spot_of cmp s.nodes v) where
    pub kept_new : has_equal cmp (items s) v ≡ false → t ≡ with_inserted s.size s.nodes spot v → t ≡ nodes_kept cmp s v
    unfolding nodes_kept
    kept_new h is = is ∙ (ap (λ p. with_inserted s.size s.nodes p v) place ∙ (inserted ∙ rw h refl))

    pub put_new : has_equal cmp (items s) v ≡ false → t ≡ with_inserted s.size s.nodes spot v → t ≡ nodes_put cmp s v
    unfolding nodes_put
    put_new h is = kept_new h is ∙ rw h refl

    pub put_there : has_equal cmp (items s) v ≡ true → t ≡ with_replaced s.nodes spot v → t ≡ nodes_put cmp s v
    unfolding nodes_put
    put_there h is = is ∙ (ap (λ p. with_replaced s.nodes p v) place ∙ (replaced h ∙ rw h refl))

-- what a search by a reference shows, it shows of the item that the reference points to
module _ {T R : Type 0} (cmp : T → T → Ordering) (f : R → T) (l : List T) (q : R) (i : ℕ) where
  pub found_of : IsFoundAt (λ x r. cmp x (f r)) l q i → IsFoundAt cmp l (f q) i
  found_of h = record { inside = h.inside; equal = h.equal; below_before = h.below_before }

  pub gap_of : IsGapFor (λ x r. cmp x (f r)) l q i → IsGapFor cmp l (f q) i
  gap_of h = record { inside = h.inside; below_before = h.below_before; above_after = h.above_after }
