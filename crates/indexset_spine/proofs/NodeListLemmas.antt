-- Places in a list that is partitioned into nodes.
use Rattle.std.proofs.Common.{◌≡◌, ℕ, zero, suc, ◌+◌, ◌-◌, ◌<◌, ◌≤◌, List, [], ◌∷◌, ◌++◌, length}
use Rattle.std.proofs.Common.{sum, take, get_or, slice_set, slice_get, Some, nat_lt, max, Bool, true}
use Rattle.std.proofs.Common.{false, if◌then◌else◌, refl, sym, ap, ◌∙◌, arith, length-append, subst}
use Rattle.std.proofs.lemmas.List.{length-set, set-append_left, set-append_right}
use Rattle.std.proofs.lemmas.List.Sums.{sum_by-cons}
use Rattle.std.proofs.lemmas.Bool.Decides.{nat_tests}
use Rattle.std.specs.List.{All}
use Rattle.std.specs.declared.vec.Vec.{Vec}
use Rattle.std.specs.Vec.{with_item}
use Rattle.indexset_spine.specs.declared.spot.Spot.{Spot}
use Rattle.indexset_core.proofs.CallerLemmas.{length-concat, node_lengths-set}
use Rattle.indexset_spine.proofs.VecNodes.{length-vec_items, vec_items-set, node_read, item_read}
use Rattle.indexset_core.specs.Nodes.{concat, node_lengths, vec_items}
use Rattle.indexset_spine.specs.NodeList.{NodeList, node_list, with_item_at, AreNodeLengths, IsSpine, IsIndexed, items, set_joined, IsItemSpot, position_of}

-- n numbers above 0 add up to n at least
sum-filled : (ls : List ℕ) → All (λ n. 1 ≤ n) ls → length ls ≤ sum ls
sum-filled [] h = omega arith
sum-filled (n ∷ ls) h =
    let rest = sum-filled ls (λ k d lt. h (suc k) d (omega arith)) in let here : 1 ≤ n = h 0 n (omega arith) in
    omega (arith, sum_by-cons (λ (x : ℕ). x) n ls)

-- at most as many nodes as items, if there are two nodes
pub few_nodes : (ls : List ℕ) (size : ℕ) → AreNodeLengths ls size → length ls ≤ max 1 (sum ls)
few_nodes [] size h = omega arith
few_nodes (n ∷ []) size h = omega arith
few_nodes (n ∷ m ∷ ls) size h = let all = sum-filled (n ∷ m ∷ ls) (h.filled (omega arith)) in omega arith

module _ {X : Type 0} where
  -- a write at a spot
  pub set_spot : (ns : List (List X)) (i k o : ℕ) (w : X) → i ≡ length (concat (take k ns)) + o
      → o < length (get_or ns k []) → k < length ns
      → set_joined ns i w ≡ slice_set ns k (slice_set (get_or ns k []) o w)
  unfolding set_joined
  set_spot [] i k o w at inside lt = absurd (omega arith)
  set_spot (n ∷ ns) i zero o w at inside lt =
      let e : i ≡ o = omega arith in let l : i < length n = omega arith in
      let t : nat_lt i (length n) ≡ true = grind (arith, nat_tests) in
      rw t (ap (λ j. slice_set n j w ∷ ns) e)
  set_spot (n ∷ ns) i (suc k) o w at inside lt =
      let long = length-append n (concat (take k ns)) in
      let l : length n ≤ i = omega arith in
      let t : nat_lt i (length n) ≡ false = grind (arith, nat_tests) in
      rw t (ap (λ l. n ∷ l) (set_spot ns (i - length n) k o w (omega arith) inside (omega arith)))

  abbrev Sets : Bool → List X → List (List X) → ℕ → X → Type 0
  Sets b n ns i w = concat (if b then slice_set n i w ∷ ns else n ∷ set_joined ns (i - length n) w) ≡ slice_set (n ++ concat ns) i w

  pub concat-set : (ns : List (List X)) (i : ℕ) (w : X) → concat (set_joined ns i w) ≡ slice_set (concat ns) i w
  unfolding set_joined
  concat-set [] i w = refl
  concat-set (n ∷ ns) i w =
      let on : (b : Bool) → nat_lt i (length n) ≡ b → Sets b n ns i w = elim [
        | true ↦ λ e. let h : i < length n = grind (arith, nat_tests) in sym (set-append_left n (concat ns) i w h)
        | false ↦ λ e. let h : length n ≤ i = grind (arith, nat_tests) in
            ap (λ l. n ++ l) (concat-set ns (i - length n) w) ∙ sym (set-append_right n (concat ns) (length n) i w refl h)
      ] in on (nat_lt i (length n)) refl

  -- the nodes as the code stores them
  module _ {Z : Type 0} where
    -- the same, at a spot of the spine s
    pub spot_reads : (vs : List (Vec X Z)) (n : ℕ) (s : NodeList X) (p : Spot) (v : Vec X Z) (x : X)
        → node_list (vec_items vs) n ≡ s → IsItemSpot s.nodes p → v ≡ get_or vs p.node v → x ≡ get_or v.items p.offset x
        → slice_get (items s) (position_of s.nodes p) ≡ Some x
    spot_reads vs n s p v x e h at is =
        let q = subst (λ (t : NodeList X). IsItemSpot t.nodes p) (sym e) h in
        let lt : p.node < length vs = omega (arith, q.node_in, length-vec_items vs) in
        let inside : p.offset < length v.items = subst (λ (l : List X). p.offset < length l) (node_read vs p.node v lt at []) q.offset_in in
        subst (λ (t : NodeList X). slice_get (items t) (position_of t.nodes p) ≡ Some x) e (item_read vs p.node p.offset v x lt inside at is)

    pub spine_len : (vs : List (Vec X Z)) (n total : ℕ) (s : NodeList X) → node_list (vec_items vs) n ≡ s → IsSpine (node_lengths (vec_items vs)) n total → total ≡ length (items s)
    spine_len vs n total s e h = h.total_is ∙ (sym (length-concat (vec_items vs)) ∙ ap (λ (t : NodeList X). length (items t)) e)

    module _ (vs : List (Vec X Z)) (n : ℕ) (s : NodeList X) (p : Spot) (v : Vec X Z) (w : X) (view : node_list (vec_items vs) n ≡ s) (h : IsItemSpot s.nodes p) (at : v ≡ get_or vs p.node v) where
      inside : IsItemSpot (vec_items vs) p
      inside = subst (λ (t : NodeList X). IsItemSpot t.nodes p) (sym view) h

      node_in : p.node < length vs
      node_in = omega (arith, inside.node_in, length-vec_items vs)

      -- a write at a spot of the spine s
      pub spot_writes : (i : ℕ) → position_of s.nodes p ≡ i → node_list (vec_items (slice_set vs p.node (with_item v p.offset w))) n ≡ with_item_at s i w
      spot_writes i e =
          let m : get_or (vec_items vs) p.node [] ≡ v.items = node_read vs p.node v node_in at [] in
          let here : i ≡ position_of (vec_items vs) p = sym e ∙ ap (λ (t : NodeList X). position_of t.nodes p) (sym view) in
          let a : vec_items (slice_set vs p.node (with_item v p.offset w)) ≡ slice_set (vec_items vs) p.node (slice_set v.items p.offset w) = vec_items-set vs p.node (with_item v p.offset w) in
          let b : slice_set (vec_items vs) p.node (slice_set v.items p.offset w) ≡ set_joined (vec_items vs) i w =
          ap (λ l. slice_set (vec_items vs) p.node (slice_set l p.offset w)) (sym m) ∙ sym (set_spot (vec_items vs) i p.node p.offset w here inside.offset_in inside.node_in) in
          ap (λ ns. node_list ns n) (a ∙ b) ∙ ap (λ (t : NodeList X). with_item_at t i w) view

      -- it keeps what holds of the spine
      pub spot_keeps : (total : ℕ) (index : List ℕ) → IsIndexed (node_lengths (vec_items vs)) n total index
          → IsIndexed (node_lengths (vec_items (slice_set vs p.node (with_item v p.offset w)))) n total index
      spot_keeps total index is =
          let same : node_lengths (vec_items (slice_set vs p.node (with_item v p.offset w))) ≡ node_lengths (vec_items vs) =
          ap node_lengths (vec_items-set vs p.node (with_item v p.offset w))
          ∙ node_lengths-set (vec_items vs) p.node (slice_set v.items p.offset w) (length-set v.items p.offset w ∙ ap (λ (l : List X). length l) (sym (node_read vs p.node v node_in at []))) in
          subst (λ (ls : List ℕ). IsIndexed ls n total index) (sym same) is
