-- Spots of a map: where a search for a key ends, and the map after an edit there.
use Rattle.std.proofs.Common.{◌≡◌, ℕ, ◌+◌, ◌<◌, ◌≤◌, Bool, false, if◌then◌else◌, List, length, take, Ordering, Option}
use Rattle.std.proofs.Common.{Some, None, MatchOption, IsTrue, slice_get, refl, ap, sym, subst, ◌∙◌, arith, inl, inr}
use Rattle.std.specs.Cmp.{IsTotalOrder}
use Rattle.std.specs.List.{All, insert, remove}
use Rattle.std.proofs.lemmas.List.{length-map}
use Rattle.std.proofs.lemmas.Bool.{cases_lt}
use Rattle.indexset_core.specs.declared.pair.Pair.{Pair}
use Rattle.indexset_core.specs.Nodes.{concat, node_lengths, node_at}
use Rattle.indexset_core.specs.Order.{IsAscending, IsGapFor}
use Rattle.indexset_core.specs.Pairs.{pair, by_key, has_key, key_rank, put_value}
use Rattle.indexset_core.specs.Parted.{IsParted, less_count}
use Rattle.indexset_core.specs.LookupKey.{OrdersAsItem}
use Rattle.indexset_core.proofs.CallerLemmas.{absent_gap, ends_for, gap_put, length-concat-more, length-concat-take, parted_by_key, parted_by_sought_key, position_absent, position_found}
use Rattle.indexset_spine.specs.declared.spot.Spot.{Spot}
use Rattle.indexset_spine.specs.NodeList.{NodeList, AreNodeLengths, IsItemSpot, IsSpot, items, position_of, with_inserted, without_item}
use Rattle.indexset_spine.specs.Lengths.{IsItemPlace, IsPlace, lengths_with, place_of}
use Rattle.indexset_spine.proofs.CallerLemmas.{item_place, item_spot, lengths_placed, node_filled, position_inside, place_position, place_spot, spot_place}
use Rattle.indexset_set.specs.SetPairs as cut
use Rattle.indexset_spine.specs.Search.{IsSearchResult}
use Rattle.indexset_map.specs.Contents.{Contents, contents, with_entry, with_written, without_at}
use Rattle.indexset_map.specs.KeySpot.{IsSpotOf}
use Rattle.indexset_map.proofs.ContentsLemmas.{contents_written, put_new}
use Rattle.indexset_map.proofs.KeyLemmas.{contents_removed}

module _ {X : Type 0} where
  last_node : (ns : List (List X)) (k size : ℕ) → k < length ns → AreNodeLengths (node_lengths ns) size → length (concat ns) ≤ length (concat (take k ns)) + length (node_at ns k) → length ns ≤ k + 1
  last_node ns k size lt is le =
      elim (cases_lt (k + 1) (length ns)) [
        | inl more ↦
            absurd
            (omega (
              arith,
              length-concat-more ns k lt,
              length-concat-more ns (k + 1) (omega arith),
              length-concat-take ns (k + 1 + 1),
              node_filled ns (k + 1) size (omega arith) (omega arith) is,
              le,
            ))
        | inr done ↦ done
      ]

  -- a search ends at a place where an item can be inserted
  pub sought_place : (answer : X → Ordering) (size : ℕ) (ns : List (List X)) (s : Spot)
      → IsParted answer (concat ns) → AreNodeLengths (node_lengths ns) size → IsSearchResult answer ns s
      → IsPlace (node_lengths ns) s
  sought_place answer size ns s parted is sought =
      let n = length-map ns (λ (l : List X). length l) in
      let some : 1 ≤ length ns = omega (arith, n, is.some) in
      let filled : 2 ≤ length ns → All (λ i. 1 ≤ i) (node_lengths ns) = λ two. is.filled (omega (arith, n, two)) in
      let ends : length (node_at ns s.node) ≤ less_count answer (node_at ns s.node) → length (concat ns) ≤ length (concat (take s.node ns)) + less_count answer (node_at ns s.node)
      = subst
      (λ (k : ℕ). length (node_at ns k) ≤ less_count answer (node_at ns k)
      → length (concat ns) ≤ length (concat (take k ns)) + less_count answer (node_at ns k))
      (sym sought.node) (ends_for answer ns some filled parted) in
      let inside = sought.spot.offset_in in let there = sought.offset in
      spot_place ns s sought.spot (λ a. last_node ns s.node size sought.spot.node_in is (omega (arith, ends (omega (arith, a, there)), inside, there)))

module _ {K V : Type 0} where
  -- a spot of the set s is a spot of the map m
  module _ (s : NodeList (Pair K V)) (m : Contents K V) (spot : Spot) (e : contents s ≡ m) where
    pub place_at : place_of m.lengths spot ≡ position_of s.nodes spot
    place_at = ap (λ (n : Contents K V). place_of n.lengths spot) (sym e) ∙ place_position s.nodes spot

    pub item_in : IsItemPlace m.lengths spot → IsItemSpot s.nodes spot
    item_in h = item_spot s.nodes spot (subst (λ (n : Contents K V). IsItemPlace n.lengths spot) (sym e) h)

    pub spot_in : IsPlace m.lengths spot → IsSpot s.nodes spot
    spot_in h = place_spot s.nodes spot (subst (λ (n : Contents K V). IsPlace n.lengths spot) (sym e) h)

    pub pair_read : slice_get m.pairs (place_of m.lengths spot) ≡ slice_get (items s) (position_of s.nodes spot)
    pair_read = ap (λ (n : Contents K V). slice_get n.pairs (place_of n.lengths spot)) (sym e) ∙ ap (slice_get (items s)) (place_position s.nodes spot)

    pub value_placed : (w : V) → contents (cut.with_value_at s (position_of s.nodes spot) w) ≡ with_written m (place_of m.lengths spot) w
    value_placed w = contents_written s m (position_of s.nodes spot) w e ∙ ap (λ i. with_written m i w) (sym place_at)

    -- an item removed from the set there is removed from the map
    pub taken_out : (t : NodeList (Pair K V)) → IsItemPlace m.lengths spot
        → items t ≡ remove (items s) (position_of s.nodes spot) → t.nodes ≡ without_item s.nodes spot → t.size ≡ s.size
        → contents t ≡ without_at m (place_of m.lengths spot)
    taken_out t h is nodes size =
        contents_removed s t m (place_of m.lengths spot) e (is ∙ ap (remove (items s)) (sym place_at)) (spot, item_in h, sym place_at, nodes) size

  -- the spot of the first or the last item
  pub end_place : (s : NodeList (Pair K V)) (m : Contents K V) (i : ℕ) → contents s ≡ m → (r : Option Spot)
      → MatchOption r (length (items s) ≡ 0)
      (λ t. IsItemSpot s.nodes t × (position_of s.nodes t ≡ i) × IsTrue t.found)
      → MatchOption r (length m.pairs ≡ 0)
      (λ t. IsItemPlace m.lengths t × (place_of m.lengths t ≡ i) × (0 < length m.pairs))
  end_place s m i e None h = ap (λ (n : Contents K V). length n.pairs) (sym e) ∙ h
  end_place s m i e (Some t) h =
      let inside : position_of s.nodes t < length (items s) = position_inside s.nodes t h.0 in
      let long : length m.pairs ≡ length (items s) = ap (λ (n : Contents K V). length n.pairs) (sym e) in
      (subst (λ (n : Contents K V). IsItemPlace n.lengths t) e (item_place s.nodes t h.0), place_at s m t e ∙ h.1, omega (arith, inside, long))

  module _ {Q : Type 0} {cmp : K → K → Ordering} {among : Q → Q → Ordering} (order : K → Q → Ordering) (acts : OrdersAsItem cmp order among) where
    -- a search for j, which is k
    pub sought_key : (s : NodeList (Pair K V)) (m : Contents K V) (j k : Q) (spot : Spot) → contents s ≡ m → j ≡ k
        → IsAscending (by_key cmp) (items s) → AreNodeLengths (node_lengths s.nodes) s.size
        → IsSearchResult (λ p. order p.key j) s.nodes spot → IsSpotOf order m k spot
    sought_key s m j k spot e same up is sought =
        let answer : Pair K V → Ordering = λ p. order p.key j in
        let parted : IsParted answer (items s) = parted_by_sought_key acts (items s) up j in
        let place = place_position s.nodes spot in
        let of : IsSpotOf order (contents s) j spot = record {
          found = λ h. position_found answer (items s) _ parted sought.position (sym sought.found ∙ h) ∙ ap Some (sym place);
          item = λ h. item_place s.nodes spot (sought.item h);
          absent = λ h. position_absent answer (items s) _ parted sought.position (sym sought.found ∙ h);
          place = sought_place answer s.size s.nodes spot parted is sought;
          rank = place ∙ sought.position;
        } in
        subst (λ n. IsSpotOf order n k spot) e (subst (λ i. IsSpotOf order (contents s) i spot) same of)

  module _ (cmp : K → K → Ordering) (total : IsTotalOrder cmp) where
    -- a pair inserted into the set at its key's rank is inserted into the map
    module _ (m : Contents K V) (k : K) (spot : Spot) (none : has_key cmp m.pairs k ≡ false)
        (up : IsAscending (by_key cmp) m.pairs) (place : IsPlace m.lengths spot)
        (rank : place_of m.lengths spot ≡ key_rank cmp m.pairs k) where
      pub gap_in : (s : NodeList (Pair K V)) (v : V) → contents s ≡ m → IsGapFor (by_key cmp) (items s) (pair k v) (position_of s.nodes spot)
      gap_in s v e =
          let gap = absent_gap cmp m.pairs k none (parted_by_key cmp total m.pairs up k) (key_rank cmp m.pairs k) refl v in
          let here : IsGapFor (by_key cmp) (items s) (pair k v) (key_rank cmp m.pairs k) =
          subst (λ (n : Contents K V). IsGapFor (by_key cmp) n.pairs (pair k v) (key_rank cmp m.pairs k)) (sym e)
          gap in
          subst (λ (i : ℕ). IsGapFor (by_key cmp) (items s) (pair k v) i) (sym rank ∙ place_at s m spot e) here

      pub put_in : (s t : NodeList (Pair K V)) (v : V) → contents s ≡ m
          → items t ≡ insert (items s) (position_of s.nodes spot) (pair k v)
          → t.nodes ≡ with_inserted s.size s.nodes spot (pair k v) → t.size ≡ s.size → contents t ≡ with_entry cmp m k v
      put_in s t v e is nodes size =
          let i = key_rank cmp m.pairs k in
          let gap = absent_gap cmp m.pairs k none (parted_by_key cmp total m.pairs up k) i refl v in
          let put : insert m.pairs i (pair k v) ≡ put_value cmp m.pairs k v = sym (put_new cmp m.pairs k none v ∙ gap_put (by_key cmp) m.pairs (pair k v) i gap) in
          let pairs : items t ≡ put_value cmp m.pairs k v
          = is ∙ (ap (λ j. insert (items s) j (pair k v)) (sym (place_at s m spot e) ∙ rank) ∙ (ap (λ (n : Contents K V). insert n.pairs i (pair k v)) e ∙ put)) in
          let here = subst (λ (n : Contents K V). IsPlace n.lengths spot) (sym e) place in
          let lengths : node_lengths t.nodes ≡ lengths_with m.size m.lengths i
          = ap node_lengths nodes
          ∙ (lengths_placed s.nodes spot s.size (pair k v) here
          ∙ (ap (λ (n : Contents K V). lengths_with n.size n.lengths (place_of n.lengths spot)) e
          ∙ ap (lengths_with m.size m.lengths) rank)) in
          let chosen = lengths ∙ sym (ap (λ (b : Bool). if b then m.lengths else lengths_with m.size m.lengths i) none) in
          let sizes : t.size ≡ m.size = size ∙ ap (λ (n : Contents K V). n.size) e in
          λ j. record { pairs = pairs j; lengths = chosen j; size = sizes j }

      -- the spot of the inserted pair
      pub stands_in : (s t : NodeList (Pair K V)) (to : Spot) → contents s ≡ m → IsItemSpot t.nodes to
          → position_of t.nodes to ≡ position_of s.nodes spot
          → IsItemPlace (contents t).lengths to × (place_of (contents t).lengths to ≡ key_rank cmp m.pairs k)
      stands_in s t to e item at = (item_place t.nodes to item, place_position t.nodes to ∙ (at ∙ (sym (place_at s m spot e) ∙ rank)))
