-- The pairs of a map, by the result of a search for a key.
use Rattle.std.proofs.Common.{◌≡◌, ℕ, Bool, true, false, if◌then◌else◌, List, Ordering, Some, slice_get, ap, sym, ◌∙◌}
use Rattle.std.specs.Cmp.{IsTotalOrder, on_total}
use Rattle.std.specs.List.{AllWithin, position, remove}
use Rattle.std.specs.Option.{option_map}
use Rattle.std.specs.Ordering.{is_eq, is_lt}
use Rattle.std.specs.declared.cmp.Ordering.TheVariants.{Less}
use Rattle.indexset_core.specs.declared.pair.Pair.{Pair}
use Rattle.indexset_core.specs.Nodes.{node_lengths}
use Rattle.indexset_spine.specs.NodeList.{NodeList, items}
use Rattle.indexset_core.specs.Order.{IsAscending, has_equal}
use Rattle.indexset_core.specs.Pairs.{by_key, has_key, key_rank, value_of, without_key}
use Rattle.indexset_core.specs.LookupKey.{OrdersAsItem, EqualsAtMostOne, one_on}
use Rattle.indexset_core.proofs.CallerLemmas.{Parts, count_parts, front-is_lt, less_from, pairs_total, rank-slice_get}
use Rattle.indexset_core.proofs.CallerLemmas.{slice_get-rank_equal, found_key, found_rank, parted_by_sought_key}
use Rattle.indexset_core.proofs.CallerLemmas.{key_there, key_written, absent_without, sought_without}
use Rattle.indexset_map.specs.Contents.{Contents, contents, with_entry, with_written, without_at, without_entry}
use Rattle.indexset_spine.specs.Lengths.{lengths_with, lengths_without}
use Rattle.indexset_map.proofs.ContentsLemmas.{put_there}
use Rattle.indexset_spine.proofs.CallerLemmas.{node_lengths-without}
use Rattle.indexset_set.specs.SetNodes.{IsWithoutAt}

-- the removal of a key's pair
pub key_taken : {K V Q : Type 0} {cmp : K → K → Ordering} {among : Q → Q → Ordering} (order : K → Q → Ordering)
    (l : List (Pair K V)) (k : Q)
    → IsTotalOrder cmp → OrdersAsItem cmp order among → EqualsAtMostOne cmp order → IsAscending (by_key cmp) l → (i : ℕ)
    → position (λ p. is_eq (order p.key k)) l ≡ Some i → remove l i ≡ without_key order l k
key_taken {K = K} {V = V} {cmp = cmp} order l k o acts one up i h =
    sym
    (sought_without (on_total (λ (p : Pair K V). p.key) o) (one_on (λ (p : Pair K V). p.key) one) l k i up
    (found_key order l k i h (parted_by_sought_key acts l up k)))

module _ {K V Q : Type 0} {cmp : K → K → Ordering} {among : Q → Q → Ordering} (order : K → Q → Ordering)
    (acts : OrdersAsItem cmp order among) (l : List (Pair K V)) (up : IsAscending (by_key cmp) l) where
  -- the keys at the positions before a key's rank are below it
  pub key_before : (k : Q) (i : ℕ) → i ≡ key_rank order l k → AllWithin (λ p. order p.key k ≡ Less) l 0 i
  key_before k i place n d low high =
      let parts : Parts (λ p. is_lt (order p.key k)) l (key_rank order l k) = count_parts is_lt front-is_lt (λ p. order p.key k) l (parted_by_sought_key acts l up k) in
      less_from _ (parts.before n d low (rw (← place) high))

module _ {K V : Type 0} (cmp : K → K → Ordering) (o : IsTotalOrder cmp) (l : List (Pair K V)) (up : IsAscending (by_key cmp) l) where
  -- a pair of the list is found by its key
  pub value_held : (i : ℕ) (p : Pair K V) → slice_get l i ≡ Some p → has_equal (by_key cmp) l p ≡ true → value_of cmp l p.key ≡ Some p.value
  value_held i p is has =
      let total = pairs_total cmp o in
      ap (option_map (λ q. q.value)) (sym (slice_get-rank_equal (by_key cmp) total l up p has) ∙ (ap (slice_get l) (rank-slice_get (by_key cmp) total l up i p is) ∙ is))

-- an item removed from the set is removed from the map
pub contents_removed : {K V : Type 0} (s t : NodeList (Pair K V)) (m : Contents K V) (i : ℕ) → contents s ≡ m → items t ≡ remove (items s) i
    → IsWithoutAt s.nodes i t.nodes → t.size ≡ s.size → contents t ≡ without_at m i
contents_removed {K = K} {V = V} s t m i e is nodes size =
    let lengths : node_lengths t.nodes ≡ lengths_without (node_lengths s.nodes) i = ap node_lengths nodes.3 ∙ node_lengths-without s.nodes nodes.0 i nodes.1 nodes.2 in
    let same : contents t ≡ without_at (contents s) i = λ j. record { pairs = is j; lengths = lengths j; size = size j } in
    same ∙ ap (λ (n : Contents K V). without_at n i) e

module _ {K V Q : Type 0} (order : K → Q → Ordering) (m : Contents K V) (k : Q) where
  module _ (i : ℕ) (h : position (λ p. is_eq (order p.key k)) m.pairs ≡ Some i) where
    there : has_key order m.pairs k ≡ true
    there = key_there order m.pairs k i h

    module _ {cmp : K → K → Ordering} {among : Q → Q → Ordering} (acts : OrdersAsItem cmp order among) (up : IsAscending (by_key cmp) m.pairs) where
      pub key_place : key_rank order m.pairs k ≡ i
      key_place =
          let parted = parted_by_sought_key acts m.pairs up k in
          found_rank (λ (p : Pair K V). order p.key) m.pairs k i (found_key order m.pairs k i h parted) parted

      pub without_found : IsTotalOrder cmp → EqualsAtMostOne cmp order → without_at m i ≡ without_entry order m k
      without_found o one =
          let pairs = key_taken order m.pairs k o acts one up i h in
          let lengths = ap (λ (b : Bool). if b then lengths_without m.lengths (key_rank order m.pairs k) else m.lengths) there ∙ ap (lengths_without m.lengths) key_place in
          λ j. record { pairs = pairs j; lengths = sym lengths j; size = m.size }

  pub without_absent : has_key order m.pairs k ≡ false → without_entry order m k ≡ m
  without_absent h =
      let pairs = absent_without order m.pairs k h in
      let lengths = ap (λ (b : Bool). if b then lengths_without m.lengths (key_rank order m.pairs k) else m.lengths) h in
      λ j. record { pairs = pairs j; lengths = lengths j; size = m.size }

module _ {K V : Type 0} (cmp : K → K → Ordering) (m : Contents K V) (k : K) (i : ℕ) (h : position (λ p. is_eq (cmp p.key k)) m.pairs ≡ Some i) where
  pub put_found : (w : V) → with_written m i w ≡ with_entry cmp m k w
  put_found w =
      let pairs = key_written cmp m.pairs k i h w ∙ sym (put_there cmp m.pairs k (there cmp m k i h) w) in
      let lengths = ap (λ (b : Bool). if b then m.lengths else lengths_with m.size m.lengths (key_rank cmp m.pairs k)) (there cmp m k i h) in
      λ j. record { pairs = pairs j; lengths = sym lengths j; size = m.size }
