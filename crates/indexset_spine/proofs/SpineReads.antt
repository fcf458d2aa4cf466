-- What the code reads of a spine, and the ends of its searches.
use Rattle.std.proofs.Common.{◌≡◌, ℕ, ◌+◌, ◌-◌, ◌<◌, ◌≤◌, false, true, List, [], ◌∷◌, length, get_or, take, Option, Ordering, inl, inr, sym, ap, ◌∙◌, arith, subst}
use Rattle.std.specs.List.{All, HoldsAt}
use Rattle.std.specs.Option.{option_map_or}
use Rattle.std.specs.Ordering.{is_lt, is_eq}
use Rattle.std.proofs.lemmas.Bool.{cases_lt, false≢true}
use Rattle.std.proofs.lemmas.List.{get_or-map, length-map}
use Rattle.std.proofs.lemmas.Option.{slice_get_past}
use Rattle.std.specs.declared.vec.Vec.{Vec}
use Rattle.indexset_core.specs.Nodes.{concat, node_lengths, ends_less, equal_at, node_for, node_at, vec_items}
use Rattle.indexset_core.specs.Parted.{IsParted, less_count}
use Rattle.indexset_core.proofs.CallerLemmas.{count_parted, ends_for, equal_none, ends_last, ends_until, front-is_lt, get_in_node, node_found, parted_node, place_for}
use Rattle.indexset_spine.specs.NodeList.{NodeList, node_list, AreNodeLengths, items}
use Rattle.indexset_spine.proofs.VecNodes.{length-vec_items, node_read}

-- n is the k-th node of the spine s, in which the search ends
pub record NodeFound {X : Type 0} (answer : X → Ordering) (s : NodeList X) (k : ℕ) (n : List X) : Type 0 where
  pub lengths : AreNodeLengths (node_lengths s.nodes) s.size
  pub named : k ≡ node_for answer s.nodes
  pub inside : k < length s.nodes
  pub node : node_at s.nodes k ≡ n

pub read_node : {X Z : Type 0} (vs : List (Vec X Z)) (size : ℕ) (s : NodeList X) → node_list (vec_items vs) size ≡ s → AreNodeLengths (node_lengths (vec_items vs)) size
    → (answer : X → Ordering) (k : ℕ) (v : Vec X Z) → k ≡ node_for answer (vec_items vs) → v ≡ get_or vs k v → NodeFound answer s k v.items
read_node {X} vs size s view is answer k v found at =
    let inside : k < length vs = omega (arith, found, is.some, length-vec_items vs, length-map (vec_items vs) (λ n. length n)) in
    subst (λ (t : NodeList X). NodeFound answer t k v.items) view (record { lengths = is; named = found; inside = omega (arith, inside, length-vec_items vs); node = node_read vs k v inside at [] })

module _ {X : Type 0} (answer : X → Ordering) (s : NodeList X) (k : ℕ) (n : List X) (h : NodeFound answer s k n) where
  pub node_within : length n ≤ s.size
  node_within =
      let long = length-map s.nodes (λ n. length n) in
      let here : get_or (node_lengths s.nodes) k 0 ≡ length (node_at s.nodes k) = get_or-map (λ n. length n) s.nodes k [] 0 h.inside in
      omega (arith, here, ap (λ (l : List X). length l) h.node, h.lengths.bounded k 0 (omega (arith, h.inside, long)))

  module _ (parted : IsParted answer (items s)) where
    pub node_parted : IsParted answer n
    node_parted = rw (← h.node) (parted_node answer s.nodes k h.inside parted)

    -- the offset that a search of the node returns
    module _ (o : ℕ) (at : o ≡ less_count answer n) where
      filled : 2 ≤ length s.nodes → All (λ n. 1 ≤ n) (node_lengths s.nodes)
      filled two = h.lengths.filled (omega (arith, two, length-map s.nodes (λ n. length n)))

      some : 1 ≤ length s.nodes
      some = omega (arith, h.inside)

      pub located : length (concat (take k s.nodes)) + o ≡ less_count answer (items s)
      located = rw (at, ← h.node, h.named) (place_for answer s.nodes some filled parted)

      past : length n ≤ o → length (items s) ≤ length (concat (take k s.nodes)) + o
      past le =
          let ends : length (node_at s.nodes k) ≤ less_count answer (node_at s.nodes k) → length (concat s.nodes) ≤ length (concat (take k s.nodes)) + less_count answer (node_at s.nodes k) =
          rw h.named (ends_for answer s.nodes some filled parted) in
          rw at ((rw h.node at ends) (rw at at le))

      -- the item there is the same in the node and in the whole list
      pub told : equal_at answer n o ≡ equal_at answer (items s) (length (concat (take k s.nodes)) + o)
      told = ap (λ (r : Option X). option_map_or (λ x. is_eq (answer x)) r false) (elim (cases_lt o (length n)) [
        | inl lt ↦ (rw h.node at (sym (get_in_node s.nodes k o h.inside (rw h.node lt))))
        | inr ge ↦ slice_get_past n o ge ∙ sym (slice_get_past (items s) _ (past ge))
      ])

-- if the last item of a list compares Less, all items do
pub all_less : {X : Type 0} (answer : X → Ordering) (xs : List X) → IsParted answer xs → ends_less answer xs ≡ true → length xs ≡ less_count answer xs
all_less answer [] parted ends = absurd (false≢true ends)
all_less answer (x ∷ xs) parted ends =
    let n = length (x ∷ xs) in
    let last : (d : _) → is_lt (answer (get_or (x ∷ xs) (n - 1) d)) ≡ true = λ d. sym (ends_last answer (x ∷ xs) d (omega arith)) ∙ ends in
    sym (count_parted (λ y. is_lt (answer y)) (x ∷ xs) n (omega arith)
    (λ k d low high. front-is_lt _ _ (parted k (n - 1) d (omega (arith, high)) (omega arith)) (last d)) (λ k d low high. absurd (omega (arith, low, high))))

-- if the last node's last item compares Less, the search ends in that node
last_named : {X : Type 0} (answer : X → Ordering) (ns : List (List X)) → 1 ≤ length ns
    → (2 ≤ length ns → All (λ n. 1 ≤ n) (node_lengths ns)) → IsParted answer (concat ns)
    → ends_less answer (node_at ns (length ns - 1)) ≡ true → length ns - 1 ≡ node_for answer ns
last_named answer ns some filled parted ends =
    let none : length ns - 1 < length ns - 1 → HoldsAt (λ n. ends_less answer n ≡ false) ns (length ns - 1) = λ lt. absurd (omega (arith, lt)) in
    elim (cases_lt 1 (length ns)) [
      | inl two ↦
          node_found answer ns (length ns - 1) some (omega arith) (λ k d low high.
          ends_until answer ns (filled (omega (arith, two))) parted (length ns - 1) (omega arith) ends k d low
          (omega (arith, high)))
          none
      | inr one ↦ node_found answer ns (length ns - 1) some (omega arith) (λ k d low high. absurd (omega (arith, high, one))) none
    ]

-- the search ends in the node that the code reads
pub read_named : {X Z : Type 0} (vs : List (Vec X Z)) (size : ℕ) (s : NodeList X) → node_list (vec_items vs) size ≡ s → AreNodeLengths (node_lengths (vec_items vs)) size
    → (answer : X → Ordering) (k : ℕ) (v : Vec X Z) → k ≡ node_for answer s.nodes → v ≡ get_or vs k v → NodeFound answer s k v.items
read_named {X} vs size s view is answer k v found = read_node vs size s view is answer k v (found ∙ ap (λ (t : NodeList X). node_for answer t.nodes) (sym view))

-- and in node k, if the last item of the node before it compares Less, and its own does not or it
-- is the last node
pub sought : {X Z : Type 0} (answer : X → Ordering) (vs : List (Vec X Z)) → (2 ≤ length vs → All (λ n. 1 ≤ n) (node_lengths (vec_items vs))) → IsParted answer (concat (vec_items vs))
    → (k : ℕ) → k < length vs → 1 ≤ k → (v : Vec X Z) → v ≡ get_or vs (k - 1) v → ends_less answer v.items ≡ true
    → (k + 1 < length vs → HoldsAt (λ n. ends_less answer n ≡ false) (vec_items vs) k)
    → k ≡ node_for answer (vec_items vs)
sought answer vs filled parted k inside some v at ends here =
    let ns = vec_items vs in let long = length-vec_items vs in
    let before : ends_less answer (get_or ns (k - 1) []) ≡ true = rw (node_read vs (k - 1) v (omega arith) at []) ends in
    node_found answer ns k (omega (arith, long)) (omega (arith, long))
    (λ j d low high. ends_until answer ns (filled (omega arith)) parted (k - 1) (omega (arith, long)) before j d low (omega (arith, high)))
    (λ lt. here (omega (arith, long, lt)))

pub read_last : {X Z : Type 0} (vs : List (Vec X Z)) (size : ℕ) (s : NodeList X) → node_list (vec_items vs) size ≡ s → AreNodeLengths (node_lengths (vec_items vs)) size
    → (answer : X → Ordering) → IsParted answer (items s) → (k : ℕ) (v : Vec X Z) → k ≡ length vs - 1 → v ≡ get_or vs k v → ends_less answer v.items ≡ true → NodeFound answer s k v.items
read_last {X} vs size s view is answer parted k v last at ends =
    let long = length-vec_items vs in
    let counted = length-map (vec_items vs) (λ n. length n) in
    let inside : k < length vs = omega (arith, last, is.some, long, counted) in
    let same : k ≡ length (vec_items vs) - 1 = omega (arith, last, long) in
    let there : ends_less answer (node_at (vec_items vs) (length (vec_items vs) - 1)) ≡ true = rw (← same) (rw (node_read vs k v inside at []) ends) in
    let named =
    last_named answer (vec_items vs) (omega (arith, is.some, counted))
    (λ two. is.filled (omega (arith, two, counted)))
    (subst (λ (t : NodeList X). IsParted answer (items t)) (sym view) parted) there in
    read_node vs size s view is answer k v (same ∙ named) at

-- and no item follows them
pub none_after : {X : Type 0} (answer : X → Ordering) (s : NodeList X) (k : ℕ) (n : List X) → NodeFound answer s k n
    → IsParted answer (items s) → ends_less answer n ≡ true
    → false ≡ equal_at answer (items s) (length (concat (take k s.nodes)) + length n)
none_after answer s k n here parted ends =
    let all = all_less answer n (node_parted answer s k n here parted) ends in
    sym (equal_none answer n (length n) (slice_get_past n (length n) (omega arith))) ∙ told answer s k n here parted (length n) all
