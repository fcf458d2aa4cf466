-- A node with other items, and one without its first items.
use Rattle.std.proofs.Common.{◌≡◌, ℕ, ◌+◌, ◌-◌, ◌<◌, ◌≤◌, List, [], ◌∷◌, ◌++◌, length, take}
use Rattle.std.proofs.Common.{drop, get_or, slice_set, vec_len, false, Ordering, refl, sym}
use Rattle.std.proofs.Common.{ap, ◌∙◌, subst, arith, length-append, length-drop, length-take}
use Rattle.std.specs.Cmp.{IsTotalOrder}
use Rattle.std.specs.List.{All, HoldsAt, fold}
use Rattle.std.specs.declared.cmp.Ordering.TheVariants.{Less}
use Rattle.std.specs.declared.vec.Vec.{Vec}
use Rattle.std.proofs.lemmas.List.{get_or-set_same, length-set, length-take-le, map-set, take-append-le}
use Rattle.std.proofs.lemmas.List.Elements.{All-set}
use Rattle.indexset_core.specs.Nodes.{concat, node_at, node_lengths, vec_items}
use Rattle.indexset_core.specs.Order.{IsAscending, put}
use Rattle.indexset_core.proofs.CallerLemmas.{joined_around, length-concat}
use Rattle.indexset_spine.specs.declared.spot.Spot.{Spot}
use Rattle.indexset_spine.specs.NodeList.{NodeList, node_list, items, AreNodeLengths, IsSpine, IsSpot, position_of}
use Rattle.indexset_spine.specs.Edits.{right_nodes, without_emptied}
use Rattle.indexset_spine.proofs.NodeListEdits.{joined_set, spine_of}
use Rattle.indexset_spine.proofs.NodeListSplits.{joined_right, spine_right}
use Rattle.indexset_spine.proofs.EditSteps.{node_is, node_len}
use Rattle.indexset_index.proofs.CallerLemmas.{length-at}
use Rattle.indexset_spine.proofs.PutLemmas.{IsGrown, fold_grown, node_up, put_filled}
use Rattle.indexset_spine.proofs.VecNodes.{vec_items-set}

-- the spot after the first items of the first node
abbrev pub behind : ℕ → Spot
behind count = record { node = 0; offset = count; found = false }

module _ {X : Type 0} where
  module _ (ns : List (List X)) (k : ℕ) (m : List X) (inside : k < length ns) where
    lengths_set : node_lengths (slice_set ns k m) ≡ slice_set (node_lengths ns) k (length m)
    lengths_set = map-set (λ (n : List X). length n) ns k m

    -- a node of other items
    pub lengths_grown : (more : ℕ) → length (node_at ns k) + more ≡ length m → node_lengths (slice_set ns k m) ≡ slice_set (node_lengths ns) k (get_or (node_lengths ns) k 0 + more)
    lengths_grown more e = lengths_set ∙ ap (slice_set (node_lengths ns) k) (omega (arith, e, length-at ns k inside))

    pub lengths_shrunk : (less : ℕ) → length m + less ≡ length (node_at ns k) → node_lengths (slice_set ns k m) ≡ slice_set (node_lengths ns) k (get_or (node_lengths ns) k 0 - less)
    lengths_shrunk less e = lengths_set ∙ ap (slice_set (node_lengths ns) k) (omega (arith, e, length-at ns k inside))

    cut_set : (size : ℕ) → 1 ≤ length m → length m ≤ size → AreNodeLengths (node_lengths ns) size → AreNodeLengths (node_lengths (slice_set ns k m)) size
    cut_set size some low is = rw lengths_set (record {
      two = is.two;
      some = omega (arith, is.some, length-set (node_lengths ns) k (length m));
      bounded = All-set (λ i. i ≤ size) (node_lengths ns) k (length m) low is.bounded;
      filled = λ more. All-set (λ i. 1 ≤ i) (node_lengths ns) k (length m) some (is.filled (omega (arith, more, length-set (node_lengths ns) k (length m))));
    })

    pub spine_set : (size total sum : ℕ) → 1 ≤ length m → length m ≤ size → IsSpine (node_lengths ns) size total
        → sum + length (node_at ns k) ≡ total + length m → IsSpine (node_lengths (slice_set ns k m)) size sum
    spine_set size total sum some low is e =
        let fs = concat (take k ns) in let bs = concat (drop (k + 1) ns) in let n = node_at ns k in
        let before = ap (λ (l : List X). length l) (joined_around ns k inside) in
        let after = ap (λ (l : List X). length l) (joined_set ns k m inside) in
        spine_of (slice_set ns k m) size sum (cut_set size some low is.is_cut)
        (omega (arith, e, is.total_is, length-concat ns, before, after, length-append fs (n ++ bs), length-append n bs, length-append fs (m ++ bs), length-append m bs))

  pub front_spot : (ns : List (List X)) (count : ℕ) → 0 < length ns → count ≤ length (node_at ns 0) → IsSpot ns (behind count)
  front_spot ns count some within = record { node_in = some; offset_in = within }

  pub front_gone : (ns : List (List X)) (count : ℕ) → 0 < length ns → without_emptied (slice_set ns 0 (drop count (node_at ns 0))) 0 ≡ right_nodes ns (behind count)
  unfolding right_nodes
  front_gone [] count some = absurd (omega arith)
  front_gone (n ∷ ns) count some = refl

  -- the first items of the first node are those of the whole list
  pub front_taken : (ns : List (List X)) (count : ℕ) → 0 < length ns → count ≤ length (node_at ns 0) → take count (node_at ns 0) ≡ take count (concat ns)
  front_taken [] count some within = absurd (omega arith)
  front_taken (n ∷ ns) count some within = sym (take-append-le count n (concat ns) within)

-- the k-th node u, which takes the first items of v, the first node of another spine, and becomes
-- w, while z remains of v
module _ {X Z : Type 0} (cmp : X → X → Ordering) (o : IsTotalOrder cmp) (vs ws : List (Vec X Z)) (k count : ℕ) (u w v z : Vec X Z) where
  abbrev ns : List (List X)
  ns = vec_items vs

  abbrev os : List (List X)
  os = vec_items ws

  pub record Merges : Type 0 where
    pub inside : k < length ns
    pub node : u ≡ get_or vs k u
    pub some_node : 0 < length os
    pub first : v ≡ get_or ws 0 v
    pub order : IsAscending cmp (concat ns)
    pub some : 0 < count
    pub within : count ≤ length (node_at os 0)
    pub merged : w.items ≡ fold (put cmp) u.items (take count v.items)
    pub rest : z.items ≡ drop count v.items

  abbrev taken : List X
  taken = take count (concat os)

  abbrev new : List X
  new = fold (put cmp) (node_at ns k) taken

  module _ (is : Merges) where
    taken_from : take count v.items ≡ taken
    taken_from = ap (take count) (sym (node_is ws 0 v is.some_node is.first)) ∙ front_taken os count is.some_node is.within

    new_is : w.items ≡ new
    new_is = is.merged ∙ (ap (λ l. fold (put cmp) l (take count v.items)) (sym (node_is vs k u is.inside is.node)) ∙ ap (fold (put cmp) (node_at ns k)) taken_from)

    pub writes : vec_items (slice_set vs k w) ≡ slice_set ns k new
    writes = vec_items-set vs k w ∙ ap (slice_set ns k) new_is

    taken_length : length taken ≡ count
    taken_length = ap (λ (l : List X). length l) (sym (front_taken os count is.some_node is.within)) ∙ length-take-le count (node_at os 0) is.within

    pub grown : IsGrown cmp o (node_at ns k) count new
    grown = subst (λ i. IsGrown cmp o (node_at ns k) i new) taken_length (fold_grown cmp o (node_at ns k) taken (node_up ns k is.inside cmp is.order))

    pub filled : 0 < length new
    filled = put_filled cmp o (node_at ns k) taken (omega (arith, taken_length, is.some))

    pub length_before : (u' : Vec X Z) → u' ≡ get_or vs k u' → vec_len u' ≡ length (node_at ns k)
    length_before u' e = sym (node_len vs k u' is.inside e)

    pub length_after : (w' : Vec X Z) → w' ≡ get_or (slice_set vs k w) k w' → vec_len w' ≡ length new
    length_after w' e =
        let there : k < length (vec_items (slice_set vs k w)) = omega (arith, is.inside, ap (λ (l : List (List X)). length l) writes, length-set ns k new) in
        sym (node_len (slice_set vs k w) k w' there e) ∙ (ap (λ (l : List (List X)). length (node_at l k)) writes ∙ ap (λ (l : List X). length l) (get_or-set_same ns k new [] is.inside))

    -- the index and the sum of the lengths, with as many more as the node has
    module _ (more : ℕ) (more_is : more + length (node_at ns k) ≡ length new) where
      pub lengths_after : slice_set (node_lengths ns) k (get_or (node_lengths ns) k 0 + more) ≡ node_lengths (vec_items (slice_set vs k w))
      lengths_after = sym (ap node_lengths writes ∙ lengths_grown ns k new is.inside more (omega (arith, more_is)))

      pub spine_after : (size total : ℕ) → length (node_at ns k) + count ≤ size → IsSpine (node_lengths ns) size total → IsSpine (node_lengths (vec_items (slice_set vs k w))) size (total + more)
      spine_after size total room spine = rw writes (spine_set ns k new is.inside size total (total + more) filled (omega (arith, room, grown.most)) spine (omega (arith, more_is)))

    -- the other spine's nodes, and then without the first if it is empty
    pub other_writes : vec_items (slice_set ws 0 z) ≡ slice_set os 0 (drop count (node_at os 0))
    other_writes = vec_items-set ws 0 z ∙ ap (slice_set os 0) (is.rest ∙ ap (drop count) (sym (node_is ws 0 v is.some_node is.first)))

    pub other_lengths : slice_set (node_lengths os) 0 (get_or (node_lengths os) 0 0 - count) ≡ node_lengths (vec_items (slice_set ws 0 z))
    other_lengths = sym (ap node_lengths other_writes ∙ lengths_shrunk os 0 (drop count (node_at os 0)) is.some_node count (omega (arith, is.within, length-drop count (node_at os 0))))

    pub other_after : (rest : List (List X)) → rest ≡ without_emptied (vec_items (slice_set ws 0 z)) 0 → rest ≡ right_nodes os (behind count)
    other_after rest e = e ∙ (ap (λ l. without_emptied l 0) other_writes ∙ front_gone os count is.some_node)

    pub other_some : 0 < length (vec_items (slice_set ws 0 z))
    other_some = omega (arith, ap (λ (l : List (List X)). length l) other_writes, length-set os 0 (drop count (node_at os 0)), is.some_node)

    pub count_within : (size total : ℕ) → IsSpine (node_lengths os) size total → count ≤ total
    count_within size total spine = omega (arith, taken_length, length-take count (concat os), length-concat os, spine.total_is)

    position_is : position_of os (behind count) ≡ count
    position_is = omega arith

    pub other_items : (rest : List (List X)) → rest ≡ without_emptied (vec_items (slice_set ws 0 z)) 0 → concat rest ≡ drop count (concat os)
    other_items rest e = ap concat (other_after rest e) ∙ (joined_right os (behind count) (front_spot os count is.some_node is.within) ∙ ap (λ i. drop i (concat os)) position_is)

    pub other_spine : (rest : List (List X)) → rest ≡ without_emptied (vec_items (slice_set ws 0 z)) 0
        → (size total : ℕ) → IsSpine (node_lengths os) size total → IsSpine (node_lengths rest) size (total - count)
    other_spine rest e size total spine =
        subst (λ i. IsSpine (node_lengths rest) size (total - i)) position_is (rw (other_after rest e) (spine_right os (behind count) (front_spot os count is.some_node is.within) size total spine))

-- what is below the last item of a node, as the code reads both
pub below_read : {X Z : Type 0} (cmp : X → X → Ordering) (s t : NodeList X) (ns : List (List X)) (ws : List (Vec X Z)) (n m k count : ℕ) (node from : List X)
    → node_list ns n ≡ s → node_list (vec_items ws) m ≡ t → node_at ns k ≡ node → 0 < length (vec_items ws) → node_at (vec_items ws) 0 ≡ from → count ≤ length from
    → All (λ x. HoldsAt (λ l. cmp x l ≡ Less) node (length node - 1)) (take count from)
    → All (λ x. HoldsAt (λ l. cmp x l ≡ Less) (node_at s.nodes k) (length (node_at s.nodes k) - 1)) (take count (items t))
below_read {X} cmp s t ns ws n m k count node from view view' node_is some from_is within below =
    let this : node_at s.nodes k ≡ node = sym (ap (λ (u : NodeList X). node_at u.nodes k) view) ∙ node_is in
    let those : take count (items t) ≡ take count from =
    sym (ap (λ (u : NodeList X). take count (items u)) view')
    ∙ (sym (front_taken (vec_items ws) count some (omega (arith, within, ap (λ (l : List X). length l) from_is)))
    ∙ ap (take count) from_is) in
    rw (this, those) below
