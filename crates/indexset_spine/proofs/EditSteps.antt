-- The steps of an edit, on the nodes as the code stores them.
use Rattle.std.proofs.Common.{◌≡◌, ℕ, suc, ◌+◌, ◌-◌, ◌/◌, ◌<◌, ◌≤◌, List, [], ◌∷◌, ◌++◌, length, take}
use Rattle.std.proofs.Common.{drop, get_or, slice_set, nat_lt, true, false, Option, Some, None, refl, sym}
use Rattle.std.proofs.Common.{ap, ◌∙◌, subst, arith, add-one, append_assoc, length-take, length-drop}
use Rattle.std.proofs.lemmas.Bool.Decides.{nat_tests}
use Rattle.std.proofs.lemmas.List.{length-set, length-append, set-get_or, set_split, set_at, get_or_at, get_or-set_same, drop_at, take_at, length-take-le}
use Rattle.std.proofs.lemmas.List.Edits.{get_or-insert_at, get_or-insert_below}
use Rattle.std.specs.List.{insert, splice, HoldsAt}
use Rattle.std.specs.Option.{IfSome}
use Rattle.std.specs.Vec.{vec_len, vec_capacity}
use Rattle.std.specs.declared.vec.Vec.{Vec}
use Rattle.indexset_spine.specs.declared.spot.Spot.{Spot}
use Rattle.indexset_core.specs.Nodes.{node_at, vec_items}
use Rattle.indexset_spine.specs.NodeList.{NodeList, node_list, IsSpot, IsItemSpot, with_inserted, parts_with}
use Rattle.indexset_spine.specs.Edits.{with_item_in, with_halved}
use Rattle.indexset_spine.proofs.VecNodes.{length-vec_items, vec_items-set, vec_items-splice, node_read}

-- a node that is split in two is two nodes
module _ {A : Type 0} (ns : List A) (k : ℕ) (l r : A) (h : k < length ns) where
  before : length (take k ns) ≡ k
  before = length-take-le k ns (omega arith)

  pub insert_after : insert (slice_set ns k l) (k + 1) r ≡ splice ns k (k + 1) (l ∷ r ∷ [])
  insert_after =
      let split : slice_set ns k l ≡ (take k ns ++ l ∷ []) ++ drop (k + 1) ns =
      rw add-one (set_split ns k l h ∙ sym (append_assoc (take k ns) (l ∷ []) (drop (suc k) ns))) in
      let long : length (take k ns ++ l ∷ []) ≡ k + 1 = omega (arith, before, length-append (take k ns) (l ∷ [])) in
      ap (λ ms. take (k + 1) ms ++ r ∷ drop (k + 1) ms) split
      ∙ (ap (λ t. t ++ r ∷ drop (k + 1) ((take k ns ++ l ∷ []) ++ drop (k + 1) ns)) (take_at (take k ns ++ l ∷ []) (drop (k + 1) ns) (k + 1) long)
      ∙ (ap (λ t. (take k ns ++ l ∷ []) ++ r ∷ t) (drop_at (take k ns ++ l ∷ []) (drop (k + 1) ns) (k + 1) long)
      ∙ append_assoc (take k ns) (l ∷ []) (r ∷ drop (k + 1) ns)))

  pub get_left : (d : A) → get_or (splice ns k (k + 1) (l ∷ r ∷ [])) k d ≡ l
  get_left d = get_or_at (take k ns) l (r ∷ drop (k + 1) ns) d k before

  set_left : (m : A) → slice_set (splice ns k (k + 1) (l ∷ r ∷ [])) k m ≡ splice ns k (k + 1) (m ∷ r ∷ [])
  set_left m = set_at (take k ns) l (r ∷ drop (k + 1) ns) m k before

  pub get_right : (d : A) → get_or (splice ns k (k + 1) (l ∷ r ∷ [])) (k + 1) d ≡ r
  get_right d =
      ap (λ ms. get_or ms (k + 1) d) (sym (append_assoc (take k ns) (l ∷ []) (r ∷ drop (k + 1) ns)))
      ∙ get_or_at (take k ns ++ l ∷ []) r (drop (k + 1) ns) d (k + 1) (omega (arith, before, length-append (take k ns) (l ∷ [])))

  set_right : (m : A) → slice_set (splice ns k (k + 1) (l ∷ r ∷ [])) (k + 1) m ≡ splice ns k (k + 1) (l ∷ m ∷ [])
  set_right m =
      ap (λ ms. slice_set ms (k + 1) m) (sym (append_assoc (take k ns) (l ∷ []) (r ∷ drop (k + 1) ns)))
      ∙ (set_at (take k ns ++ l ∷ []) r (drop (k + 1) ns) m (k + 1) (omega (arith, before, length-append (take k ns) (l ∷ [])))
      ∙ append_assoc (take k ns) (l ∷ []) (m ∷ drop (k + 1) ns))

module _ {X : Type 0} where
  pub put_short : (size : ℕ) (ns : List (List X)) (s : Spot) (v : X) → s.node < length ns → length (node_at ns s.node) < size → with_item_in ns s v ≡ with_inserted size ns s v
  unfolding with_item_in with_inserted parts_with
  put_short size ns s v h short =
      let t : nat_lt (length (node_at ns s.node)) size ≡ true = grind (arith, nat_tests) in
      rw (t, add-one) (set_split ns s.node (insert (node_at ns s.node) s.offset v) h)

  put_right : (ns : List (List X)) (s : Spot) (half : ℕ) (v : X) → s.node < length ns → half ≡ length (node_at ns s.node) / 2 → half < s.offset
      → with_item_in
      (splice ns s.node (s.node + 1) (take half (node_at ns s.node) ∷ drop half (node_at ns s.node) ∷ []))
      record { node = s.node + 1; offset = s.offset - half; found = s.found } v
      ≡ with_inserted (length (node_at ns s.node)) ns s v
  unfolding with_item_in with_inserted parts_with
  put_right ns s half v h is above =
      let n = node_at ns s.node in
      let t : nat_lt (length n) (length n) ≡ false = grind (arith, nat_tests) in
      let t' : nat_lt (length n / 2) s.offset ≡ true = grind (arith, nat_tests) in
      rw (t, t', ← is)
      (ap (λ m. slice_set (splice ns s.node (s.node + 1) (take half n ∷ drop half n ∷ [])) (s.node + 1) (insert m (s.offset - half) v)) (get_right ns s.node (take half n) (drop half n) h [])
      ∙ set_right ns s.node (take half n) (drop half n) h (insert (drop half n) (s.offset - half) v))

  put_left : (ns : List (List X)) (s : Spot) (half : ℕ) (v : X) → s.node < length ns → half ≡ length (node_at ns s.node) / 2 → s.offset ≤ half
      → with_item_in (splice ns s.node (s.node + 1) (take half (node_at ns s.node) ∷ drop half (node_at ns s.node) ∷ [])) s v ≡ with_inserted (length (node_at ns s.node)) ns s v
  unfolding with_item_in with_inserted parts_with
  put_left ns s half v h is upto =
      let n = node_at ns s.node in
      let t : nat_lt (length n) (length n) ≡ false = grind (arith, nat_tests) in
      let t' : nat_lt (length n / 2) s.offset ≡ false = grind (arith, nat_tests) in
      rw (t, t', ← is)
      (ap (λ m. slice_set (splice ns s.node (s.node + 1) (take half n ∷ drop half n ∷ [])) s.node (insert m s.offset v)) (get_left ns s.node (take half n) (drop half n) h [])
      ∙ set_left ns s.node (take half n) (drop half n) h (insert (take half n) s.offset v))

  -- a node that is longer than the size is split as a full one is
  pub inserted_full : (size : ℕ) (ns : List (List X)) (s : Spot) (v : X) → size ≤ length (node_at ns s.node) → with_inserted (length (node_at ns s.node)) ns s v ≡ with_inserted size ns s v
  unfolding with_inserted parts_with
  inserted_full size ns s v full =
      let t : nat_lt (length (node_at ns s.node)) (length (node_at ns s.node)) ≡ false = grind (arith, nat_tests) in
      let t' : nat_lt (length (node_at ns s.node)) size ≡ false = grind (arith, nat_tests) in
      rw (t, t') refl

module _ {X Z : Type 0} where
  pub put_writes : (vs : List (Vec X Z)) (s : Spot) (u w : Vec X Z) (v : X) → s.node < length (vec_items vs)
      → u ≡ get_or vs s.node u → w.items ≡ insert u.items s.offset v
      → vec_items (slice_set vs s.node w) ≡ with_item_in (vec_items vs) s v
  unfolding with_item_in
  put_writes vs s u w v h at is =
      let inside : s.node < length vs = omega (arith, length-vec_items vs) in
      vec_items-set vs s.node w
      ∙ ap (λ n. slice_set (vec_items vs) s.node n) (is ∙ ap (λ n. insert n s.offset v) (sym (node_read vs s.node u inside at [])))

  -- a node whose items stay
  pub lists_kept : (vs : List (Vec X Z)) (k : ℕ) (u w : Vec X Z) → k < length (vec_items vs) → u ≡ get_or vs k u → w.items ≡ u.items → vec_items (slice_set vs k w) ≡ vec_items vs
  lists_kept vs k u w h at is =
      let inside : k < length vs = omega (arith, length-vec_items vs) in
      vec_items-set vs k w ∙ (ap (λ n. slice_set (vec_items vs) k n) (is ∙ sym (node_read vs k u inside at [])) ∙ set-get_or (vec_items vs) k [])

  pub node_is : (vs : List (Vec X Z)) (k : ℕ) (u : Vec X Z) → k < length (vec_items vs) → u ≡ get_or vs k u → node_at (vec_items vs) k ≡ u.items
  node_is vs k u h at = node_read vs k u (omega (arith, length-vec_items vs)) at []

  pub node_len : (vs : List (Vec X Z)) (k : ℕ) (u : Vec X Z) → k < length (vec_items vs) → u ≡ get_or vs k u → length (node_at (vec_items vs) k) ≡ vec_len u
  node_len vs k u h at = ap (λ (n : List X). length n) (node_is vs k u h at) ∙ sym u.ok.0

  -- a spot in a node that has room
  pub room_puts : (vs : List (Vec X Z)) (s : Spot) (u w : Vec X Z) (size : ℕ) (v : X)
      → s.node < length (vec_items vs) → u ≡ get_or vs s.node u → w.items ≡ u.items
      → length (node_at (vec_items vs) s.node) < size
      → with_item_in (vec_items (slice_set vs s.node w)) s v ≡ with_inserted size (vec_items vs) s v
  room_puts vs s u w size v h at is short =
      ap (λ ns. with_item_in ns s v) (lists_kept vs s.node u w h at is) ∙ put_short size (vec_items vs) s v h short

  -- the nodes are vs, u among them, which is split into its halves w and r
  pub record IsHalved (ns : List (List X)) (vs : List (Vec X Z)) (s : Spot) (u w r : Vec X Z) : Type 0 where
    pub same : vec_items vs ≡ ns
    pub node_in : s.node < length (vec_items vs)
    pub node : u ≡ get_or vs s.node u
    pub left : w.items ≡ take (length u.items / 2) u.items
    pub right : r.items ≡ drop (length u.items / 2) u.items

  module _ {ns : List (List X)} {vs : List (Vec X Z)} {s : Spot} {u w r : Vec X Z} (halved : IsHalved ns vs s u w r) where
    half_is : vec_len w ≡ length u.items / 2
    half_is = w.ok.0 ∙ (ap (λ (l : List X). length l) halved.left ∙ length-take-le (length u.items / 2) u.items (omega arith))

    pub half_of : vec_len w ≡ length (node_at ns s.node) / 2
    half_of = half_is ∙ (ap (λ n. length n / 2) (sym (node_is vs s.node u halved.node_in halved.node)) ∙ ap (λ ms. length (node_at ms s.node) / 2) halved.same)

    inside : s.node < length ns
    inside = subst (λ (ms : List (List X)). s.node < length ms) halved.same halved.node_in

    cut_lists : vec_items (insert (slice_set vs s.node w) (s.node + 1) r) ≡ splice ns s.node (s.node + 1) (take (vec_len w) (node_at ns s.node) ∷ drop (vec_len w) (node_at ns s.node) ∷ [])
    cut_lists =
        let h = halved.node_in in
        ap vec_items (insert_after vs s.node w r (omega (arith, length-vec_items vs)))
        ∙ (vec_items-splice vs (w ∷ r ∷ []) s.node (s.node + 1)
        ∙ (ap (λ l. splice (vec_items vs) s.node (s.node + 1) (l ∷ r.items ∷ [])) halved.left
        ∙ (ap (λ l. splice (vec_items vs) s.node (s.node + 1) (take (length u.items / 2) u.items ∷ l ∷ [])) halved.right
        ∙ (ap (λ i. splice (vec_items vs) s.node (s.node + 1) (take i u.items ∷ drop i u.items ∷ [])) (sym half_is)
        ∙ (ap (λ n. splice (vec_items vs) s.node (s.node + 1) (take (vec_len w) n ∷ drop (vec_len w) n ∷ [])) (sym (node_is vs s.node u h halved.node))
        ∙ ap (λ ms. splice ms s.node (s.node + 1) (take (vec_len w) (node_at ms s.node) ∷ drop (vec_len w) (node_at ms s.node) ∷ [])) halved.same)))))

    pub halved_lists : vec_items (insert (slice_set vs s.node w) (s.node + 1) r) ≡ with_halved ns s.node
    unfolding with_halved
    halved_lists = cut_lists ∙ ap (λ i. splice ns s.node (s.node + 1) (take i (node_at ns s.node) ∷ drop i (node_at ns s.node) ∷ [])) half_of

    pub right_puts : (half : ℕ) → half ≡ vec_len w → (v : X) → half < s.offset
        → with_item_in (vec_items (insert (slice_set vs s.node w) (s.node + 1) r))
        record { node = s.node + 1; offset = s.offset - half; found = s.found } v
        ≡ with_inserted (length (node_at ns s.node)) ns s v
    right_puts half is v above =
        rw is
        (ap (λ ms. with_item_in ms record { node = s.node + 1; offset = s.offset - vec_len w; found = s.found } v) cut_lists
        ∙ put_right ns s (vec_len w) v inside half_of (rw is at above))

    pub left_puts : (v : X) → s.offset ≤ vec_len w → with_item_in (vec_items (insert (slice_set vs s.node w) (s.node + 1) r)) s v ≡ with_inserted (length (node_at ns s.node)) ns s v
    left_puts v upto = ap (λ ms. with_item_in ms s v) cut_lists ∙ put_left ns s (vec_len w) v inside half_of upto

    two_in : 2 ≤ length (node_at ns s.node) → 2 ≤ vec_len u
    two_in two = omega (arith, two, node_len vs s.node u halved.node_in halved.node, ap (λ (ms : List (List X)). length (node_at ms s.node)) halved.same)

    pub right_room : 2 ≤ length (node_at ns s.node) → length u.items ≤ vec_capacity r → HoldsAt (λ v. vec_len v < vec_capacity v) (insert (slice_set vs s.node w) (s.node + 1) r) (s.node + 1)
    right_room two room d =
        let long = length-set vs s.node w in
        let e : get_or (insert (slice_set vs s.node w) (s.node + 1) r) (s.node + 1) d ≡ r =
        get_or-insert_at (slice_set vs s.node w) (s.node + 1) r d
        (omega (arith, halved.node_in, length-vec_items vs)) in
        let n : vec_len r ≡ length (drop (length u.items / 2) u.items) = r.ok.0 ∙ ap (λ (l : List X). length l) halved.right in
        subst (λ (v : Vec X Z). vec_len v < vec_capacity v) (sym e) (omega (arith, n, room, two_in two, u.ok, length-drop (length u.items / 2) u.items))

    pub left_room : 2 ≤ length (node_at ns s.node) → length u.items ≤ vec_capacity w → HoldsAt (λ v. vec_len v < vec_capacity v) (insert (slice_set vs s.node w) (s.node + 1) r) s.node
    left_room two room d =
        let h = halved.node_in in
        let long = length-set vs s.node w in
        let e : get_or (insert (slice_set vs s.node w) (s.node + 1) r) s.node d ≡ w =
        get_or-insert_below (slice_set vs s.node w) (s.node + 1) r d s.node (omega arith) (omega (arith, length-vec_items vs)) ∙ get_or-set_same vs s.node w d (omega (arith, length-vec_items vs)) in
        let n : vec_len w ≡ length (take (length u.items / 2) u.items) = w.ok.0 ∙ ap (λ (l : List X). length l) halved.left in
        subst (λ (v : Vec X Z). vec_len v < vec_capacity v) (sym e) (omega (arith, n, room, two_in two, u.ok, length-take (length u.items / 2) u.items))

-- a spot, in the nodes as the code stores them
module _ {X : Type 0} where
  pub spot_in : (ns : List (List X)) (n : ℕ) (t : NodeList X) (s : Spot) → node_list ns n ≡ t → IsSpot t.nodes s → IsSpot ns s
  spot_in ns n t s e h = subst (λ (t : NodeList X). IsSpot t.nodes s) (sym e) h

  pub item_spot_in : (ns : List (List X)) (n : ℕ) (t : NodeList X) (s : Spot) → node_list ns n ≡ t → IsItemSpot t.nodes s → IsItemSpot ns s
  item_spot_in ns n t s e h = subst (λ (t : NodeList X). IsItemSpot t.nodes s) (sym e) h

pub some_is : {T : Type 0} (o : Option T) (x : T) (P : T → Type 0) → o ≡ Some x → P x → IfSome o P
some_is (Some y) x P e p = let same : x ≡ y = cc in subst P same p
some_is None x P e p = tt
