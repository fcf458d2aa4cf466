-- Removals from the nodes, as the code stores them.
use Rattle.std.proofs.Common.{◌≡◌, ℕ, suc, ◌+◌, ◌<◌, ◌≤◌, ◌==◌, ◌&&◌, true, false, List, []}
use Rattle.std.proofs.Common.{◌++◌, length, take, drop, get_or, slice_set, slice_get, Some}
use Rattle.std.proofs.Common.{nat_lt, if◌then◌else◌, refl, sym, ap, ◌∙◌, subst, arith}
use Rattle.std.proofs.lemmas.Bool.Decides.{nat_tests}
use Rattle.std.proofs.lemmas.List.{length-set, get_or-set_same, take-set, drop-set-lt, take-map, drop-map, map-append}
use Rattle.std.proofs.lemmas.List.Edits.{length-remove}
use Rattle.std.proofs.lemmas.Option.{slice_get_read}
use Rattle.std.specs.List.{remove}
use Rattle.std.specs.Vec.{with_item}
use Rattle.std.specs.declared.vec.Vec.{Vec}
use Rattle.indexset_spine.specs.declared.spot.Spot.{Spot}
use Rattle.indexset_core.specs.Nodes.{node_at, concat, vec_items}
use Rattle.indexset_spine.specs.NodeList.{NodeList, node_list, IsItemSpot, without_item, with_replaced, position_of}
use Rattle.indexset_spine.specs.Edits.{without_emptied}
use Rattle.indexset_spine.proofs.VecNodes.{vec_items-set}
use Rattle.indexset_spine.proofs.NodeListEdits.{item_at_spot}
use Rattle.indexset_spine.proofs.EditSteps.{node_is, item_spot_in}

zero_or_one : (a b : ℕ) → a + 1 ≡ b → (a == 0) ≡ (b == 1)
zero_or_one a b e = grind (arith, nat_tests)

module _ {X : Type 0} where
  pub emptied_goes : (ns : List (List X)) (k : ℕ) → length (node_at ns k) ≡ 0 → 1 < length ns → without_emptied ns k ≡ remove ns k
  unfolding without_emptied
  emptied_goes ns k none more =
      let t : (length (node_at ns k) == 0) ≡ true = grind (arith, nat_tests) in
      let t' : nat_lt 1 (length ns) ≡ true = grind (arith, nat_tests) in
      rw (t, t') refl

  pub only_stays : (ns : List (List X)) (k : ℕ) → length ns ≤ 1 → without_emptied ns k ≡ ns
  unfolding without_emptied
  only_stays ns k one =
      let t' : nat_lt 1 (length ns) ≡ false = grind (arith, nat_tests) in
      elim (length (node_at ns k) == 0) as (λ b. (if b && nat_lt 1 (length ns) then remove ns k else ns) ≡ ns) [ true ↦ rw t' refl | false ↦ refl ]

  pub filled_stays : (ns : List (List X)) (k : ℕ) → 0 < length (node_at ns k) → without_emptied ns k ≡ ns
  unfolding without_emptied
  filled_stays ns k some =
      let t : (length (node_at ns k) == 0) ≡ false = grind (arith, nat_tests) in rw t refl

  remove-set : (ns : List (List X)) (k : ℕ) (m : List X) → remove (slice_set ns k m) k ≡ remove ns k
  remove-set ns k m = ap (λ l. l ++ drop (suc k) (slice_set ns k m)) (take-set ns k m) ∙ ap (λ l. take k ns ++ l) (drop-set-lt (suc k) ns k m (omega arith))

  -- an item is removed, and then the node if it is empty
  pub item_goes : (ns : List (List X)) (s : Spot) → IsItemSpot ns s → without_emptied (slice_set ns s.node (remove (node_at ns s.node) s.offset)) s.node ≡ without_item ns s
  unfolding without_emptied without_item
  item_goes ns s h =
      let n = node_at ns s.node in let m = remove n s.offset in
      let at : node_at (slice_set ns s.node m) s.node ≡ m = get_or-set_same ns s.node m [] h.node_in in
      let less : length m + 1 ≡ length n = length-remove n s.offset h.offset_in in
      rw (at, length-set ns s.node m, remove-set ns s.node m, zero_or_one (length m) (length n) less) refl

module _ {X Z : Type 0} where
  pub vec_items-remove : (vs : List (Vec X Z)) (k : ℕ) → vec_items (remove vs k) ≡ remove (vec_items vs) k
  vec_items-remove vs k =
      let held : Vec X Z → List X = λ v. v.items in
      map-append held (take k vs) (drop (suc k) vs)
      ∙ (ap (λ l. l ++ vec_items (drop (suc k) vs)) (sym (take-map held k vs)) ∙ ap (λ l. take k (vec_items vs) ++ l) (sym (drop-map held (suc k) vs)))

  -- the nodes after the removal of the item at the spot
  pub item_out : (vs : List (Vec X Z)) (s : Spot) (u w : Vec X Z) → IsItemSpot (vec_items vs) s → u ≡ get_or vs s.node u → w.items ≡ remove u.items s.offset
      → vec_items (slice_set vs s.node w) ≡ slice_set (vec_items vs) s.node (remove (node_at (vec_items vs) s.node) s.offset)
  item_out vs s u w h at is =
      vec_items-set vs s.node w ∙ ap (λ n. slice_set (vec_items vs) s.node n) (is ∙ ap (λ n. remove n s.offset) (sym (node_is vs s.node u h.node_in at)))

  pub item_taken : (vs : List (Vec X Z)) (s : Spot) (u w : Vec X Z) → IsItemSpot (vec_items vs) s → u ≡ get_or vs s.node u → w.items ≡ remove u.items s.offset
      → without_emptied (vec_items (slice_set vs s.node w)) s.node ≡ without_item (vec_items vs) s
  item_taken vs s u w h at is =
      ap (λ ms. without_emptied ms s.node) (item_out vs s u w h at is) ∙ item_goes (vec_items vs) s h

  -- w replaces the item at the spot
  pub respot_writes : (vs : List (Vec X Z)) (size : ℕ) (t : NodeList X) (s : Spot) (u : Vec X Z) (w : X) → node_list (vec_items vs) size ≡ t → IsItemSpot t.nodes s → u ≡ get_or vs s.node u
      → vec_items (slice_set vs s.node (with_item u s.offset w)) ≡ with_replaced t.nodes s w
  unfolding with_replaced
  respot_writes vs size t s u w e h at =
      let here = item_spot_in (vec_items vs) size t s e h in
      vec_items-set vs s.node (with_item u s.offset w)
      ∙ (ap (λ n. slice_set (vec_items vs) s.node (slice_set n s.offset w)) (sym (node_is vs s.node u here.node_in at))
      ∙ ap (λ (t : NodeList X). slice_set t.nodes s.node (slice_set (node_at t.nodes s.node) s.offset w)) e)

  pub item_read : (vs : List (Vec X Z)) (size : ℕ) (t : NodeList X) (s : Spot) (u : Vec X Z) (x : X)
      → node_list (vec_items vs) size ≡ t → IsItemSpot t.nodes s → u ≡ get_or vs s.node u
      → x ≡ get_or u.items s.offset x
      → slice_get (concat t.nodes) (position_of t.nodes s) ≡ Some x
  item_read vs size t s u x e h at is =
      let here = item_spot_in (vec_items vs) size t s e h in
      let node = node_is vs s.node u here.node_in at in
      item_at_spot t.nodes s h
      ∙ (ap (λ (t : NodeList X). slice_get (node_at t.nodes s.node) s.offset) (sym e)
      ∙ (ap (λ n. slice_get n s.offset) node ∙ slice_get_read u.items (length u.items) s.offset x refl (subst (λ (n : List X). s.offset < length n) node here.offset_in) is))
