-- Nodes whose items are clones of those of other nodes, place by place.
use Rattle.std.proofs.Common.{◌≡◌, ℕ, ◌+◌, ◌<◌, ◌≤◌, List, [], ◌∷◌, ◌++◌, length, take, get_or, refl, sym, subst, arith}
use Rattle.std.proofs.lemmas.List.{map_push, take_all}
use Rattle.std.proofs.lemmas.List.Elements.{all_zip_more, length_all_zip, same_from_all_zip}
use Rattle.std.specs.List.{AllZip}
use Rattle.std.specs.declared.vec.Vec.{Vec}
use Rattle.indexset_core.specs.Nodes.{concat, node_lengths, vec_items}
use Rattle.indexset_spine.proofs.VecNodes.{length-vec_items, node_read}

module _ {T : Type 0} (C : T → T → Type 0) where
  -- if clones are identical to their sources, so are the nodes
  pub copies_same : ((x y : T) → C x y → y ≡ x) → (ns ms : List (List T)) → AllZip (AllZip C) ns ms → ms ≡ ns
  copies_same same ns ms copied = same_from_all_zip (AllZip C) ns ms copied (λ n m cloned. same_from_all_zip C n m cloned same)

  -- they are as long
  pub copies_lengths : (ns ms : List (List T)) → AllZip (AllZip C) ns ms → node_lengths ms ≡ node_lengths ns
  copies_lengths [] [] copied = refl
  copies_lengths [] (m ∷ ms) copied = absurd copied
  copies_lengths (n ∷ ns) [] copied = absurd copied
  copies_lengths (n ∷ ns) (m ∷ ms) copied = rw (length_all_zip C n m copied.0, copies_lengths ns ms copied.1) refl

  -- a node more, of clones of the next one
  pub copies_more : {Z : Type 0} (ws vs : List (Vec T Z)) (i : ℕ) (u v : Vec T Z) → i < length vs → u ≡ get_or vs i u → AllZip C u.items v.items
      → AllZip (AllZip C) (take i (vec_items vs)) (vec_items ws) → AllZip (AllZip C) (take (i + 1) (vec_items vs)) (vec_items (ws ++ v ∷ []))
  copies_more ws vs i u v h at cloned copied =
      subst (AllZip (AllZip C) (take (i + 1) (vec_items vs))) (sym (map_push (λ w. w.items) ws v))
      (all_zip_more (AllZip C) (vec_items vs) (vec_items ws) i u.items v.items (omega (arith, h, length-vec_items vs)) (sym (node_read vs i u h at u.items)) copied cloned)

  -- all of them
  pub copies_whole : {Z : Type 0} (vs : List (Vec T Z)) (ms : List (List T)) (i : ℕ) → length vs ≤ i → AllZip (AllZip C) (take i (vec_items vs)) ms → AllZip (AllZip C) (vec_items vs) ms
  copies_whole vs ms i h copied = subst (λ ns. AllZip (AllZip C) ns ms) (take_all i (vec_items vs) (omega (arith, h, length-vec_items vs))) copied

  cloned_both : (xs ys zs ws : List T) → AllZip C xs ys → AllZip C zs ws → AllZip C (xs ++ zs) (ys ++ ws)
  cloned_both [] [] zs ws front back = back
  cloned_both [] (y ∷ ys) zs ws front back = absurd front
  cloned_both (x ∷ xs) [] zs ws front back = absurd front
  cloned_both (x ∷ xs) (y ∷ ys) zs ws front back = (front.0, cloned_both xs ys zs ws front.1 back)

  -- their items, one after another
  pub copies_joined : (ns ms : List (List T)) → AllZip (AllZip C) ns ms → AllZip C (concat ns) (concat ms)
  copies_joined [] [] copied = tt
  copies_joined [] (m ∷ ms) copied = absurd copied
  copies_joined (n ∷ ns) [] copied = absurd copied
  copies_joined (n ∷ ns) (m ∷ ms) copied = cloned_both n m (concat ns) (concat ms) copied.0 (copies_joined ns ms copied.1)
