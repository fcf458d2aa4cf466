-- The nodes split in two at a spot, as the code stores them.
use Rattle.std.proofs.Common.{◌≡◌, ℕ, ◌+◌, ◌<◌, List, [], ◌∷◌, ◌++◌, length, take, drop, get_or, slice_set, sym, ap, ◌∙◌, arith}
use Rattle.std.proofs.lemmas.List.{drop-set-lt, take_more_set, take-map, drop-map, map_push}
use Rattle.std.specs.declared.vec.Vec.{Vec}
use Rattle.indexset_core.specs.Nodes.{node_at, vec_items}
use Rattle.indexset_spine.proofs.VecNodes.{length-vec_items}
use Rattle.indexset_spine.proofs.EditSteps.{node_is}

-- the k-th node u is split at o into w and b
module _ {X Z : Type 0} (vs : List (Vec X Z)) (k o : ℕ) (u w b : Vec X Z) (h : k < length (vec_items vs)) (at : u ≡ get_or vs k u) where
  abbrev held : Vec X Z → List X
  held v = v.items

  pub left_lists : w.items ≡ take o u.items → vec_items (take (k + 1) (slice_set vs k w)) ≡ take k (vec_items vs) ++ take o (node_at (vec_items vs) k) ∷ []
  left_lists front =
      ap vec_items (take_more_set vs k w (omega (arith, h, length-vec_items vs)))
      ∙ (map_push held (take k vs) w
      ∙ (ap (λ l. l ++ w.items ∷ []) (sym (take-map held k vs))
      ∙ ap (λ n. take k (vec_items vs) ++ n ∷ []) (front ∙ ap (take o) (sym (node_is vs k u h at)))))

  pub right_lists : b.items ≡ drop o u.items → vec_items (b ∷ drop (k + 1) (slice_set vs k w)) ≡ drop o (node_at (vec_items vs) k) ∷ drop (k + 1) (vec_items vs)
  right_lists back =
      ap (λ l. b.items ∷ vec_items l) (drop-set-lt (k + 1) vs k w (omega arith))
      ∙ (ap (λ l. b.items ∷ l) (sym (drop-map held (k + 1) vs))
      ∙ ap (λ n. n ∷ drop (k + 1) (vec_items vs)) (back ∙ ap (drop o) (sym (node_is vs k u h at))))
