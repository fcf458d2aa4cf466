-- Lists of nodes, of either family.
use Rattle.std.specs.Prelude.{ℕ, ◌-◌, ◌≤◌, Bool, false, not, min, List, []}
use Rattle.std.specs.Prelude.{◌∷◌, ◌++◌, length, map, get_or, slice_get}
use Rattle.std.specs.List.{All, position_or_len}
use Rattle.std.specs.Option.{option_map_or}
use Rattle.std.specs.Ordering.{is_lt, is_eq}
use Rattle.std.specs.declared.cmp.Ordering.{Ordering}
use Rattle.std.specs.declared.vec.Vec.{Vec}
use Rattle.indexset_core.specs.Order.{IsAscending}

module _ {X : Type 0} where
  -- the items of each `Vec`
  abbrev pub vec_items : {Z : Type 0} → List (Vec X Z) → List (List X)
  vec_items vs = map (λ v. v.items) vs

  -- the concatenation of the nodes
  abbrev pub concat : List (List X) → List X
  concat [] = []
  concat (n ∷ ns) = n ++ concat ns

  -- the lengths of the nodes
  abbrev pub node_lengths : List (List X) → List ℕ
  node_lengths ns = map (λ n. length n) ns

  -- the k-th node
  abbrev pub node_at : List (List X) → ℕ → List X
  node_at ns k = get_or ns k []

  -- no node is empty, and the concatenation of the nodes ascends
  pub record IsNodeList (cmp : X → X → Ordering) (ns : List (List X)) : Type 0 where
    pub filled : All (λ n. 1 ≤ n) (node_lengths ns)
    pub ascending : IsAscending cmp (concat ns)

  -- a node list of nodes within the size
  pub record IsLawful (cmp : X → X → Ordering) (size : ℕ) (ns : List (List X)) : Type 0 where
    pub nodes : IsNodeList cmp ns
    pub bounded : All (λ n. n ≤ size) (node_lengths ns)

  -- the last item of the node compares Less
  abbrev pub ends_less : (X → Ordering) → List X → Bool
  ends_less answer n = option_map_or (λ x. is_lt (answer x)) (slice_get n (length n - 1)) false

  -- the index of the first node whose last item does not compare Less, else of the last node
  abbrev pub node_for : (X → Ordering) → List (List X) → ℕ
  node_for answer ns = min (position_or_len (λ n. not (ends_less answer n)) ns) (length ns - 1)

  -- the item at the position compares Equal
  abbrev pub equal_at : (X → Ordering) → List X → ℕ → Bool
  equal_at answer l i = option_map_or (λ x. is_eq (answer x)) (slice_get l i) false
