-- The steps of an edit of nodes.
use Rattle.std.specs.Prelude.{◌≡◌, ℕ, ◌+◌, ◌/◌, ◌<◌, ◌==◌, ◌&&◌, Bool, List, []}
use Rattle.std.specs.Prelude.{◌∷◌, ◌++◌, length, not, cond, filter, take, drop}
use Rattle.std.specs.Prelude.{slice_set, insert, remove, if◌then◌else◌, nat_lt}
use Rattle.std.specs.List.{fold, splice}
use Rattle.indexset_spine.specs.declared.spot.Spot.{Spot}
use Rattle.indexset_core.specs.Nodes.{node_at}

-- b is the fold of f from a over a prefix of xs, and rest is the rest of xs
abbrev pub FoldsPrefix : {A B : Type 0} → (B → A → B) → B → List A → B → List A → Type 0
FoldsPrefix {A} f a xs b rest = (front : List A) × (xs ≡ front ++ rest) × (b ≡ fold f a front)

module _ {X : Type 0} where
  -- the nodes with v inserted into the node of the spot
  unfoldable pub with_item_in : List (List X) → Spot → X → List (List X)
  with_item_in ns s v = slice_set ns s.node (insert (node_at ns s.node) s.offset v)

  -- the nodes with the k-th split in two at half its length
  unfoldable pub with_halved : List (List X) → ℕ → List (List X)
  with_halved ns k =
      let half = length (node_at ns k) / 2 in
      splice ns k (k + 1) (take half (node_at ns k) ∷ drop half (node_at ns k) ∷ [])

  -- the spot is after the last item, in a node that is shorter than the size
  pub record IsShortEnd (size : ℕ) (ns : List (List X)) (s : Spot) : Type 0 where
    pub last : s.node + 1 ≡ length ns
    pub end : s.offset ≡ length (node_at ns s.node)
    pub short : s.offset < size

  -- the nodes, or one empty node if there is none
  abbrev pub or_one_empty : List (List X) → List (List X)
  or_one_empty [] = [] ∷ []
  or_one_empty (n ∷ ns) = n ∷ ns

  -- the nodes without the k-th if it is empty and not the only one
  unfoldable pub without_emptied : List (List X) → ℕ → List (List X)
  without_emptied ns k =
      if (length (node_at ns k) == 0) && nat_lt 1 (length ns) then remove ns k else ns

  -- the nodes that are not empty, or one empty node if all are empty
  unfoldable pub without_all_emptied : List (List X) → List (List X)
  without_all_emptied ns = or_one_empty (filter (λ n. not (length n == 0)) ns)

  -- the nodes up to the spot: the last ends at the offset, and is removed if it is empty, unless it
  -- is the only one
  unfoldable pub left_nodes : List (List X) → Spot → List (List X)
  left_nodes ns s =
      without_emptied (take s.node ns ++ take s.offset (node_at ns s.node) ∷ []) s.node

  -- the nodes from the spot on: the first starts at the offset, and is removed if it is empty,
  -- unless it is the only one
  unfoldable pub right_nodes : List (List X) → Spot → List (List X)
  right_nodes ns s = without_emptied (drop s.offset (node_at ns s.node) ∷ drop (s.node + 1) ns) 0

  -- R is called for the items in order, from state s to t, and ys has those for which it returns
  -- true, as it leaves them
  abbrev pub RetainsTo : {S : Type 0} → (S → X → Bool → S → X → Type 0) → S → List X → List X
      → S → Type 0
  RetainsTo R s [] ys t = (ys ≡ []) × (t ≡ s)
  RetainsTo {S} R s (x ∷ xs) ys t =
      (b : Bool) × (u : S) × (y : X) × R s x b u y × (zs : List X) × RetainsTo R u xs zs t
      × (ys ≡ cond b (y ∷ zs) zs)

  -- the same for the items of one node after another, each of which keeps its own
  abbrev pub RetainsEach : {S : Type 0} → (S → X → Bool → S → X → Type 0) → S → List (List X)
      → List (List X) → Type 0
  RetainsEach R s [] ms = ms ≡ []
  RetainsEach {S} R s (n ∷ ns) ms =
      (m : List X) × (t : S) × RetainsTo R s n m t × (ls : List (List X)) × RetainsEach R t ns ls
      × (ms ≡ m ∷ ls)

  -- the same, without the emptied nodes
  pub record RetainsNodes {S : Type 0} (R : S → X → Bool → S → X → Type 0) (s : S)
      (ns ms : List (List X)) : Type 0 where
    pub each : List (List X)
    pub run : RetainsEach R s ns each
    pub left : ms ≡ without_all_emptied each
