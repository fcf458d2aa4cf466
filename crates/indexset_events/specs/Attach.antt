-- Insertion of whole nodes.
use Rattle.std.specs.Prelude.{ℕ, Bool, not, ◌||◌, List, [], ◌∷◌, length, insert}
use Rattle.std.specs.Prelude.{if◌then◌else◌, nat_lt, Option, Some, None, count_by}
use Rattle.std.specs.List.{list_all}
use Rattle.std.specs.Option.{option_or}
use Rattle.std.specs.Ordering.{is_lt}
use Rattle.std.specs.declared.cmp.Ordering.{Ordering}
use Rattle.indexset_core.specs.declared.refusal.Refusal.{Refusal}
use Rattle.indexset_core.specs.declared.refusal.Refusal.TheVariants.{Empty, TooLarge}
use Rattle.indexset_core.specs.declared.refusal.Refusal.TheVariants.{Unsorted, Overlaps}
use Rattle.indexset_events.specs.Nodes.{is_filled, is_ascending}

module _ {T : Type 0} (cmp : T → T → Ordering) where
  -- each item of l is below each of r
  abbrev pub lies_below : List T → List T → Bool
  lies_below l r = list_all (λ x. list_all (λ y. is_lt (cmp x y)) r) l

  -- each of the nodes lies entirely below n or entirely above it
  unfoldable pub lies_apart : List (List T) → List T → Bool
  lies_apart ns n = list_all (λ m. lies_below m n || lies_below n m) ns

  -- how many of the nodes lie below n
  unfoldable pub attach_index : List (List T) → List T → ℕ
  attach_index ns n = count_by (λ m. lies_below m n) ns

  -- the nodes with n inserted at its place
  abbrev pub attached : List (List T) → List T → List (List T)
  attached ns n = insert ns (attach_index ns n) n

  -- the error of the insertion of n: the first that applies, if any
  unfoldable pub attach_refusal : ℕ → List (List T) → List T → Option Refusal
  attach_refusal size ns n =
      if not (is_filled n) then Some Empty
      else if nat_lt size (length n) then Some TooLarge
      else if not (is_ascending cmp n) then Some Unsorted
      else if not (lies_apart ns n) then Some Overlaps
      else None

  -- the error of n as the node after m: the first that applies, if any
  abbrev pub follow_refusal : ℕ → List T → List T → Option Refusal
  follow_refusal size m n =
      option_or (attach_refusal size [] n) (if lies_below m n then None else Some Overlaps)

  -- the error of the nodes after m: that of the first node that has one, if any
  abbrev pub refusal_after : ℕ → List T → List (List T) → Option Refusal
  refusal_after size m [] = None
  refusal_after size m (n ∷ ns) = option_or (follow_refusal size m n) (refusal_after size n ns)

  -- the error of the nodes as those of a tree: none if they are lawful
  abbrev pub nodes_refusal : ℕ → List (List T) → Option Refusal
  nodes_refusal size ns = refusal_after size [] ns
