-- The nodes after each call.
use Rattle.std.specs.Prelude.{ℕ, ◌+◌, ◌/◌, length, List, [], ◌∷◌}
use Rattle.std.specs.Prelude.{if◌then◌else◌, ◌==◌, take, drop, set}
use Rattle.std.specs.declared.cmp.Ordering.{Ordering}
use Rattle.std.specs.List.{splice}
use Rattle.std.specs.Option.{option_map_or}
use Rattle.indexset_core.specs.Nodes.{concat, node_at}
use Rattle.indexset_core.specs.Order.{put, has_equal}
use Rattle.indexset_events.specs.Merging.{with_merged, item_removed, merge_after}
use Rattle.indexset_events.specs.Nodes.{is_filled}
use Rattle.indexset_events.specs.Table.{target}

module _ {T : Type 0} where
  -- the nodes after the node at index k was halved
  abbrev pub with_halved : List (List T) → ℕ → List (List T)
  with_halved ns k =
      let half = length (node_at ns k) / 2 in
      splice ns k (k + 1) (take half (node_at ns k) ∷ drop half (node_at ns k) ∷ [])

  -- the nodes after the removal of the item at offset i of the node at index k, and the merge of
  -- small neighbours
  abbrev pub with_removed : ℕ → List (List T) → ℕ → ℕ → List (List T)
  with_removed size ns k i =
      option_map_or (with_merged (item_removed ns k i)) (merge_after size ns k i)
      (item_removed ns k i)

  -- the nodes with v put into its target
  abbrev pub put_into_target : (T → T → Ordering) → List (List T) → T → List (List T)
  put_into_target cmp ns v = set ns (target cmp ns v) (put cmp (node_at ns (target cmp ns v)) v)

  -- the nodes with room for v, where a full target was halved
  abbrev pub with_room : (T → T → Ordering) → ℕ → List (List T) → T → List (List T)
  with_room cmp size ns v =
      if length (node_at ns (target cmp ns v)) == size then with_halved ns (target cmp ns v) else ns

  -- the nodes after a put
  unfoldable pub with_put : (T → T → Ordering) → ℕ → List (List T) → T → List (List T)
  with_put cmp size ns v =
      if is_filled ns then put_into_target cmp (with_room cmp size ns v) v else (v ∷ []) ∷ []

  -- the nodes after a checked put
  unfoldable pub with_checked_put : (T → T → Ordering) → ℕ → List (List T) → T → List (List T)
  with_checked_put cmp size ns v =
      if has_equal cmp (concat ns) v then ns else with_put cmp size ns v
