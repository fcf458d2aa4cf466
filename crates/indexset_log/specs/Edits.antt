-- The tree after each call.
use Rattle.std.specs.Prelude.{ℕ, ◌+◌, length, slice_get, if◌then◌else◌}
use Rattle.std.specs.declared.cmp.Ordering.{Ordering}
use Rattle.std.specs.List.{list_any}
use Rattle.std.specs.Option.{option_map_or}
use Rattle.std.specs.Ordering.{is_eq}
use Rattle.indexset_core.specs.Nodes.{concat, node_at, node_for}
use Rattle.indexset_core.specs.Parted.{less_count}
use Rattle.indexset_events.specs.Edits.{with_checked_put, with_put, with_removed}
use Rattle.indexset_events.specs.Table.{put_events, checked_put_events, place_removal_count}
use Rattle.indexset_log.specs.Tree.{Tree}

module _ {T : Type 0} where
  -- the tree after a put
  abbrev pub after_put : (T → T → Ordering) → Tree T → T → Tree T
  after_put cmp t v = record {
    nodes = with_put cmp t.size t.nodes v;
    size = t.size;
    next = t.next + length (put_events cmp t.size t.nodes v);
  }

  -- the tree after a checked put
  abbrev pub after_checked_put : (T → T → Ordering) → Tree T → T → Tree T
  after_checked_put cmp t v = record {
    nodes = with_checked_put cmp t.size t.nodes v;
    size = t.size;
    next = t.next + length (checked_put_events cmp t.size t.nodes v);
  }

  -- the tree after the removal of the item at offset i of the node at index k
  abbrev pub after_place_removal : Tree T → ℕ → ℕ → Tree T
  after_place_removal t k i = record {
    nodes = with_removed t.size t.nodes k i;
    size = t.size;
    next = t.next + place_removal_count t.size t.nodes k i;
  }

  -- the tree after the removal of the item that is found Equal, if any
  unfoldable pub after_removal_by : (T → Ordering) → Tree T → Tree T
  after_removal_by answer t =
      let k = node_for answer t.nodes in
      let n = node_at t.nodes k in
      if list_any (λ x. is_eq (answer x)) n then after_place_removal t k (less_count answer n)
      else t

  -- the tree after the removal of the item that equals v, if any
  abbrev pub after_removal : {Q : Type 0} → (T → Q → Ordering) → Tree T → Q → Tree T
  after_removal cmp t v = after_removal_by (λ x. cmp x v) t

  -- the tree after the removal of the item at position i, if any
  unfoldable pub after_removal_at : (T → T → Ordering) → Tree T → ℕ → Tree T
  after_removal_at cmp t i = option_map_or (after_removal cmp t) (slice_get (concat t.nodes) i) t
