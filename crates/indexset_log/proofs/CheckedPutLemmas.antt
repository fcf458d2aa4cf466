-- A checked put: a put if no equal item is present, and no change otherwise.
use Rattle.std.proofs.Common.{◌≡◌, ◌+◌, true, false, [], length, Ordering, refl, sym, arith}
use Rattle.indexset_core.specs.Nodes.{concat}
use Rattle.indexset_core.specs.Order.{has_equal, keep}
use Rattle.indexset_log.specs.Changed.{checked_put_change, put_change}
use Rattle.indexset_events.specs.Edits.{with_checked_put}
use Rattle.indexset_log.specs.Edits.{after_checked_put, after_put}
use Rattle.indexset_events.specs.Table.{checked_put_events, put_events}
use Rattle.indexset_log.specs.Tree.{Tree}

module _ {T : Type 0} (cmp : T → T → Ordering) (old : Tree T) (v : T) where
  module _ (there : true ≡ has_equal cmp (concat old.nodes) v) where
    pub there_events : checked_put_events cmp old.size old.nodes v ≡ []
    unfolding checked_put_events
    there_events = rw (← there) refl

    pub there_contents : concat old.nodes ≡ keep cmp (concat old.nodes) v
    unfolding keep
    there_contents = rw (← there) refl

    pub there_tree : old ≡ after_checked_put cmp old v
    unfolding with_checked_put
    there_tree =
        let next : old.next ≡ old.next + length (checked_put_events cmp old.size old.nodes v) = rw there_events (omega arith) in
        rw (← there) (λ i. record { nodes = old.nodes; size = old.size; next = next i })

    pub there_change : checked_put_change cmp old v ≡ record { tree = old; items = concat old.nodes; events = [] }
    there_change = λ i. record { tree = sym there_tree i; items = sym there_contents i; events = there_events i }

  module _ (absent : false ≡ has_equal cmp (concat old.nodes) v) where
    pub absent_events : checked_put_events cmp old.size old.nodes v ≡ put_events cmp old.size old.nodes v
    unfolding checked_put_events
    absent_events = rw (← absent) refl

    pub absent_tree : after_checked_put cmp old v ≡ after_put cmp old v
    unfolding with_checked_put checked_put_events
    absent_tree = rw (← absent) refl

    pub absent_change : checked_put_change cmp old v ≡ put_change cmp old v
    unfolding keep with_checked_put checked_put_events
    absent_change = rw (← absent) refl
