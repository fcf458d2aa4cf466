use Rattle.std.proofs.Common.{◌≡◌, ℕ, zero, suc, ◌+◌, ◌/◌, ◌<◌, ◌≤◌, List, [], ◌∷◌, length, set, remove, Option, Some, None, inl, inr, refl, arith}
use Rattle.std.proofs.lemmas.List.Edits.{length-remove}
use Rattle.indexset_core.specs.Nodes.{node_at}
use Rattle.indexset_events.specs.Merging.{merge_after}
use Rattle.indexset_events.proofs.MergeLemmas.{JoinedAfter, JoinedPair, after_from, left_lost, right_lost, next_inside, two_held}
use Rattle.indexset_events.proofs.AscendingListLemmas.{Each, nodes_each}
use Rattle.indexset_events.proofs.laws.small_sizes_merge_nothing.Goals as goal

filled_at : {T : Type 0} (ns : List (List T)) → Each (λ n. 1 ≤ length n) ns → (j : ℕ) → j < length ns → 1 ≤ length (node_at ns j)
filled_at [] each j lt = absurd (omega arith)
filled_at (n ∷ ns) each zero lt = each.0
filled_at (n ∷ ns) each (suc j) lt = filled_at ns each.1 j (omega arith)

-- two nodes that are not empty hold at least two items, and a node of two or more keeps one
none_joined : {T : Type 0} (size : ℕ) (ns : List (List T)) (k i j : ℕ) → size < 4 → Each (λ n. 1 ≤ length n) ns → i < length (node_at ns k) → JoinedAfter size ns k i j → ⊥
none_joined size ns k i j small filled inside joins =
    let pair : JoinedPair (size / 2) (set ns k (remove (node_at ns k) i)) k j = joins.pair in
    let next = next_inside size ns k i j inside joins in
    let two = two_held size ns k i j inside joins in
    let less = length-remove (node_at ns k) i inside in
    let few = pair.few in
    let first = filled_at ns filled j (omega (arith, next)) in
    let second = filled_at ns filled (j + 1) next in
    elim pair.either [
      | inl same ↦
          let lost = left_lost ns j next (remove (node_at ns j) i) in
          omega (arith, small, second, rw (same, lost.0, lost.1) at few, rw same at less, rw same at two)
      | inr after ↦
          let lost = right_lost ns j next (remove (node_at ns (j + 1)) i) in
          omega (arith, small, first, rw (after.0, lost.0, lost.1) at few, rw after.0 at less, rw after.0 at two)
    ]

never : (found : Option ℕ) → ((j : ℕ) → found ≡ Some j → ⊥) → found ≡ None
never (Some j) absent = absurd (absent j refl)
never None absent = refl

pub returns : goal.returns
returns g c size ns k i small filled inside =
    never (merge_after size ns k i) (λ j e. none_joined size ns k i j small (nodes_each (λ n. 1 ≤ n) ns filled) inside (after_from size ns k i j e))
