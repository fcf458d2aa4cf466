-- The outcome of a command to a logged tree.
use Rattle.std.proofs.Common.{◌≡◌, ℕ, ◌+◌, Bool, true, false, cond, List, length, Some, Ordering, refl, sym}
use Rattle.std.specs.Prelude.{◌||◌}
use Rattle.std.specs.Option.{unwrap_or}
use Rattle.indexset_core.specs.MultiPairs.{by_number}
use Rattle.indexset_core.specs.declared.multipair.MultiPair.{MultiPair}
use Rattle.indexset_events.specs.Replay.{replay, numbered_from}
use Rattle.indexset_log.specs.Tree.{Tree}
use Rattle.indexset_events.specs.declared.change.ChangeEventUnassigned.{ChangeEventUnassigned}
use Rattle.indexset_multi.specs.Tree.{MultiTree}
use Rattle.indexset_bench.specs.LoggedMulti.{MultiState}
use Rattle.indexset_bench.specs.Told.{nodes_after, tree_after}

-- either of two ways in which numbers run out
pub either_lack : (a b : Bool) {X : Type 0} (x y : X) → cond a x (cond b x y) ≡ cond (a || b) x y
either_lack true b x y = refl
either_lack false b x y = refl

abbrev tree_of : {T : Type 0} → List (List T) → ℕ → ℕ → Tree T
tree_of ns size next = record { nodes = ns; size = size; next = next }

-- the tree is the result of replaying the events
pub tree_led : {T : Type 0} (cmp : T → T → Ordering) (t new : Tree T) (es : List (ChangeEventUnassigned T))
    → replay cmp t.nodes (numbered_from t.next es) ≡ Some new.nodes → new.size ≡ t.size → new.next ≡ t.next + length es
    → new ≡ tree_after cmp t es
tree_led cmp t new es table size next = λ i. tree_of (unwrap_or (sym table i) t.nodes) (size i) (next i)

-- the same of a multimap
abbrev multi_tree_of : {K V : Type 0} → List (List (MultiPair K V)) → ℕ → ℕ → ℕ → MultiTree K V
multi_tree_of ns size next pair_next = record { nodes = ns; size = size; next = next; pair_next = pair_next }

pub multi_led : {K V : Type 0} (cmp : K → K → Ordering) (m new : MultiTree K V)
    (es : List (ChangeEventUnassigned (MultiPair K V))) (n : ℕ)
    → replay (by_number cmp) m.nodes (numbered_from m.next es) ≡ Some new.nodes → new.size ≡ m.size
    → new.next ≡ m.next + length es → new.pair_next ≡ n
    → new ≡ multi_tree_of (nodes_after (by_number cmp) m.nodes m.next es) m.size (m.next + length es) n
multi_led cmp m new es n table size next pair_next = λ i. multi_tree_of (unwrap_or (sym table i) m.nodes) (size i) (next i) (pair_next i)

-- what a command sees of a multimap
abbrev pub multi_state : {K V : Type 0} → List (MultiPair K V) → ℕ → MultiState K V
multi_state pairs n = record { pairs = pairs; pair_next = n }
