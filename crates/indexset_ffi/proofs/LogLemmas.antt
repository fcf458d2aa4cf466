-- The removal of an absent key: its events and its result.
use Rattle.std.proofs.Common.{◌≡◌, ℕ, List, [], Option, Some, None, Ordering, length, refl, sym, ap, ◌∙◌, arith}
use Rattle.std.proofs.lemmas.Option.{same_Some}
use Rattle.std.specs.Option.{option_map}
use Rattle.indexset_core.specs.declared.pair.Pair.{Pair}
use Rattle.indexset_core.specs.Nodes.{concat}
use Rattle.indexset_core.specs.Pairs.{by_key, pair_of}
use Rattle.indexset_events.specs.Keys.{key_removal_events}
use Rattle.indexset_events.specs.Replay.{numbered_from, replay}
use Rattle.indexset_events.proofs.CallerLemmas.{absent_events}
use Rattle.indexset_log.specs.Changed.{Changed, key_removal}
use Rattle.indexset_log.specs.Tree.{Tree}

pub mapped_none : {X Y : Type 0} (f : X → Y) (o : Option X) → option_map f o ≡ None → o ≡ None
mapped_none f None h = refl
mapped_none f (Some x) h = grind arith

-- it has no events
pub none_told : {K V Q : Type 0} (order : K → Q → Ordering) (size : ℕ) (ns : List (List (Pair K V))) (k : Q) → pair_of order (concat ns) k ≡ None → key_removal_events order size ns k ≡ []
none_told {K} {V} order size ns k none = absent_events (λ (p : Pair K V) q. order p.key q) ns k none size

same_tree : {T : Type 0} (a b : Tree T) → a.nodes ≡ b.nodes → a.size ≡ b.size → a.next ≡ b.next → a ≡ b
same_tree a b nodes size next = λ i. record { nodes = nodes i; size = size i; next = next i }

-- the map is unchanged
pub kept_tree : {K V Q : Type 0} (cmp : K → K → Ordering) (order : K → Q → Ordering) (t u : Tree (Pair K V)) (k : Q)
    → pair_of order (concat t.nodes) k ≡ None → Changed (by_key cmp) t u (key_removal order t k) → u ≡ t
kept_tree cmp order t u k none changed =
    let empty = none_told order t.size t.nodes k none in let zero : length (key_removal_events order t.size t.nodes k) ≡ 0 = ap (λ l. length l) empty in
    let nodes : Some t.nodes ≡ Some u.nodes = sym (ap (λ l. replay (by_key cmp) t.nodes (numbered_from t.next l)) empty) ∙ changed.table in
    let next = changed.next in same_tree u t (sym (same_Some t.nodes u.nodes nodes)) changed.size (omega (arith, next, zero))
