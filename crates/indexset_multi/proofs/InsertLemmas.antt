-- A multimap after an insertion, by the put of the pair into the set.
use Rattle.std.proofs.Common.{◌≡◌, ℕ, ◌+◌, Bool, if◌then◌else◌, List, length, None, Some, is_none, Ordering, refl, sym, ◌∙◌, arith}
use Rattle.std.specs.Cmp.{IsTotalOrder}
use Rattle.std.specs.Option.{unwrap_or}
use Rattle.std.proofs.lemmas.Option.{none-some}
use Rattle.indexset_core.specs.declared.multipair.MultiPair.{MultiPair}
use Rattle.indexset_core.specs.MultiPairs.{by_number, numbered_pair}
use Rattle.indexset_core.specs.Nodes.{concat, IsLawful}
use Rattle.indexset_core.specs.Order.{equal_element, put}
use Rattle.indexset_events.specs.Edits.{with_put}
use Rattle.indexset_events.specs.Table.{put_events}
use Rattle.indexset_events.proofs.CallerLemmas.{lawful_ascends}
use Rattle.indexset_multi.specs.Keys.{AreNumberedBelow, equal_pair, kept_number}
use Rattle.indexset_multi.specs.Tree.{MultiTree, after_insertion, inserted_pair, pair_next_after}
use Rattle.indexset_multi.proofs.PairNumberLemmas.{below_more, below_put, kept_below}
use Rattle.indexset_multi.proofs.NumberedPairLemmas.{kept_found, none_kept, none_numbered}

module _ {K V : Type 0} (cmp : K → K → Ordering) (eq : V → V → Bool) (m : MultiTree K V) (k : K) (w : V) where
  -- the item that the pair replaces is the first pair of the key with an equal value
  pub replaced_pair : IsTotalOrder cmp → IsLawful (by_number cmp) m.size m.nodes
      → AreNumberedBelow m.pair_next (concat m.nodes)
      → equal_element (by_number cmp) (concat m.nodes) (inserted_pair cmp eq m k w)
      ≡ equal_pair cmp eq (concat m.nodes) k w
  replaced_pair o law low =
      let l = concat m.nodes in
      elim (kept_number cmp eq l k w) as (λ r. kept_number cmp eq l k w ≡ r → equal_element (by_number cmp) l (numbered_pair k w (unwrap_or r m.pair_next)) ≡ equal_pair cmp eq l k w) [
        | None ↦ λ e. none_numbered cmp l k m.pair_next low ∙ sym (none_kept cmp eq l k w (λ n g. none-some n (sym e ∙ g)))
        | Some n ↦ λ e. kept_found cmp o eq l (lawful_ascends (by_number cmp) m.size m.nodes law) k w n e
      ] refl

  -- each number is below the next one after the insertion
  pub numbered_after : AreNumberedBelow m.pair_next (concat m.nodes) → AreNumberedBelow (pair_next_after cmp eq m k w) (put (by_number cmp) (concat m.nodes) (inserted_pair cmp eq m k w))
  numbered_after low =
      let l = concat m.nodes in
      let n = m.pair_next in
      elim (kept_number cmp eq l k w) as (λ r. kept_number cmp eq l k w ≡ r → AreNumberedBelow (if is_none r then n + 1 else n) (put (by_number cmp) l (numbered_pair k w (unwrap_or r n)))) [
        | None ↦ λ _. below_put (by_number cmp) (n + 1) l (numbered_pair k w n) (below_more n (n + 1) (omega arith) l low) (omega arith)
        | Some i ↦ λ e. below_put (by_number cmp) n l (numbered_pair k w i) low (kept_below cmp eq n l low k w i e)
      ] refl

  -- the multimap after its set, which n has, was put the pair
  pub insertion_tree : {n : MultiTree K V} {pair : MultiPair K V} {nodes : List (List (MultiPair K V))}
      {size next pair_next : ℕ}
      → n ≡ m → pair ≡ inserted_pair cmp eq m k w → nodes ≡ with_put (by_number cmp) n.size n.nodes pair → size ≡ n.size
      → next ≡ n.next + length (put_events (by_number cmp) n.size n.nodes pair)
      → pair_next ≡ pair_next_after cmp eq m k w
      → (let t : MultiTree K V = record { nodes = nodes; size = size; next = next; pair_next = pair_next } in t)
      ≡ after_insertion cmp eq m k w
  insertion_tree seen is nodes size next pair_next =
      let all_nodes = nodes ∙ (λ j. let t = seen j in with_put (by_number cmp) t.size t.nodes (is j)) in
      let same_size = size ∙ (λ j. let t = seen j in t.size) in
      let all_next = next ∙ (λ j. let t = seen j in t.next + length (put_events (by_number cmp) t.size t.nodes (is j))) in
      λ i. record { nodes = all_nodes i; size = same_size i; next = all_next i; pair_next = pair_next i }
