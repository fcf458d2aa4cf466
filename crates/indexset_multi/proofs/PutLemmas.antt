-- A multimap after a call that puts the pair of an insertion into its set.
use Rattle.std.proofs.Common.{◌≡◌, ℕ, Bool, List, length, Ordering, refl, ◌∙◌, subst}
use Rattle.indexset_core.specs.declared.multipair.MultiPair.{MultiPair}
use Rattle.indexset_core.specs.MultiPairs.{by_number}
use Rattle.indexset_core.specs.Nodes.{concat}
use Rattle.indexset_core.specs.Order.{equal_element, put}
use Rattle.indexset_events.specs.declared.change.ChangeEvent.{ChangeEvent}
use Rattle.indexset_events.specs.Clones.{AreTableEvents}
use Rattle.indexset_events.specs.Table.{put_events}
use Rattle.indexset_log.specs.Changed.{Changed, put_change}
use Rattle.indexset_log.specs.Tree.{Tree, refusal_for}
use Rattle.indexset_multi.specs.Changed.{MultiChanged, MultiPairEvents, insertion, set_tree}
use Rattle.indexset_multi.specs.Keys.{AreNumberedBelow}
use Rattle.indexset_multi.specs.Tree.{IsMultiPairClone, MultiTree, inserted_pair, pair_next_after}
use Rattle.indexset_multi.proofs.InsertLemmas.{insertion_tree, numbered_after}
use Rattle.indexset_multi.proofs.PairRemovalLemmas.{multi_changed, multi_told}

-- the set of the multimap, and the pair
module _ {K V : Type 0} (cmp : K → K → Ordering) (eq : V → V → Bool) (m : MultiTree K V) (k : K) (w : V)
    {set : Tree (MultiPair K V)} {pair : MultiPair K V} (seen : set ≡ set_tree m)
    (is : pair ≡ inserted_pair cmp eq m k w) where
  -- the error of events that do not fit
  pub put_refusal : refusal_for set.next (length (put_events (by_number cmp) set.size set.nodes pair))
      ≡ refusal_for m.next (length (put_events (by_number cmp) m.size m.nodes (inserted_pair cmp eq m k w)))
  put_refusal = λ i. let t = seen i in refusal_for t.next (length (put_events (by_number cmp) t.size t.nodes (is i)))

  -- the item that the pair replaces
  pub put_replaced : equal_element (by_number cmp) (concat set.nodes) pair ≡ equal_element (by_number cmp) (concat m.nodes) (inserted_pair cmp eq m k w)
  put_replaced = λ i. let t = seen i in equal_element (by_number cmp) (concat t.nodes) (is i)

  -- each number is below the next one
  pub put_numbers : {l : List (MultiPair K V)} {n : ℕ} → l ≡ put (by_number cmp) (concat set.nodes) pair
      → n ≡ pair_next_after cmp eq m k w → AreNumberedBelow m.pair_next (concat m.nodes) → AreNumberedBelow n l
  put_numbers contents number low =
      let made = contents ∙ (λ i. let t = seen i in put (by_number cmp) (concat t.nodes) (is i)) in
      rw (made, number) (numbered_after cmp eq m k w low)

  module _ {after : Tree (MultiPair K V)} {n : ℕ} (number : n ≡ pair_next_after cmp eq m k w) (changed : Changed (by_number cmp) set after (put_change (by_number cmp) set pair)) where
    abbrev new : MultiTree K V
    new = record { nodes = after.nodes; size = after.size; next = after.next; pair_next = n }

    pub put_changed : MultiChanged cmp m new (insertion cmp eq m k w)
    put_changed =
        let made =
        subst (λ p. Changed (by_number cmp) (set_tree m) after (put_change (by_number cmp) (set_tree m) p)) is
        (subst (λ t. Changed (by_number cmp) t after (put_change (by_number cmp) t pair)) seen changed) in
        multi_changed {cmp = cmp} {old = m} {made = insertion cmp eq m k w} (insertion_tree cmp eq m k w refl refl made.nodes made.size made.next number) made.fits (record {
          contents = made.contents;
          size = made.size;
          next = made.next;
          table = made.table;
          at_most_three_events = made.at_most_three_events;
          dense = made.dense;
        })

    -- the events that it returns
    pub put_told : {C : K → K → Type 0} {D : V → V → Type 0} (told : List (ChangeEvent (MultiPair K V)))
        → AreTableEvents (IsMultiPairClone C D) set.next (put_events (by_number cmp) set.size set.nodes pair) told
        → MultiPairEvents cmp C D m new (insertion cmp eq m k w) told
    put_told {C} {D} told clones =
        multi_told C D told put_changed
        (subst (λ p. AreTableEvents (IsMultiPairClone C D) m.next (put_events (by_number cmp) m.size m.nodes p) told) is
        (subst (λ t. AreTableEvents (IsMultiPairClone C D) t.next (put_events (by_number cmp) t.size t.nodes pair) told)
        seen clones))
