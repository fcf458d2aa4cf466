-- An insertion for which no two values are equal, so its pair is new.
use Rattle.std.proofs.Common.{◌≡◌, ◌+◌, ◌==◌, ◌&&◌, ◌++◌, Bool, true, false, if◌then◌else◌, List, [], ◌∷◌, length, find, is_none, None, Ordering, refl, ap, sym, ◌∙◌}
use Rattle.std.below.core.specs.declared.int.u64.TheConstants.{MAX}
use Rattle.std.specs.Cmp.{IsTotalOrder}
use Rattle.std.specs.Option.{option_map, unwrap_or}
use Rattle.indexset_core.specs.declared.refusal.Refusal.TheVariants.{Numbers}
use Rattle.indexset_core.specs.MultiPairs.{by_number, numbered_pair}
use Rattle.indexset_core.specs.Nodes.{concat, IsLawful}
use Rattle.indexset_core.specs.Order.{put}
use Rattle.indexset_events.specs.Table.{put_events}
use Rattle.indexset_events.proofs.CallerLemmas.{lawful_ascends}
use Rattle.indexset_log.specs.Tree.{refusal_for}
use Rattle.indexset_multi.specs.Changed.{IsAdded, addition_refusal}
use Rattle.indexset_multi.specs.Keys.{AreNumberedBelow, kept_number, pairs_of}
use Rattle.indexset_multi.specs.Tree.{MultiTree, inserted_pair, pair_next_after, takes_number}
use Rattle.indexset_multi.proofs.KeyListLemmas.{inserted_last, inserted_others}

find_no : {X : Type 0} (l : List X) → find (λ _. false) l ≡ None
find_no [] = refl
find_no (x ∷ l) = find_no l

module _ {K V : Type 0} (cmp : K → K → Ordering) (m : MultiTree K V) (k : K) (w : V) where
  abbrev no : V → V → Bool
  no _ _ = false

  none_kept : kept_number cmp no (concat m.nodes) k w ≡ None
  none_kept = ap (option_map (λ p. p.discriminator)) (find_no (pairs_of cmp (concat m.nodes) k))

  takes : takes_number cmp no m k w ≡ true
  takes = ap is_none none_kept

  pub new_is : numbered_pair k w m.pair_next ≡ inserted_pair cmp no m k w
  new_is = sym (ap (λ r. numbered_pair k w (unwrap_or r m.pair_next)) none_kept)

  pub next_is : m.pair_next + 1 ≡ pair_next_after cmp no m k w
  next_is = sym (ap (λ t. if t then m.pair_next + 1 else m.pair_next) takes)

  -- no number remains for the pair
  pub none_left : (m.pair_next == MAX) ≡ true → Numbers ≡ addition_refusal cmp m k w
  none_left last =
      sym (ap (λ t. if t && (m.pair_next == MAX) then Numbers else refusal_for m.next (length (put_events (by_number cmp) m.size m.nodes (inserted_pair cmp no m k w)))) takes
      ∙ ap (λ b. if b then Numbers else refusal_for m.next (length (put_events (by_number cmp) m.size m.nodes (inserted_pair cmp no m k w)))) last)

  -- otherwise the events determine the error
  pub some_left : (m.pair_next == MAX) ≡ false → refusal_for m.next (length (put_events (by_number cmp) m.size m.nodes (inserted_pair cmp no m k w))) ≡ addition_refusal cmp m k w
  some_left more =
      sym (ap (λ t. if t && (m.pair_next == MAX) then Numbers else refusal_for m.next (length (put_events (by_number cmp) m.size m.nodes (inserted_pair cmp no m k w)))) takes
      ∙ ap (λ b. if b then Numbers else refusal_for m.next (length (put_events (by_number cmp) m.size m.nodes (inserted_pair cmp no m k w)))) more)

  -- the pairs after the insertion
  pub added : IsTotalOrder cmp → IsLawful (by_number cmp) m.size m.nodes
      → AreNumberedBelow m.pair_next (concat m.nodes) → (new : MultiTree K V)
      → concat new.nodes ≡ put (by_number cmp) (concat m.nodes) (inserted_pair cmp no m k w) → IsAdded cmp m new k w
  added o law low new made =
      let up = lawful_ascends (by_number cmp) m.size m.nodes law in
      record {
        last = ap (λ l. pairs_of cmp l k) made ∙ (inserted_last cmp o no m k w low takes ∙ ap (λ p. pairs_of cmp (concat m.nodes) k ++ p ∷ []) (sym new_is));
        others = λ other ne. ap (λ l. pairs_of cmp l other) made ∙ inserted_others cmp o no m k w up other ne;
      }
