-- The first and the last of numbered pairs, by their keys.
use Rattle.std.proofs.Common.{◌≡◌, ℕ, Bool, cond, true, false, List, [], ◌∷◌, filter, length, slice_get, Ordering, refl, ap, sym, ◌∙◌, arith}
use Rattle.std.specs.Ordering.{nat_cmp, ordering_then}
use Rattle.std.specs.declared.cmp.Ordering.TheVariants.{Less, Equal, Greater}
use Rattle.std.proofs.lemmas.Bool.{true≢false}
use Rattle.indexset_core.specs.declared.multipair.MultiPair.{MultiPair}
use Rattle.indexset_core.specs.MultiPairs.{by_number}
use Rattle.indexset_core.specs.Nodes.{concat}
use Rattle.indexset_core.specs.Pairs.{pair_keys}
use Rattle.indexset_events.specs.Ends.{removal_events_at}
use Rattle.indexset_multi.specs.Keys.{entries}
use Rattle.indexset_multi.specs.Tree.{MultiTree, pair_removal_events}

none_behind : {X : Type 0} (q : X → Bool) (x : X) (l : List X) → filter q (x ∷ l) ≡ [] → filter q l ≡ []
none_behind q x l =
    elim (q x) as (λ b. cond b (x ∷ filter q l) (filter q l) ≡ [] → filter q l ≡ []) [
      | true ↦ λ e. absurd (omega (arith, ap (λ m. length m) e))
      | false ↦ λ e. e
    ]

-- if no pair is on one side of v, no key is on that side of v's key
module _ {K V : Type 0} (cmp : K → K → Ordering) (v : MultiPair K V) (is_aside : Ordering → Bool) (tied : is_aside Equal ≡ false) where
  by_key_alone : (a b : Ordering) → is_aside a ≡ true → is_aside (ordering_then a b) ≡ true
  by_key_alone Less b e = e
  by_key_alone Equal b e = absurd (true≢false (sym e ∙ tied))
  by_key_alone Greater b e = e

  pub no_key_aside : (l : List (MultiPair K V)) → filter (λ p. is_aside (by_number cmp p v)) l ≡ [] → filter (λ k. is_aside (cmp k v.key)) (pair_keys (entries l)) ≡ []
  no_key_aside [] none = refl
  no_key_aside (p ∷ l) none =
      let rest : filter (λ k. is_aside (cmp k v.key)) (pair_keys (entries l)) ≡ [] = no_key_aside l (none_behind (λ q. is_aside (by_number cmp q v)) p l none) in
      elim (is_aside (cmp p.key v.key)) as (λ b. is_aside (cmp p.key v.key) ≡ b → filter (λ k. is_aside (cmp k v.key)) (pair_keys (entries (p ∷ l))) ≡ []) [
        | true ↦ λ e. let some : p ∷ filter (λ q. is_aside (by_number cmp q v)) l ≡ [] = rw (by_key_alone (cmp p.key v.key) (nat_cmp p.discriminator v.discriminator) e) at none in cc
        | false ↦ λ e. rw e rest
      ] refl

-- the set's events of the removal of the item at a position are the multimap's of that pair
pub told_at : {K V : Type 0} (cmp : K → K → Ordering) (position : MultiTree K V → ℕ) {m n : MultiTree K V} → n ≡ m
    → removal_events_at (by_number cmp) n.size n.nodes (position n)
    ≡ pair_removal_events cmp m.size m.nodes (slice_get (concat m.nodes) (position m))
unfolding removal_events_at
told_at cmp position seen = λ j. let t = seen j in pair_removal_events cmp t.size t.nodes (slice_get (concat t.nodes) (position t))
