-- Whole nodes of numbered pairs.
use Rattle.std.specs.Prelude.{◌≡◌, ℕ, ◌+◌, ◌==◌, length, max, Bool, List}
use Rattle.std.specs.Prelude.{[], ◌∷◌, if◌then◌else◌, Option, Some}
use Rattle.std.below.core.specs.declared.int.u64.TheConstants.{MAX}
use Rattle.std.specs.List.{list_any}
use Rattle.std.specs.declared.cmp.Ordering.{Ordering}
use Rattle.indexset_core.specs.declared.multipair.MultiPair.{MultiPair}
use Rattle.indexset_core.specs.declared.refusal.Refusal.{Refusal}
use Rattle.indexset_core.specs.declared.refusal.Refusal.TheVariants.{PairNumber}
use Rattle.indexset_core.specs.MultiPairs.{by_number}
use Rattle.indexset_core.specs.Nodes.{concat}
use Rattle.indexset_core.specs.Order.{IsAscending}
use Rattle.indexset_events.specs.Attach.{attach_refusal, attached, nodes_refusal}
use Rattle.indexset_multi.specs.Tree.{MultiTree}

module _ {K V : Type 0} where
  -- a pair has the greatest number
  abbrev pub has_greatest : List (MultiPair K V) → Bool
  has_greatest n = list_any (λ p. p.discriminator == MAX) n

  -- the least number above those of all pairs
  abbrev pub free_number : List (MultiPair K V) → ℕ
  free_number [] = 0
  free_number (p ∷ n) = max (p.discriminator + 1) (free_number n)

  -- the error of the insertion of n: the first that applies, if any
  abbrev pub pairs_refusal : (K → K → Ordering) → MultiTree K V → List (MultiPair K V)
      → Option Refusal
  pairs_refusal cmp m n =
      if has_greatest n then Some PairNumber else attach_refusal (by_number cmp) m.size m.nodes n

  -- n was inserted among the nodes without an event, and the number of the next new pair is above
  -- those of n
  pub record IsAttached (cmp : K → K → Ordering) (old new : MultiTree K V)
      (n : List (MultiPair K V)) : Type 0 where
    pub nodes : new.nodes ≡ attached (by_number cmp) old.nodes n
    pub ascending : IsAscending (by_number cmp) (concat new.nodes)
    pub count : length (concat new.nodes) ≡ length (concat old.nodes) + length n
    pub size : new.size ≡ old.size
    pub next : new.next ≡ old.next
    pub pair_next : new.pair_next ≡ max old.pair_next (free_number n)

  -- the error of a construction from the nodes: the first that applies, if any
  abbrev pub pair_nodes_refusal : (K → K → Ordering) → ℕ → List (List (MultiPair K V))
      → Option Refusal
  pair_nodes_refusal cmp size ns =
      if has_greatest (concat ns) then Some PairNumber else nodes_refusal (by_number cmp) size ns
