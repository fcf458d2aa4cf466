-- Lists of numbered pairs, by key and then by number.
use Rattle.std.specs.Prelude.{ℕ}
use Rattle.std.specs.Ordering.{nat_cmp, ordering_then}
use Rattle.std.specs.declared.cmp.Ordering.{Ordering}
use Rattle.indexset_core.specs.declared.multipair.MultiPair.{MultiPair}
use Rattle.indexset_core.specs.declared.pair.Pair.{Pair}

module _ {K V : Type 0} where
  abbrev pub numbered_pair : K → V → ℕ → MultiPair K V
  numbered_pair k w n = record { key = k; value = w; discriminator = n }

  -- the pair without its number
  abbrev pub unnumbered : MultiPair K V → Pair K V
  unnumbered p = record { key = p.key; value = p.value }

  -- the order of numbered pairs
  abbrev pub by_number : (K → K → Ordering) → MultiPair K V → MultiPair K V → Ordering
  by_number cmp p q = ordering_then (cmp p.key q.key) (nat_cmp p.discriminator q.discriminator)
