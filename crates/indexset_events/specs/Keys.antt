-- Events of pairs, by key.
use Rattle.std.specs.Prelude.{ℕ, List}
use Rattle.std.specs.declared.cmp.Ordering.{Ordering}
use Rattle.indexset_core.specs.declared.pair.Pair.{Pair}
use Rattle.indexset_events.specs.declared.change.ChangeEventUnassigned.{ChangeEventUnassigned}
use Rattle.indexset_events.specs.Table.{removal_events}

module _ {K V : Type 0} where
  -- the events of the removal of the pair of the key, if any
  abbrev pub key_removal_events : {Q : Type 0} → (K → Q → Ordering) → ℕ → List (List (Pair K V))
      → Q → List (ChangeEventUnassigned (Pair K V))
  key_removal_events cmp size ns k = removal_events (λ p q. cmp p.key q) size ns k

  -- q is p with clones of its key and its value
  abbrev pub IsPairClone : (K → K → Type 0) → (V → V → Type 0) → Pair K V → Pair K V → Type 0
  IsPairClone C D p q = C p.key q.key × D p.value q.value
