-- Nodes whose items are copies of those of other nodes.
use Rattle.std.specs.Prelude.{◌≡◌, ℕ, zero, suc, List, Some}
use Rattle.std.specs.List.{AllZip}
use Rattle.std.specs.declared.cmp.Ordering.{Ordering}
use Rattle.std.specs.declared.cmp.Ordering.TheVariants.{Equal}
use Rattle.indexset_events.specs.Replay.{replay}
use Rattle.indexset_events.specs.declared.change.ChangeEvent.{ChangeEvent}
use Rattle.indexset_replica.specs.Replica.{IsEqualClone}

module _ {T : Type 0} (cmp : T → T → Ordering) (C : T → T → Type 0) where
  -- each clone equals its source
  abbrev pub AreClonesEqual : Type 0
  AreClonesEqual = (x y : T) → C x y → cmp x y ≡ Equal

  -- y results from x by n clonings, each of which gives an equal clone
  abbrev pub IsCloneAfter : ℕ → T → T → Type 0
  IsCloneAfter zero x y = y ≡ x
  IsCloneAfter (suc n) x y = (z : T) × IsCloneAfter n x z × IsEqualClone cmp C z y

  -- y results from x by any number of clonings, each of which gives an equal clone
  abbrev pub IsCopy : T → T → Type 0
  IsCopy x y = (n : ℕ) × IsCloneAfter n x y

  -- the nodes have the same lengths, and the items of the second are copies of those of the first
  abbrev pub AreCopies : List (List T) → List (List T) → Type 0
  AreCopies = AllZip (AllZip IsCopy)

  -- the replay of the events turns the nodes ns into copies of the nodes `after`
  abbrev pub LeadsToCopies : List (List T) → List (ChangeEvent T) → List (List T) → Type 0
  LeadsToCopies ns es after =
      (made : List (List T)) × (replay cmp ns es ≡ Some made) × AreCopies after made
