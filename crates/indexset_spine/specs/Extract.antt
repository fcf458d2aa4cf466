-- A list from which a closure removes items, one by one.
use Rattle.std.specs.Prelude.{◌≡◌, ℕ, ◌≤◌, Bool, List, ◌++◌, sum, take, drop, Option}
use Rattle.std.specs.List.{between}
use Rattle.std.specs.List.Retain.{ExtractsNext}
use Rattle.indexset_spine.specs.declared.extract_range.ExtractRange.{ExtractRange}

-- a list in three parts: the items that stay, those for which the closure is not called yet, and
-- those after them
pub record ExtractState (X : Type 0) : Type 0 where
  pub stay : List X
  pub unasked : List X
  pub after : List X

module _ {X : Type 0} where
  -- the list, split at two positions
  abbrev pub extract_state : List X → ℕ → ℕ → ExtractState X
  extract_state l i j = record { stay = take i l; unasked = between i j l; after = drop j l }

  -- R is called from state s to t for the items up to the removed one, or for all, and those before
  -- it stay, as R leaves them
  pub record Extracts {S : Type 0} (R : S → X → Bool → S → X → Type 0) (s : S)
      (a : ExtractState X) (r : Option X) (t : S) (b : ExtractState X) : Type 0 where
    pub kept : List X
    pub step : ExtractsNext R s a.unasked r t kept b.unasked
    pub stays : b.stay ≡ a.stay ++ kept
    pub after : b.after ≡ a.after

-- positions of a list of so many items, in nodes of these lengths, with the number of items before
-- a node
pub record IsExtractRange (lengths : List ℕ) (count : ℕ) (a : ExtractRange) : Type 0 where
  pub order : a.front ≤ a.back
  pub inside : a.back ≤ count
  pub start : a.start ≡ sum (take a.node lengths)
