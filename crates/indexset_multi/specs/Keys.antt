-- Lists of numbered pairs, by key.
use Rattle.std.specs.Prelude.{ℕ, ◌<◌, Bool, List, [], ◌∷◌, if◌then◌else◌}
use Rattle.std.specs.Prelude.{not, Option, filter, find, map}
use Rattle.std.specs.Borrow.{Bor}
use Rattle.std.specs.List.{All, list_any}
use Rattle.std.specs.Option.{option_map, option_map_or}
use Rattle.std.specs.Ordering.{is_eq}
use Rattle.std.specs.declared.cmp.Ordering.{Ordering}
use Rattle.std.specs.declared.ops.Bound.{Bound}
use Rattle.indexset_core.specs.declared.multipair.MultiPair.{MultiPair}
use Rattle.indexset_core.specs.declared.pair.Pair.{Pair}
use Rattle.indexset_core.specs.KeyRange.{is_within}
use Rattle.indexset_core.specs.MultiPairs.{by_number, numbered_pair, unnumbered}
use Rattle.indexset_core.specs.Order.{without}

-- the items without the first that passes the test
abbrev pub without_first : {X : Type 0} → (X → Bool) → List X → List X
without_first test [] = []
without_first test (x ∷ l) = if test x then l else x ∷ without_first test l

module _ {K V : Type 0} where
  -- the key and the value
  abbrev pub key_and_value : MultiPair K V → K × V
  key_and_value p = (p.key, p.value)

  -- the pair that a `(&K, &u64, &V)` refers to
  abbrev pub number_shown : Bor K × Bor ℕ × Bor V → MultiPair K V
  number_shown p = numbered_pair p.0.now p.2.now p.1.now

  -- the pairs without their numbers
  abbrev pub entries : List (MultiPair K V) → List (Pair K V)
  entries l = map unnumbered l

  -- each number is below n
  abbrev pub AreNumberedBelow : ℕ → List (MultiPair K V) → Type 0
  AreNumberedBelow n l = All (λ p. p.discriminator < n) l

  module _ {Q : Type 0} (cmp : K → Q → Ordering) where
    -- a pair has the key
    abbrev pub has_pair_of : List (MultiPair K V) → Q → Bool
    has_pair_of l k = list_any (λ p. is_eq (cmp p.key k)) l

    -- the pairs of the key
    abbrev pub pairs_of : List (MultiPair K V) → Q → List (MultiPair K V)
    pairs_of l k = filter (λ p. is_eq (cmp p.key k)) l

    -- the first pair of the key, if any
    abbrev pub first_pair : List (MultiPair K V) → Q → Option (MultiPair K V)
    first_pair l k = find (λ p. is_eq (cmp p.key k)) l

    -- the pairs of other keys
    abbrev pub without_pairs_of : List (MultiPair K V) → Q → List (MultiPair K V)
    without_pairs_of l k = filter (λ p. not (is_eq (cmp p.key k))) l

    -- the first pair of the key whose value equals w, if any
    abbrev pub equal_pair : (V → V → Bool) → List (MultiPair K V) → Q → V → Option (MultiPair K V)
    equal_pair eq l k w = find (λ p. eq p.value w) (pairs_of l k)

    -- the number of that pair, if any
    abbrev pub kept_number : (V → V → Bool) → List (MultiPair K V) → Q → V → Option ℕ
    kept_number eq l k w = option_map (λ p. p.discriminator) (equal_pair eq l k w)

    -- the pairs whose keys are within both bounds
    abbrev pub pairs_between : List (MultiPair K V) → Bound Q → Bound Q → List (MultiPair K V)
    pairs_between l start end = filter (λ p. is_within cmp start end p.key) l

  module _ (cmp : K → K → Ordering) where
    -- the pairs without an optional pair
    abbrev pub without_named : List (MultiPair K V) → Option (MultiPair K V) → List (MultiPair K V)
    without_named l pair = option_map_or (λ p. without (by_number cmp) l p) pair l
