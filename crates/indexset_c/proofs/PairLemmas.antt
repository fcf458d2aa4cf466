-- A key that has a value, and a key that has none.
use Rattle.std.proofs.Common.{◌≡◌, ℕ, List, Option, Some, None, Ordering, is_some, false, if◌then◌else◌, refl, sym, ap, ◌∙◌}
use Rattle.std.specs.Option.{option_map}
use Rattle.std.specs.Ordering.{is_eq}
use Rattle.indexset_core.specs.declared.pair.Pair.{Pair}
use Rattle.indexset_core.specs.Pairs.{has_key, key_rank, pair_of, value_of}
use Rattle.indexset_core.proofs.CallerLemmas.{absent_without, is_some-find}
use Rattle.indexset_spine.specs.Lengths.{lengths_without}
use Rattle.indexset_map.specs.Contents.{Contents, without_entry}

module _ {K V Q : Type 0} (cmp : K → Q → Ordering) (l : List (Pair K V)) (k : Q) where
  is_some-mapped : {X Y : Type 0} (f : X → Y) (o : Option X) → is_some (option_map f o) ≡ is_some o
  is_some-mapped f None = refl
  is_some-mapped f (Some x) = refl

  -- a key that has a value is present
  pub value_there : is_some (value_of cmp l k) ≡ has_key cmp l k
  value_there = is_some-mapped (λ p. p.value) (pair_of cmp l k) ∙ is_some-find (λ p. is_eq (cmp p.key k)) l

  pub no_value_no_key : value_of cmp l k ≡ None → has_key cmp l k ≡ false
  no_value_no_key h = sym value_there ∙ ap is_some h

-- removing an absent key does not change the map
pub absent_entry : {Q : Type 0} (order : ℕ → Q → Ordering) (m : Contents ℕ ℕ) (k : Q) → value_of order m.pairs k ≡ None → without_entry order m k ≡ m
absent_entry order m k h =
    let none = no_value_no_key order m.pairs k h in
    λ i. record { pairs = absent_without order m.pairs k none i; lengths = ap (λ b. if b then lengths_without m.lengths (key_rank order m.pairs k) else m.lengths) none i; size = m.size }
