-- The value of a key and the pairs of a map from byte strings.
use Rattle.std.proofs.Common.{◌≡◌, false, if◌then◌else◌, is_some, List, Option, Some, None, Ordering, refl, ap, sym, ◌∙◌}
use Rattle.std.specs.Option.{option_map}
use Rattle.std.specs.Ordering.{is_eq}
use Rattle.indexset_core.specs.declared.pair.Pair.{Pair}
use Rattle.indexset_core.specs.Pairs.{has_key, key_rank, pair_of, put_value, set_value, value_of}
use Rattle.indexset_core.proofs.CallerLemmas.{absent_without, is_some-find}
use Rattle.indexset_spine.specs.Lengths.{lengths_without}
use Rattle.indexset_map.specs.Contents.{Contents, without_entry}

is_some-mapped : {X Y : Type 0} (f : X → Y) (o : Option X) → is_some (option_map f o) ≡ is_some o
is_some-mapped f None = refl
is_some-mapped f (Some x) = refl

-- a key has a value if and only if it is present
pub has_value : {K V Q : Type 0} (order : K → Q → Ordering) (l : List (Pair K V)) (k : Q) → is_some (value_of order l k) ≡ has_key order l k
has_value order l k = is_some-mapped (λ p. p.value) (pair_of order l k) ∙ is_some-find (λ p. is_eq (order p.key k)) l

-- putting a value for a present key replaces its value
pub put_set : {K V : Type 0} (cmp : K → K → Ordering) (l : List (Pair K V)) (k : K) (v w : V) → value_of cmp l k ≡ Some v → set_value cmp l k w ≡ put_value cmp l k w
unfolding put_value
put_set cmp l k v w h = rw (sym (has_value cmp l k) ∙ ap is_some h) refl

-- removing an absent key does not change the map
pub kept_entry : {K V Q : Type 0} (order : K → Q → Ordering) (m : Contents K V) (k : Q) → value_of order m.pairs k ≡ None → without_entry order m k ≡ m
kept_entry order m k h =
    let none : has_key order m.pairs k ≡ false = sym (has_value order m.pairs k) ∙ ap is_some h in
    λ i. record { pairs = absent_without order m.pairs k none i; lengths = ap (λ b. if b then lengths_without m.lengths (key_rank order m.pairs k) else m.lengths) none i; size = m.size }
