-- Lists of pairs, by key and by position.
use Rattle.std.specs.Prelude.{◌≡◌, ℕ, Bool, List, [], ◌∷◌, Option, if◌then◌else◌}
use Rattle.std.specs.Prelude.{filter, find, not, map, count_by, slice_get, slice_set}
use Rattle.std.specs.List.{list_any}
use Rattle.std.specs.Borrow.{Bor, MutBor}
use Rattle.std.specs.Fn.{Mut}
use Rattle.std.specs.Map.Calls.{CalledAtPair}
use Rattle.std.specs.Option.{option_map, option_map_or}
use Rattle.std.specs.Ordering.{is_eq, is_lt}
use Rattle.std.specs.declared.cmp.Ordering.{Ordering}
use Rattle.std.specs.declared.ops.Bound.{Bound}
use Rattle.indexset_core.specs.declared.pair.Pair.{Pair}
use Rattle.indexset_core.specs.KeyRange.{is_within}
use Rattle.indexset_core.specs.Order.{put, unequal}

module _ {K V : Type 0} where
  -- the pair of a key and a value
  abbrev pub pair : K → V → Pair K V
  pair k w = record { key = k; value = w }

  -- the pair with another value
  abbrev pub valued : Pair K V → V → Pair K V
  valued p w = record { key = p.key; value = w }

  -- the key and the value
  abbrev pub entry_of : Pair K V → K × V
  entry_of p = (p.key, p.value)

  -- the key and the value to which a `(&K, &V)` refers
  abbrev pub pair_deref : Bor K × Bor V → Pair K V
  pair_deref p = pair p.0.now p.1.now

  -- the order of pairs, which is that of their keys
  abbrev pub by_key : (K → K → Ordering) → Pair K V → Pair K V → Ordering
  by_key cmp p q = cmp p.key q.key

  -- the pairs, with w as the value at the position
  abbrev pub set_value_at : List (Pair K V) → ℕ → V → List (Pair K V)
  set_value_at l i w = option_map_or (λ p. slice_set l i (valued p w)) (slice_get l i) l

  -- the keys, in the order of the pairs
  abbrev pub pair_keys : List (Pair K V) → List K
  pair_keys l = map (λ p. p.key) l

  -- the values, in the order of the pairs
  abbrev pub pair_values : List (Pair K V) → List V
  pair_values l = map (λ p. p.value) l

  -- a call of the closure at the key and the value of p may return b and leave the value of q
  abbrev pub CalledOnPair : {F : Type 0}
      → Mut F (Bor K × (MutBor V × Unit {0})) (Bool × (MutBor V × Unit {0})) → F → Pair K V → Bool
      → F → Pair K V → Type 0
  CalledOnPair g f p b f' q = CalledAtPair g f p.key p.value b q.value f' × (q.key ≡ p.key)

  module _ {Q : Type 0} (cmp : K → Q → Ordering) where
    -- a pair has the key
    abbrev pub has_key : List (Pair K V) → Q → Bool
    has_key l k = list_any (λ p. is_eq (cmp p.key k)) l

    -- the pair of the key, if any
    abbrev pub pair_of : List (Pair K V) → Q → Option (Pair K V)
    pair_of l k = find (λ p. is_eq (cmp p.key k)) l

    -- the value of the key, if any
    abbrev pub value_of : List (Pair K V) → Q → Option V
    value_of l k = option_map (λ p. p.value) (pair_of l k)

    -- how many keys are below k
    abbrev pub key_rank : List (Pair K V) → Q → ℕ
    key_rank l k = count_by (λ p. is_lt (cmp p.key k)) l

    -- the pairs whose keys are below k
    abbrev pub pairs_below : List (Pair K V) → Q → List (Pair K V)
    pairs_below l k = filter (λ p. is_lt (cmp p.key k)) l

    -- the pairs whose keys are not below k
    abbrev pub pairs_from : List (Pair K V) → Q → List (Pair K V)
    pairs_from l k = filter (λ p. not (is_lt (cmp p.key k))) l

    -- the pairs whose keys satisfy both bounds
    abbrev pub pairs_within : List (Pair K V) → Bound Q → Bound Q → List (Pair K V)
    pairs_within l start end = filter (λ p. is_within cmp start end p.key) l

    -- the pairs without the one of the key
    abbrev pub without_key : List (Pair K V) → Q → List (Pair K V)
    without_key l k = unequal (λ p. cmp p.key k) l

  -- the pairs, with w as the value of the first pair that compares Equal, which keeps its key
  unfoldable pub set_found : (Pair K V → Ordering) → List (Pair K V) → V → List (Pair K V)
  set_found answer [] w = []
  set_found answer (p ∷ l) w = if is_eq (answer p) then valued p w ∷ l else p ∷ set_found answer l w

  -- the pairs, with w as the value of the pair of the key, which keeps its key
  abbrev pub set_value : {Q : Type 0} → (K → Q → Ordering) → List (Pair K V) → Q → V
      → List (Pair K V)
  set_value cmp l k w = set_found (λ p. cmp p.key k) l w

  -- the pairs, with w as the value of the pair of k, or, if there is none, with the pair of k and w
  -- inserted
  unfoldable pub put_value : (K → K → Ordering) → List (Pair K V) → K → V → List (Pair K V)
  put_value cmp l k w =
      if has_key cmp l k then set_value cmp l k w else put (by_key cmp) l (pair k w)
