-- The pairs of a map after a write of a value.
use Rattle.std.proofs.Common.{◌≡◌, ℕ, zero, suc, ◌-◌, ◌<◌, ◌≤◌, true, false, List, [], ◌∷◌, ◌++◌, length, take, Ordering, Option, Some, None, IsSome, is_some, slice_get, refl, ap, sym, ◌∙◌, arith}
use Rattle.std.specs.Borrow.{Bor}
use Rattle.std.specs.Option.{option_copied, option_map, option_map_or}
use Rattle.std.specs.Ordering.{is_eq}
use Rattle.std.specs.List.{insert, remove, slice_set}
use Rattle.std.proofs.Math.ListN.{drop_of_length-le}
use Rattle.std.proofs.lemmas.Bool.{false≢true}
use Rattle.std.proofs.lemmas.List.{append-nil}
use Rattle.indexset_core.specs.declared.pair.Pair.{Pair}
use Rattle.indexset_core.specs.Nodes.{node_lengths}
use Rattle.indexset_spine.specs.NodeList.{NodeList, items, with_item_at}
use Rattle.indexset_core.specs.Order.{IsGapFor, put}
use Rattle.indexset_core.specs.Pairs.{pair, valued, by_key, set_value_at, has_key, pair_of, value_of, set_value, put_value}
use Rattle.indexset_set.specs.SetPairs as cut
use Rattle.indexset_core.proofs.CallerLemmas.{gap_put, is_some-find}
use Rattle.indexset_set.proofs.CallerLemmas.{items-with_value_at, size-with_value_at}
use Rattle.indexset_map.specs.Contents.{Contents, contents, with_written}
use Rattle.indexset_spine.proofs.CallerLemmas.{node_lengths-set_joined}

module _ {K V : Type 0} where
  node_lengths-with_value_at : (s : NodeList (Pair K V)) (i : ℕ) (w : V) → node_lengths (cut.with_value_at s i w).nodes ≡ node_lengths s.nodes
  node_lengths-with_value_at s i w = elim (slice_get (items s) i) as (λ o. node_lengths (option_map_or (λ p. with_item_at s i (valued p w)) o s).nodes ≡ node_lengths s.nodes) [
    | Some p ↦ node_lengths-set_joined s.nodes i (valued p w)
    | None ↦ refl
  ]

  -- a write in the set is one in the map
  pub contents_written : (s : NodeList (Pair K V)) (m : Contents K V) (i : ℕ) (w : V) → contents s ≡ m → contents (cut.with_value_at s i w) ≡ with_written m i w
  contents_written s m i w e = (λ j. record {
    pairs = items-with_value_at s i w j;
    lengths = node_lengths-with_value_at s i w j;
    size = size-with_value_at s i w j;
  })
      ∙ ap (λ (n : Contents K V). with_written n i w) e

  pub set_cons : (q : Pair K V) (l : List (Pair K V)) (j : ℕ) (w : V) → q ∷ set_value_at l j w ≡ set_value_at (q ∷ l) (suc j) w
  set_cons q l j w = elim (slice_get l j) as (λ o. q ∷ option_map_or (λ p. slice_set l j (valued p w)) o l ≡ option_map_or (λ p. slice_set (q ∷ l) (suc j) (valued p w)) o (q ∷ l)) [
    | Some p ↦ refl
    | None ↦ refl
  ]

  -- the last of two writes at a position
  pub set_twice : (l : List (Pair K V)) (i : ℕ) (u w : V) → set_value_at (set_value_at l i u) i w ≡ set_value_at l i w
  set_twice [] i u w = refl
  set_twice (p ∷ l) zero u w = refl
  set_twice (p ∷ l) (suc i) u w =
      ap (λ t. set_value_at t (suc i) w) (sym (set_cons p l i u)) ∙ (sym (set_cons p (set_value_at l i u) i w) ∙ (ap (λ t. p ∷ t) (set_twice l i u w) ∙ set_cons p l i w))

  pub set_there : (l : List (Pair K V)) (i : ℕ) (w : V) → i < length l → option_map (λ p. p.value) (slice_get (set_value_at l i w) i) ≡ Some w
  set_there [] i w lt = absurd (omega arith)
  set_there (p ∷ l) zero w lt = refl
  set_there (p ∷ l) (suc i) w lt = ap (λ t. option_map (λ q. q.value) (slice_get t (suc i))) (sym (set_cons p l i w)) ∙ set_there l i w (omega arith)

  -- a write of a value keeps its key, and is lost with the removal of the pair
  pub set_key : (l : List (Pair K V)) (i : ℕ) (w : V) → option_map (λ p. p.key) (slice_get (set_value_at l i w) i) ≡ option_map (λ p. p.key) (slice_get l i)
  set_key [] i w = refl
  set_key (p ∷ l) zero w = refl
  set_key (p ∷ l) (suc i) w = ap (λ t. option_map (λ q. q.key) (slice_get t (suc i))) (sym (set_cons p l i w)) ∙ set_key l i w

  pub set_removed : (l : List (Pair K V)) (i : ℕ) (w : V) → remove (set_value_at l i w) i ≡ remove l i
  set_removed [] i w = refl
  set_removed (p ∷ l) zero w = refl
  set_removed (p ∷ l) (suc i) w = ap (λ t. remove t (suc i)) (sym (set_cons p l i w)) ∙ ap (λ t. p ∷ t) (set_removed l i w)

  -- a write of the value of a pair that was just put
  at_insert : (l : List (Pair K V)) (i : ℕ) (k : K) (v w : V) → i ≤ length l → set_value_at (insert l i (pair k v)) i w ≡ insert l i (pair k w)
  at_insert l zero k v w le = refl
  at_insert [] (suc i) k v w le = absurd (omega arith)
  at_insert (p ∷ l) (suc i) k v w le = sym (set_cons p (insert l i (pair k v)) i w) ∙ ap (λ t. p ∷ t) (at_insert l i k v w (omega arith))

  get_insert : (l : List (Pair K V)) (i : ℕ) (q : Pair K V) → i ≤ length l → slice_get (insert l i q) i ≡ Some q
  get_insert l zero q le = refl
  get_insert [] (suc i) q le = absurd (omega arith)
  get_insert (p ∷ l) (suc i) q le = get_insert l i q (omega arith)

  pub last_removed : (l : List (Pair K V)) → remove l (length l - 1) ≡ take (length l - 1) l
  last_removed l = ap (λ rest. take (length l - 1) l ++ rest) (drop_of_length-le l {i = suc (length l - 1)} (omega arith)) ∙ append-nil _

  -- a key is present if it has a pair
  pub key_of_pair : {Q : Type 0} (cmp : K → Q → Ordering) (l : List (Pair K V)) (k : Q) (r : Option (Bor (Pair K V))) → option_copied r ≡ pair_of cmp l k → is_some r ≡ has_key cmp l k
  key_of_pair cmp l k r e = same r ∙ (ap is_some e ∙ is_some-find (λ p. is_eq (cmp p.key k)) l) where
    same : (r : Option (Bor (Pair K V))) → is_some r ≡ is_some (option_copied r)
    same (Some p) = refl
    same None = refl

  -- a present key has a value
  pub value_there : {Q : Type 0} (cmp : K → Q → Ordering) (l : List (Pair K V)) (k : Q) → has_key cmp l k ≡ true → (r : Option (Bor V)) → option_copied r ≡ value_of cmp l k → IsSome r
  value_there cmp l k h r e = is_there r (pair_of cmp l k) e (is_some-find (λ p. is_eq (cmp p.key k)) l ∙ h) where
    is_there : (r : Option (Bor V)) (o : Option (Pair K V)) → option_copied r ≡ option_map (λ p. p.value) o → is_some o ≡ true → IsSome r
    is_there (Some v) o e there = refl
    is_there None (Some p) e there = absurd (cc)
    is_there None None e there = absurd (false≢true there)

  module _ (cmp : K → K → Ordering) (l : List (Pair K V)) (k : K) where
    pub put_there : has_key cmp l k ≡ true → (w : V) → put_value cmp l k w ≡ set_value cmp l k w
    unfolding put_value
    put_there h w = rw h refl

    pub put_new : has_key cmp l k ≡ false → (w : V) → put_value cmp l k w ≡ put (by_key cmp) l (pair k w)
    unfolding put_value
    put_new h w = rw h refl

    module _ (i : ℕ) (gap : (w : V) → IsGapFor (by_key cmp) l (pair k w) i) where
      pub put_read : (v : V) → option_map (λ p. p.value) (slice_get (put (by_key cmp) l (pair k v)) i) ≡ Some v
      put_read v = rw (gap_put (by_key cmp) l (pair k v) i (gap v)) (ap (option_map (λ p. p.value)) (get_insert l i (pair k v) (gap v).inside))

      pub put_written : has_key cmp l k ≡ false → (v w : V) → set_value_at (put (by_key cmp) l (pair k v)) i w ≡ put_value cmp l k w
      put_written h v w =
          ap (λ t. set_value_at t i w) (gap_put (by_key cmp) l (pair k v) i (gap v)) ∙ (at_insert l i k v w (gap v).inside ∙ (sym (gap_put (by_key cmp) l (pair k w) i (gap w)) ∙ sym (put_new h w)))

      pub kept_read : has_key cmp l k ≡ false → (v : V) → option_map (λ p. p.value) (slice_get (put_value cmp l k v) i) ≡ Some v
      kept_read h v = rw (put_new h v) (put_read v)

      pub kept_written : has_key cmp l k ≡ false → (v w : V) → set_value_at (put_value cmp l k v) i w ≡ put_value cmp l k w
      kept_written h v w = ap (λ t. set_value_at t i w) (put_new h v) ∙ put_written h v w
