-- The numbers in the events of a put and of a removal have at most 64 bits if those of the map
-- have.
use Rattle.std.proofs.Common.{Option, None, Some, ◌≡◌, ℕ, zero, suc, ◌+◌, ◌-◌, ◌/◌, ◌==◌, ◌<◌, ◌≤◌}
use Rattle.std.proofs.Common.{◌^◌, Bool, true, false, cond, List, [], ◌∷◌, length, get_or, set}
use Rattle.std.proofs.Common.{remove, take, drop, Ordering, sym, ap, ◌∙◌, subst, arith, length-append}
use Rattle.std.proofs.lemmas.List.{take-append-drop}
use Rattle.std.proofs.lemmas.List.Sums.{count_by-le-length}
use Rattle.std.specs.List.{find}
use Rattle.std.specs.Prelude.{IfSome}
use Rattle.std.specs.Option.{option_map_or}
use Rattle.std.specs.Ordering.{is_lt}
use Rattle.indexset_core.specs.Nodes.{concat, node_at}
use Rattle.indexset_core.specs.Order.{equal_element, has_equal, rank}
use Rattle.indexset_core.specs.Pairs.{by_key}
use Rattle.indexset_core.specs.declared.pair.Pair.{Pair}
use Rattle.indexset_events.specs.Merging.{item_removed, merge_after}
use Rattle.indexset_events.specs.Keys.{key_removal_events}
use Rattle.indexset_events.specs.Nodes.{is_filled, last_of}
use Rattle.indexset_events.specs.Table.{half_of, halving_events, is_after_last, merge_event, node_events, part_for, put_events, removal_by, replace_events, place_removal_events, target, target_events}
use Rattle.indexset_events.specs.declared.change.ChangeEventUnassigned.{ChangeEventUnassigned}
use Rattle.indexset_events.specs.declared.change.ChangeEventUnassigned.TheVariants.{InsertAt, RemoveAt, CreateNode, RemoveNode, SplitNode, MergeNodes}
use Rattle.indexset_events.proofs.CallerLemmas.{Each, each-append, each-left, each-right}
use Rattle.indexset_bench.specs.Texts.{PairFits}
use Rattle.indexset_wire.specs.Texts.{Texts}

-- ---- lists

module _ {X : Type 0} (Q : X → Type 0) where
  each_got : (xs : List X) (k : ℕ) (d : X) → Each Q xs → Q d → Q (get_or xs k d)
  each_got [] k d h other = other
  each_got (x ∷ xs) zero d h other = h.0
  each_got (x ∷ xs) (suc k) d h other = each_got xs k d h.1 other

  each_set : (xs : List X) (k : ℕ) (y : X) → Each Q xs → Q y → Each Q (set xs k y)
  each_set [] k y h new = tt
  each_set (x ∷ xs) zero y h new = (new, h.1)
  each_set (x ∷ xs) (suc k) y h new = (h.0, each_set xs k y h.1 new)

  each_removed : (xs : List X) (k : ℕ) → Each Q xs → Each Q (remove xs k)
  each_removed [] zero h = tt
  each_removed [] (suc k) h = tt
  each_removed (x ∷ xs) zero h = h.1
  each_removed (x ∷ xs) (suc k) h = (h.0, each_removed xs k h.1)

  each_last_or : (xs : List X) (d : X) → Each Q xs → Q d → Q (last_of xs d)
  each_last_or [] d h other = other
  each_last_or (x ∷ xs) d h other = each_last_or xs x h.1 h.0

  each_half : (full right : Bool) (xs : List X) → Each Q xs → Each Q (half_of full right xs)
  each_half false right xs h = h
  each_half true true xs h = each-right Q (take (length xs / 2) xs) (drop (length xs / 2) xs) (subst (Each Q) (sym (take-append-drop (length xs / 2) xs)) h)
  each_half true false xs h = each-left Q (take (length xs / 2) xs) (drop (length xs / 2) xs) (subst (Each Q) (sym (take-append-drop (length xs / 2) xs)) h)

  pub each_found : (p : X → Bool) (xs : List X) → Each Q xs → IfSome (find p xs) Q
  each_found p [] h = tt
  each_found p (x ∷ xs) h = at (p x) (each_found p xs h.1)
    where
      at : (b : Bool) → IfSome (find p xs) Q → IfSome (cond b (Some x) (find p xs)) Q
      at true rest = h.0
      at false rest = rest

  pub each_apart : (xss : List (List X)) → Each Q (concat xss) → Each (Each Q) xss
  each_apart [] h = tt
  each_apart (xs ∷ xss) h = (each-left Q xs (concat xss) h, each_apart xss (each-right Q xs (concat xss) h))

half_small : (n : ℕ) → n < 2 ^ 64 → n / 2 < 2 ^ 64
half_small n small = omega (arith, small)

half_length : {X : Type 0} (full right : Bool) (xs : List X) → length (half_of full right xs) ≤ length xs
half_length false right xs = omega arith
half_length true true xs = omega (arith, parts_length)
  where
    parts_length : length xs ≡ length (take (length xs / 2) xs) + length (drop (length xs / 2) xs)
    parts_length = sym (ap (λ l. length l) (take-append-drop (length xs / 2) xs)) ∙ length-append (take (length xs / 2) xs) (drop (length xs / 2) xs)
half_length true false xs = omega (arith, parts_length)
  where
    parts_length : length xs ≡ length (take (length xs / 2) xs) + length (drop (length xs / 2) xs)
    parts_length = sym (ap (λ l. length l) (take-append-drop (length xs / 2) xs)) ∙ length-append (take (length xs / 2) xs) (drop (length xs / 2) xs)

module _ {T : Type 0} (texts : Texts T) where
  -- ---- events

  -- the numbers of an event without a number have at most 64 bits
  abbrev pub PlainFits : ChangeEventUnassigned (Pair T T) → Type 0
  PlainFits (CreateNode max) = PairFits texts max
  PlainFits (RemoveNode max) = PairFits texts max
  PlainFits (InsertAt max p i) = PairFits texts max × PairFits texts p × (i < 2 ^ 64)
  PlainFits (RemoveAt max p i) = PairFits texts max × PairFits texts p × (i < 2 ^ 64)
  PlainFits (SplitNode max k) = PairFits texts max × (k < 2 ^ 64)
  PlainFits (MergeNodes max next) = PairFits texts max × PairFits texts next

  -- the pairs of a node are in range, and its length has at most 64 bits
  abbrev Fit : List (Pair T T) → Type 0
  Fit n = (length n < 2 ^ 64) × Each (PairFits texts) n

module _ {T : Type 0} (cmp : T → T → Ordering) where
  abbrev order : Pair T T → Pair T T → Ordering
  order = by_key cmp

module _ {T : Type 0} (cmp : T → T → Ordering) (texts : Texts T) where
  rank_small : (n : List (Pair T T)) (v : Pair T T) → Fit texts n → rank (order cmp) n v < 2 ^ 64
  rank_small n v fit = omega (arith, fit.0, count_by-le-length (λ x. is_lt (order cmp x v)) n)

  module _ (v : Pair T T) (new : PairFits texts v) where
    replace_fit : (n : List (Pair T T)) → Fit texts n → Each (PlainFits texts) (replace_events (order cmp) n v)
    unfolding replace_events
    replace_fit n fit = at (length n == 1) (i + 1 == length n)
      where
        i : ℕ
        i = rank (order cmp) n v

        at : (a b : Bool)
            → Each (PlainFits texts)
            (cond a (RemoveNode (get_or n i v) ∷ CreateNode v ∷ [])
            (cond b (RemoveAt (last_of n v) (get_or n i v) i ∷ InsertAt (get_or n (i - 1) v) v i ∷ [])
            (RemoveAt (last_of n v) (get_or n i v) i ∷ InsertAt (last_of n v) v i ∷ [])))
        at true b = (each_got (PairFits texts) n i v fit.1 new, (new, tt))
        at false true = (
          (each_last_or (PairFits texts) n v fit.1 new, each_got (PairFits texts) n i v fit.1 new, rank_small n v fit),
          ((each_got (PairFits texts) n (i - 1) v fit.1 new, new, rank_small n v fit), tt),
        )
        at false false = (
          (each_last_or (PairFits texts) n v fit.1 new, each_got (PairFits texts) n i v fit.1 new, rank_small n v fit),
          ((each_last_or (PairFits texts) n v fit.1 new, new, rank_small n v fit), tt),
        )

    node_fit : (n : List (Pair T T)) → Fit texts n → Each (PlainFits texts) (node_events (order cmp) n v)
    unfolding node_events
    node_fit n fit = at (has_equal (order cmp) n v)
      where
        at : (b : Bool) → Each (PlainFits texts) (cond b (replace_events (order cmp) n v) (InsertAt (last_of n v) v (rank (order cmp) n v) ∷ []))
        at true = replace_fit n fit
        at false = ((each_last_or (PairFits texts) n v fit.1 new, new, rank_small n v fit), tt)

    halving_fit : (size : ℕ) (n : List (Pair T T)) → Fit texts n → Each (PlainFits texts) (halving_events size n v)
    halving_fit size n fit = at (length n == size)
      where
        at : (b : Bool) → Each (PlainFits texts) (cond b (SplitNode (last_of n v) (length n / 2) ∷ []) [])
        at true = ((each_last_or (PairFits texts) n v fit.1 new, half_small (length n) fit.0), tt)
        at false = tt

    target_fit : (size : ℕ) (n : List (Pair T T)) → Fit texts n → Each (PlainFits texts) (target_events (order cmp) size n v)
    unfolding target_events
    target_fit size n fit =
        let part : Fit texts (part_for (order cmp) size n v) = (
          omega (arith, fit.0, half_length (length n == size) (is_after_last (order cmp) (take (length n / 2) n) v) n),
          each_half (PairFits texts) (length n == size) (is_after_last (order cmp) (take (length n / 2) n) v) n fit.1,
        ) in
        each-append (PlainFits texts) (halving_events size n v) (node_events (order cmp) (part_for (order cmp) size n v) v) (halving_fit size n fit) (node_fit (part_for (order cmp) size n v) part)

  -- ---- nodes

  module _ (size : ℕ) (few : size < 2 ^ 64) where
    at_fit : (ns : List (List (Pair T T))) (k : ℕ) → Each (λ n. length n ≤ size) ns → Each (PairFits texts) (concat ns) → Fit texts (node_at ns k)
    at_fit [] k small held = (omega arith, tt)
    at_fit (n ∷ ns) zero small held = (omega (arith, small.0, few), each-left (PairFits texts) n (concat ns) held)
    at_fit (n ∷ ns) (suc k) small held = at_fit ns k small.1 (each-right (PairFits texts) n (concat ns) held)

    module _ (ns : List (List (Pair T T))) (small : Each (λ n. length n ≤ size) ns) (held : Each (PairFits texts) (concat ns)) where
      pub put_fit : (v : Pair T T) → PairFits texts v → Each (PlainFits texts) (put_events (order cmp) size ns v)
      unfolding put_events
      put_fit v new = at (is_filled ns)
        where
          at : (b : Bool) → Each (PlainFits texts) (cond b (target_events (order cmp) size (node_at ns (target (order cmp) ns v)) v) (CreateNode v ∷ []))
          at true = target_fit v new size (node_at ns (target (order cmp) ns v)) (at_fit ns (target (order cmp) ns v) small held)
          at false = (new, tt)

      -- the nodes after an item is removed
      left_fit : (k i : ℕ) → Each (Each (PairFits texts)) (item_removed ns k i)
      left_fit k i = at (length (node_at ns k) == 1)
        where
          apart : Each (Each (PairFits texts)) ns
          apart = each_apart (PairFits texts) ns held

          at : (b : Bool) → Each (Each (PairFits texts)) (cond b (remove ns k) (set ns k (remove (node_at ns k) i)))
          at true = each_removed (Each (PairFits texts)) ns k apart
          at false = each_set (Each (PairFits texts)) ns k (remove (node_at ns k) i) apart (each_removed (PairFits texts) (node_at ns k) i (each_got (Each (PairFits texts)) ns k [] apart tt))

      taking_fit : (k i : ℕ) (x : Pair T T) → PairFits texts x → i < 2 ^ 64 → Each (PlainFits texts) (place_removal_events size ns k i x)
      taking_fit k i x gone less = (one (length n == 1), two (merge_after size ns k i))
        where
          n : List (Pair T T)
          n = node_at ns k

          one : (b : Bool) → PlainFits texts (cond b (RemoveNode x) (RemoveAt (last_of n x) x i))
          one true = gone
          one false = (each_last_or (PairFits texts) n x (at_fit ns k small held).1 gone, gone, less)

          name : (j : ℕ) → PairFits texts (last_of (node_at (item_removed ns k i) j) x)
          name j = each_last_or (PairFits texts) (node_at (item_removed ns k i) j) x (each_got (Each (PairFits texts)) (item_removed ns k i) j [] (left_fit k i) tt) gone

          two : (o : Option ℕ) → Each (PlainFits texts) (option_map_or (λ j. merge_event (item_removed ns k i) x j ∷ []) o [])
          two None = tt
          two (Some j) = ((name j, name (j + 1)), tt)

      pub key_removal_fit : (key : T) → Each (PlainFits texts) (key_removal_events cmp size ns key)
      unfolding removal_by
      key_removal_fit key = at (equal_element by n key) (each_found (PairFits texts) _ n fit.1)
        where
          by : Pair T T → T → Ordering
          by p q = cmp p.key q

          k : ℕ
          k = target by ns key

          n : List (Pair T T)
          n = node_at ns k

          fit : Fit texts n
          fit = at_fit ns k small held

          i : ℕ
          i = rank by n key

          place_small : i < 2 ^ 64
          place_small = omega (arith, fit.0, count_by-le-length (λ x. is_lt (by x key)) n)

          at : (o : Option (Pair T T)) → IfSome o (PairFits texts) → Each (PlainFits texts) (option_map_or (λ x. place_removal_events size ns k i x) o [])
          at None h = tt
          at (Some x) h = taking_fit k i x h place_small
