-- The end of the items that are not found Greater, in a list and in nodes, and the comparisons of
-- an exponential search for it.
use Rattle.std.proofs.Common.{◌≡◌, ℕ, zero, suc, ◌+◌, ◌-◌, ◌*◌, ◌/◌, ◌<◌, ◌≤◌, ◌==◌, true}
use Rattle.std.proofs.Common.{false, if◌then◌else◌, List, [], ◌∷◌, length, take, min, Ordering}
use Rattle.std.proofs.Common.{Some, None, slice_get, refl, ap, sym, ◌∙◌, inl, inr, arith}
use Rattle.std.specs.Ordering.{is_eq, is_gt, is_le, is_lt}
use Rattle.std.specs.declared.cmp.Ordering.TheVariants.{Less, Equal, Greater}
use Rattle.std.proofs.lemmas.Bool.{cases_lt, false≢true, ne_eqb}
use Rattle.std.proofs.lemmas.List.{take_all}
use Rattle.std.proofs.lemmas.List.Sums.{count_by-le-length}
use Rattle.std.proofs.lemmas.Option.{get_or_from_slice_get, none-some, slice_get_within}
use Rattle.indexset_core.specs.Digits.{digits}
use Rattle.indexset_core.specs.Nodes.{equal_at, concat, node_at}
use Rattle.indexset_core.specs.Parted.{IsParted, less_count, not_greater_count}
use Rattle.indexset_core.proofs.CallerLemmas.{Parts, count_parts, digits-half, digits-left, digits-mono}
use Rattle.indexset_core.proofs.CallerLemmas.{digits-right, digits-zero, equal_read, front-is_le}
use Rattle.indexset_core.proofs.CallerLemmas.{front-is_lt, get_in_node, length-concat-more, parted_node}

-- the comparisons of an exponential search from `from`, with the bounds `low` and `high` so far, in
-- a list of `len` items
pub record Stepped (from low high len asked old : ℕ) : Type 0 where
  pub ahead : high ≡ len → low < high → asked + 1 ≤ old + digits (low - from + 1)
  pub bounded : high < len → asked + digits (high - low) ≤ old + (2 * digits (low - from) + 1)
  pub met : high ≤ low → asked ≤ old + (2 * digits (low - from) + 1)
  pub start : low ≡ from → high ≡ len → asked ≡ old

digits-next : (d : ℕ) → digits (d + 1) ≤ digits d + 1
digits-next d =
    let half : (2 * d + 1) / 2 ≡ d = omega arith in
    omega (arith, digits-half (2 * d + 1) (omega arith), ap digits half, digits-mono (d + 1) (2 * d + 1) (omega arith))

digits-double : (d : ℕ) → digits (d + 1 + (d + 1)) ≡ digits (d + 1) + 1
digits-double d =
    let half : (d + 1 + (d + 1)) / 2 ≡ d + 1 = omega arith in
    digits-half (d + 1 + (d + 1)) (omega arith) ∙ ap (λ n. digits n + 1) half

pub stepped_first : (from len asked : ℕ) → Stepped from from len len asked asked
stepped_first from len asked =
    let none : from - from + 1 ≡ 1 = omega arith in
    let one : digits 1 ≡ 1 = digits-half 1 (omega arith) ∙ ap (λ n. n + 1) digits-zero in
    record {
      ahead = λ _ lt. rw none (omega (arith, one));
      bounded = λ lt. absurd (omega (arith, lt));
      met = λ _. omega arith;
      start = λ _ _. refl;
    }

module _ (from low high len asked old : ℕ) (order : from ≤ low) (some : low < high) (within : high ≤ len) (now : Stepped from low high len asked old) where
  abbrev reach : ℕ
  reach = min (low - from) (high - low - 1)

  -- the next comparison
  abbrev pub next_at : ℕ
  next_at = low + (if high == len then reach else (high - low) / 2)

  ahead_at : high ≡ len → next_at ≡ low + reach
  ahead_at e = let is : (high == len) ≡ true = grind arith in rw is refl

  middle_at : high < len → next_at ≡ low + (high - low) / 2
  middle_at lt = let is : (high == len) ≡ false = ne_eqb high len (λ e. omega (arith, e, lt)) in rw is refl

  pub next_inside : (low ≤ next_at) × (next_at < high)
  next_inside = elim (cases_lt high len) [
    | inl lt ↦ (omega (arith, middle_at lt), omega (arith, middle_at lt))
    | inr ge ↦ let e : high ≡ len = omega (arith, within, ge) in (omega (arith, ahead_at e), omega (arith, ahead_at e))
  ]

  -- the item there is before the end
  pub stepped_on : (at : ℕ) → at ≡ next_at → Stepped from (at + 1) high len (asked + 1) old
  stepped_on at is = elim (cases_lt high len) [
    | inl lt ↦
        let m : at ≡ low + (high - low) / 2 = is ∙ middle_at lt in
        let bound = now.bounded lt in
        let fewer : digits (high - (at + 1)) + 1 ≤ digits (high - low) = rw m (digits-right low high some) in
        let more : digits (low - from) ≤ digits (at + 1 - from) = digits-mono (low - from) (at + 1 - from) (omega (arith, m)) in
        record {
          ahead = λ e. absurd (omega (arith, e, lt));
          bounded = λ _. omega (arith, bound, fewer, more);
          met = λ _. omega (arith, bound, fewer, more);
          start = λ e. absurd (omega (arith, e, m, order));
        }
    | inr ge ↦
        let e : high ≡ len = omega (arith, within, ge) in
        let m : at ≡ low + reach = is ∙ ahead_at e in
        let so_far = now.ahead e some in
        record {
          ahead = λ _ lt.
              let same : at + 1 - from + 1 ≡ low - from + 1 + (low - from + 1) = omega (arith, m, lt, order) in
              rw same (omega (arith, so_far, digits-double (low - from)));
          bounded = λ lt. absurd (omega (arith, e, lt));
          met = λ _. omega (arith, so_far, digits-mono (low - from + 1) (at + 1 - from) (omega (arith, m, order)));
          start = λ s. absurd (omega (arith, s, m, order));
        }
  ]

  -- the item there is past the end
  pub stepped_back : (at : ℕ) → at ≡ next_at → Stepped from low at len (asked + 1) old
  stepped_back at is = elim (cases_lt high len) [
    | inl lt ↦
        let m : at ≡ low + (high - low) / 2 = is ∙ middle_at lt in
        let bound = now.bounded lt in
        let fewer : digits (at - low) + 1 ≤ digits (high - low) = rw m (digits-left low high some) in
        record {
          ahead = λ e. absurd (omega (arith, e, lt, m));
          bounded = λ _. omega (arith, bound, fewer);
          met = λ _. omega (arith, bound, fewer);
          start = λ _ e. absurd (omega (arith, e, lt, m));
        }
    | inr ge ↦
        let e : high ≡ len = omega (arith, within, ge) in
        let m : at ≡ low + reach = is ∙ ahead_at e in
        let so_far = now.ahead e some in
        let next = digits-next (low - from) in
        record {
          ahead = λ f. absurd (omega (arith, f, e, m, some));
          bounded = λ _. omega (arith, so_far, next, digits-mono (at - low) (low - from) (omega (arith, m)));
          met = λ _. omega (arith, so_far, next);
          start = λ _ f. absurd (omega (arith, f, e, m, some));
        }
  ]

not_past : (a : Ordering) → is_gt a ≡ false → is_le a ≡ true
not_past Less h = refl
not_past Equal h = refl
not_past Greater h = absurd (false≢true (sym h))

past_not : (a : Ordering) → is_gt a ≡ true → is_le a ≡ false
past_not Less h = absurd (false≢true h)
past_not Equal h = absurd (false≢true h)
past_not Greater h = refl

pub at_most_all : {T : Type 0} (answer : T → Ordering) (l : List T) → not_greater_count answer l ≤ length l
at_most_all answer l = count_by-le-length (λ x. is_le (answer x)) l

-- the comparison with one item determines on which side of it the end is
module _ {T : Type 0} (answer : T → Ordering) (l : List T) (parted : IsParted answer l) where
  parts : Parts (λ x. is_le (answer x)) l (not_greater_count answer l)
  parts = count_parts is_le front-is_le answer l parted

  module _ (i : ℕ) (x : T) (here : slice_get l i ≡ Some x) where
    pub run_goes_on : is_le (answer x) ≡ true → i + 1 ≤ not_greater_count answer l
    run_goes_on passes = elim (cases_lt i (not_greater_count answer l)) [
      | inl lt ↦ omega arith
      | inr ge ↦ absurd (false≢true (sym (rw (get_or_from_slice_get l i x x here) at (parts.after i x ge (slice_get_within l i x here))) ∙ passes))
    ]

    pub run_stops : is_le (answer x) ≡ false → not_greater_count answer l ≤ i
    run_stops fails = elim (cases_lt i (not_greater_count answer l)) [
      | inl lt ↦ absurd (false≢true (sym fails ∙ rw (get_or_from_slice_get l i x x here) at (parts.before i x (omega arith) lt)))
      | inr ge ↦ ge
    ]

    pub run_passes : i < not_greater_count answer l → is_le (answer x) ≡ true
    run_passes lt = rw (get_or_from_slice_get l i x x here) at (parts.before i x (omega arith) lt)

    pub run_fails : not_greater_count answer l ≤ i → is_le (answer x) ≡ false
    run_fails ge = rw (get_or_from_slice_get l i x x here) at (parts.after i x ge (slice_get_within l i x here))

    pub goes_on : is_gt (answer x) ≡ false → i + 1 ≤ not_greater_count answer l
    goes_on h = run_goes_on (not_past (answer x) h)

    pub stops : is_gt (answer x) ≡ true → not_greater_count answer l ≤ i
    stops h = run_stops (past_not (answer x) h)

some_read : {T : Type 0} (l : List T) (i : ℕ) → i < length l → (x : T) × (slice_get l i ≡ Some x)
some_read [] i lt = absurd (omega arith)
some_read (x ∷ xs) zero lt = (x, refl)
some_read (x ∷ xs) (suc i) lt = some_read xs i (omega arith)

-- a node that is not empty has a first item
pub no_first : {T : Type 0} (l : List T) → 1 ≤ length l → slice_get l 0 ≡ None → ⊥
no_first [] some none = absurd (omega arith)
no_first (x ∷ l) some none = none-some x (sym none)

-- the item after those found Less
module _ {T : Type 0} (answer : T → Ordering) (l : List T) (parted : IsParted answer l) where
  abbrev first : ℕ
  first = less_count answer l

  abbrev last : ℕ
  last = not_greater_count answer l

  pub equal_goes_on : equal_at answer l first ≡ true → first + 1 ≤ last
  equal_goes_on found = elim (cases_lt first (length l)) [
    | inl lt ↦
        let here = some_read l first lt in
        run_goes_on answer l parted first here.0 here.1 (equal_le (answer here.0) (sym (equal_read answer l first here.0 here.1) ∙ found))
    | inr ge ↦ absurd (none l first ge found)
  ] where
    equal_le : (a : Ordering) → is_eq a ≡ true → is_le a ≡ true
    equal_le Less h = refl
    equal_le Equal h = refl
    equal_le Greater h = absurd (false≢true h)

    none : (l : List T) (i : ℕ) → length l ≤ i → equal_at answer l i ≡ true → ⊥
    none [] i ge e = false≢true e
    none (x ∷ xs) zero ge e = absurd (omega arith)
    none (x ∷ xs) (suc i) ge e = none xs i (omega arith) e

  less_parts : Parts (λ x. is_lt (answer x)) l first
  less_parts = count_parts is_lt front-is_lt answer l parted

  below_last : first ≤ last
  below_last = elim (cases_lt last first) [
    | inl lt ↦
        let here = some_read l last (omega (arith, less_parts.inside, lt)) in
        let less = rw (get_or_from_slice_get l last here.0 here.0 here.1) at (less_parts.before last here.0 (omega arith) lt) in
        absurd (omega (arith, run_goes_on answer l parted last here.0 here.1 (less_le (answer here.0) less)))
    | inr ge ↦ ge
  ] where
    less_le : (a : Ordering) → is_lt a ≡ true → is_le a ≡ true
    less_le Less h = refl
    less_le Equal h = absurd (false≢true h)
    less_le Greater h = absurd (false≢true h)

  pub none_equal : equal_at answer l first ≡ false → first ≡ last
  none_equal found = elim (cases_lt first (length l)) [
    | inl lt ↦
        let here = some_read l first lt in
        let not_less = rw (get_or_from_slice_get l first here.0 here.0 here.1) at (less_parts.after first here.0 (omega arith) lt) in
        omega (arith, below_last, run_stops answer l parted first here.0 here.1 (other (answer here.0) not_less (sym (equal_read answer l first here.0 here.1) ∙ found)))
    | inr ge ↦ omega (arith, below_last, ge, count_by-le-length (λ x. is_le (answer x)) l)
  ] where
    other : (a : Ordering) → is_lt a ≡ false → is_eq a ≡ false → is_le a ≡ false
    other Less h e = absurd (false≢true (sym h))
    other Equal h e = absurd (false≢true (sym e))
    other Greater h e = refl

-- how many items precede a node, and how many precede the end
abbrev pub before : {T : Type 0} → List (List T) → ℕ → ℕ
before ns k = length (concat (take k ns))

abbrev pub whole : {T : Type 0} → (T → Ordering) → List (List T) → ℕ
whole answer ns = not_greater_count answer (concat ns)

-- the same in nodes
module _ {T : Type 0} (answer : T → Ordering) (ns : List (List T)) (parted : IsParted answer (concat ns)) where
  module _ (k : ℕ) (lt : k < length ns) where
    abbrev pub here : ℕ
    here = not_greater_count answer (node_at ns k)

    node_parted : IsParted answer (node_at ns k)
    node_parted = parted_node answer ns k lt parted

    -- an item before the end is also before the end in its node
    pub reaches : (o : ℕ) → o < length (node_at ns k) → before ns k + o < whole answer ns → o + 1 ≤ here
    reaches o inside before_end =
        let x = some_read (node_at ns k) o inside in
        run_goes_on answer (node_at ns k) node_parted o x.0 x.1 (run_passes answer (concat ns) parted (before ns k + o) x.0 (get_in_node ns k o lt inside ∙ x.1) before_end)

    here_le : here ≤ length (node_at ns k)
    here_le = at_most_all answer (node_at ns k)

    at_least : 1 ≤ here → before ns k + here ≤ whole answer ns
    at_least some =
        let inside : here - 1 < length (node_at ns k) = omega (arith, here_le, some) in
        let x = some_read (node_at ns k) (here - 1) inside in
        let passes = run_passes answer (node_at ns k) node_parted (here - 1) x.0 x.1 (omega (arith, some)) in
        omega (arith, some, run_goes_on answer (concat ns) parted (before ns k + (here - 1)) x.0 (get_in_node ns k (here - 1) lt inside ∙ x.1) passes)

    at_most : whole answer ns ≤ before ns (k + 1) → whole answer ns ≤ before ns k + here
    at_most ended = elim (cases_lt here (length (node_at ns k))) [
      | inl inside ↦
          let x = some_read (node_at ns k) here inside in
          run_stops answer (concat ns) parted (before ns k + here) x.0 (get_in_node ns k here lt inside ∙ x.1) (run_fails answer (node_at ns k) node_parted here x.0 x.1 (omega arith))
      | inr ge ↦ omega (arith, ended, ge, length-concat-more ns k lt)
    ]

    -- the end is in the node of the last item before it
    pub ends_here : 1 ≤ here → whole answer ns ≤ before ns (k + 1) → before ns k + here ≡ whole answer ns
    ends_here some ended = omega (arith, at_least some, at_most ended)

    -- the end is in the node, before the node's end
    pub ends_inside : 1 ≤ here → here < length (node_at ns k) → before ns k + here ≡ whole answer ns
    ends_inside some inside =
        let x = some_read (node_at ns k) here inside in
        omega (
          arith,
          at_least some,
          run_stops answer (concat ns) parted (before ns k + here) x.0 (get_in_node ns k here lt inside ∙ x.1) (run_fails answer (node_at ns k) node_parted here x.0 x.1 (omega arith)),
        )

    -- the comparison with the first item of a node determines on which side of it the end is
    module _ (x : T) (is : slice_get (node_at ns k) 0 ≡ Some x) where
      at_first : slice_get (concat ns) (before ns k + 0) ≡ Some x
      at_first = get_in_node ns k 0 lt (slice_get_within (node_at ns k) 0 x is) ∙ is

      pub starts : is_gt (answer x) ≡ false → before ns k < whole answer ns
      starts h = omega (arith, goes_on answer (concat ns) parted (before ns k + 0) x at_first h)

      pub starts_not : is_gt (answer x) ≡ true → whole answer ns ≤ before ns k
      starts_not h = omega (arith, stops answer (concat ns) parted (before ns k + 0) x at_first h)

  pub whole_le : whole answer ns ≤ before ns (length ns)
  whole_le = rw (take_all (length ns) ns (omega arith)) (at_most_all answer (concat ns))

digits-some : (m : ℕ) → 1 ≤ m → 1 ≤ digits m
digits-some m some = omega (arith, digits-half m some)

-- each node has an item
more_nodes : {T : Type 0} (ns : List (List T)) → ((k : ℕ) → k < length ns → 1 ≤ length (node_at ns k)) → (j n : ℕ) → j + n ≤ length ns → before ns j + n ≤ before ns (j + n)
more_nodes ns some j zero le = let same : j + 0 ≡ j = omega arith in rw same (omega arith)
more_nodes ns some j (suc n) le =
    let next : j + suc n ≡ j + n + 1 = omega arith in
    rw next (omega (arith, more_nodes ns some j n (omega arith), length-concat-more ns (j + n) (omega arith), some (j + n) (omega arith)))

-- the comparisons of a search for the end, from `old` over `one` to `two` and `three`, if the end
-- is in the node of the place
pub few_near : (start offset end one two old : ℕ) → offset < end → one ≤ old + (2 * digits (end - (offset + 1)) + 1)
    → (offset + 1 ≡ end → one ≡ old) → two ≤ one + (2 * digits 0 + 1)
    → two ≤ old + (1 + 8 * digits (start + end - (start + offset) - 1))
few_near start offset end one two old lt few none next =
    let same : start + end - (start + offset) - 1 ≡ end - (offset + 1) = omega arith in
    rw same (elim (cases_lt (offset + 1) end) [
      | inl more ↦ omega (arith, few, next, digits-zero, digits-some (end - (offset + 1)) (omega arith))
      | inr ge ↦ omega (arith, none (omega (arith, lt, ge)), next, digits-zero)
    ])

-- if the end is in a later node
pub few_far : {T : Type 0} (ns : List (List T)) → ((k : ℕ) → k < length ns → 1 ≤ length (node_at ns k))
    → (j k offset end one two three old : ℕ) → offset < length (node_at ns j) → j < k → k < length ns → 1 ≤ end
    → one ≤ old + (2 * digits (length (node_at ns j) - (offset + 1)) + 1) → two ≤ one + (2 * digits (k - j) + 1)
    → three ≤ two + (2 * digits (end - 1) + 1)
    → three ≤ old + (1 + 8 * digits (before ns k + end - (before ns j + offset) - 1))
few_far ns some j k offset end one two three old inside lt within begun first second third =
    let n = before ns k + end - (before ns j + offset) - 1 in
    let same : j + 1 + (k - (j + 1)) ≡ k = omega arith in
    let apart : before ns (j + 1) + (k - (j + 1)) ≤ before ns k = rw same at (more_nodes ns some (j + 1) (k - (j + 1)) (omega arith)) in
    let more = length-concat-more ns j (omega arith) in
    let left : length (node_at ns j) - (offset + 1) ≤ n = omega (arith, apart, more, inside, begun) in
    let nodes : k - j ≤ n = omega (arith, apart, more, inside, begun, lt) in
    let last : end - 1 ≤ n = omega (arith, apart, more, inside, begun) in
    omega (arith, first, second, third, digits-mono _ n left, digits-mono _ n nodes, digits-mono _ n last, digits-some n (omega (arith, nodes, lt)))

-- a place some items ahead that is in a later node
pub next_place : {T : Type 0} (ns : List (List T)) (k o left total size : ℕ) → k < length ns
    → size ≡ length (node_at ns k) → o ≤ size → before ns k + o + left ≡ total → total < length (concat ns)
    → size - o ≤ left → (k + 1 < length ns) × (before ns (k + 1) + 0 + (left - (size - o)) ≡ total)
next_place ns k o left total size lt is inside sum within long =
    let more = length-concat-more ns k lt in (
      elim (cases_lt (k + 1) (length ns)) [
        | inl lower ↦ lower
        | inr ge ↦
            let all : take (k + 1) ns ≡ ns = take_all (k + 1) ns ge in
            absurd (omega (arith, more, is, sum, within, long, inside, ap (λ l. length (concat l)) all))
      ],
      omega (arith, more, is, sum, long, inside),
    )
