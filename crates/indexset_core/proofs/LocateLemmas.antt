-- The node in which a search ends, and the spot in it.
use Rattle.std.proofs.Common.{◌≡◌, ℕ, zero, suc, ◌+◌, ◌-◌, ◌<◌, ◌≤◌, true, false, not, cond, List}
use Rattle.std.proofs.Common.{[], ◌∷◌, ◌++◌, length, map, get_or, take, slice_get, Some, None}
use Rattle.std.proofs.Common.{Ordering, refl, sym, ap, ◌∙◌, arith, subst, length-append, inl, inr}
use Rattle.std.specs.List.{All, AllWithin, HoldsAt, position_or_len}
use Rattle.std.specs.Ordering.{is_lt, is_eq}
use Rattle.std.proofs.lemmas.List.{append-nil, get_or_append_left, get_or-append-add, get_or_default, get_or-map, length-map}
use Rattle.std.proofs.lemmas.List.Sums.{sum_by-append, position_or_len_is, prefix_len_stops}
use Rattle.std.proofs.lemmas.Option.{slice_get_read}
use Rattle.std.proofs.lemmas.Bool.{false≢true, cases_lt}
use Rattle.indexset_core.specs.Nodes.{concat, node_lengths, ends_less, equal_at, node_for, node_at}
use Rattle.indexset_core.specs.Parted.{IsParted, less_count}
use Rattle.indexset_core.proofs.NodeLemmas.{get_or_in_node, length-concat-mono, length-concat-more, offset-le, length-held, node_read}
use Rattle.indexset_core.proofs.PartedLemmas.{passes_below, fails_above, count_parted, count_parts, front-is_lt}

module _ {X : Type 0} (answer : X → Ordering) where
  pub parted-left : (xs ys : List X) → IsParted answer (xs ++ ys) → IsParted answer xs
  parted-left xs ys h i j d le lt =
      let a : get_or (xs ++ ys) i d ≡ get_or xs i d = get_or_append_left xs ys d i (omega arith) in
      let b : get_or (xs ++ ys) j d ≡ get_or xs j d = get_or_append_left xs ys d j lt in
      rw (← a, ← b) (h i j d le (omega (arith, length-append xs ys)))

  pub parted-right : (xs ys : List X) → IsParted answer (xs ++ ys) → IsParted answer ys
  parted-right xs ys h i j d le lt =
      rw (← get_or-append-add xs ys i d, ← get_or-append-add xs ys j d) (h (length xs + i) (length xs + j) d (omega arith) (omega (arith, length-append xs ys)))

  -- the last item of a node
  pub ends_last : (n : List X) (d : X) → 0 < length n → ends_less answer n ≡ is_lt (answer (get_or n (length n - 1) d))
  ends_last n d h =
      let inside : length n - 1 < length n = omega arith in
      let same : get_or n (length n - 1) d ≡ get_or n (length n - 1) (get_or n (length n - 1) d) = get_or_default n (length n - 1) d _ inside in
      rw (slice_get_read n (length n) (length n - 1) (get_or n (length n - 1) d) refl inside same) refl

  -- all items of a node whose last item compares Less compare Less
  less_all : (n : List X) → IsParted answer n → ends_less answer n ≡ true → less_count answer n ≡ length n
  less_all [] h e = absurd (false≢true e)
  less_all (x ∷ xs) h e =
      let n = x ∷ xs in
      let lt : length n - 1 < length n = omega arith in
      let all : AllWithin (λ y. is_lt (answer y) ≡ true) n 0 (length n - 1 + 1) = passes_below is_lt front-is_lt answer n h (length n - 1) lt (λ d. sym (ends_last n d (omega arith)) ∙ e) in
      count_parted (λ y. is_lt (answer y)) n (length n) (omega arith) (λ k d low high. all k d low (omega arith)) (λ k d low high. absurd (omega arith))

  -- no item after a node whose last item does not compare Less compares Less
  less_none : (n xs : List X) → 0 < length n → IsParted answer (n ++ xs) → ends_less answer n ≡ false → less_count answer xs ≡ 0
  less_none n xs some h e =
      let lt : length n - 1 < length (n ++ xs) = omega (arith, length-append n xs) in
      let last : (d : X) → get_or (n ++ xs) (length n - 1) d ≡ get_or n (length n - 1) d = λ d. get_or_append_left n xs d (length n - 1) (omega arith) in
      let fails = fails_above is_lt front-is_lt answer (n ++ xs) h (length n - 1) lt (λ d. rw (last d) (sym (ends_last n d some) ∙ e)) in
      count_parted (λ y. is_lt (answer y)) xs 0 (omega arith) (λ k d low high. absurd (omega arith))
      (λ k d low high. rw (← get_or-append-add n xs k d) (fails (length n + k) d (omega arith) (omega (arith, length-append n xs))))

  pub filled_at : (ns : List (List X)) → All (λ n. 1 ≤ n) (node_lengths ns) → (k : ℕ) → k < length ns → 0 < length (get_or ns k [])
  filled_at ns h k lt = omega (arith, subst (λ m. 1 ≤ m) (get_or-map (λ n. length n) ns k [] 0 lt) (h k 0 (omega (arith, length-map ns (λ n. length n)))))

  first : (n : List X) → 0 < length n → ((d : X) → is_lt (answer (get_or n (length n - 1) d)) ≡ true) → ends_less answer n ≡ true
  first [] some h = absurd (omega arith)
  first (x ∷ xs) some h = ends_last (x ∷ xs) x some ∙ h x

  -- if each node has an item, the nodes before one that ends Less end Less too
  pub ends_before : (ns : List (List X)) → All (λ n. 1 ≤ n) (node_lengths ns) → IsParted answer (concat ns)
      → (j k : ℕ) → j < k → k < length ns → ends_less answer (get_or ns k []) ≡ true
      → ends_less answer (get_or ns j []) ≡ true
  ends_before ns filled h j k lt inside e =
      let a = get_or ns j [] in let b = get_or ns k [] in
      let some_a : 0 < length a = filled_at ns filled j (omega arith) in
      let some_b : 0 < length b = filled_at ns filled k inside in
      let p = length (concat (take j ns)) + (length a - 1) in
      let q = length (concat (take k ns)) + (length b - 1) in
      let le : p ≤ q = omega (arith, length-concat-more ns j (omega arith), length-concat-mono ns (j + 1) k (omega arith)) in
      let low : q < length (concat ns) = omega (arith, offset-le ns k (length b) inside (omega arith)) in
      first a some_a (λ d.
      let at_a = get_or_in_node ns j (length a - 1) d (omega arith) (omega arith) in
      let at_b = get_or_in_node ns k (length b - 1) d inside (omega arith) in
      front-is_lt _ _ (rw (← at_a, ← at_b) (h p q d le low)) (sym (ends_last b d some_b) ∙ e))

  abbrev Filled : List (List X) → Type 0
  Filled ns = 2 ≤ length ns → All (λ n. 1 ≤ n) (node_lengths ns)

  node_for-one : (n : List X) → node_for answer (n ∷ []) ≡ 0
  node_for-one n = omega arith

  node_for-past : (n m : List X) (ms : List (List X)) → ends_less answer n ≡ true → node_for answer (n ∷ m ∷ ms) ≡ suc (node_for answer (m ∷ ms))
  node_for-past n m ms e = rw e (omega arith)

  node_for-here : (n : List X) (ns : List (List X)) → ends_less answer n ≡ false → node_for answer (n ∷ ns) ≡ 0
  node_for-here n ns e = rw e (omega arith)

  abbrev Place : List (List X) → ℕ → Type 0
  Place ns k = length (concat (take k ns)) + less_count answer (node_at ns k) ≡ less_count answer (concat ns)

  less_count-append : (xs ys : List X) → less_count answer (xs ++ ys) ≡ less_count answer xs + less_count answer ys
  less_count-append xs ys = sum_by-append (λ x. cond (is_lt (answer x)) 1 0) xs ys

  place_past : (n : List X) (ns : List (List X)) (k : ℕ) → less_count answer n ≡ length n → Place ns k → Place (n ∷ ns) (suc k)
  place_past n ns k all here = omega (arith, less_count-append n (concat ns), length-append n (concat (take k ns)))

  place_here : (n : List X) (ns : List (List X)) → less_count answer (concat ns) ≡ 0 → Place (n ∷ ns) 0
  place_here n ns none = omega (arith, less_count-append n (concat ns))

  -- the items before the spot compare Less, and no others do
  pub place_for : (ns : List (List X)) → 1 ≤ length ns → Filled ns → IsParted answer (concat ns) → Place ns (node_for answer ns)
  place_for [] some filled h = absurd (omega arith)
  place_for (n ∷ []) some filled h = rw (node_for-one n) (place_here n [] refl)
  place_for (n ∷ m ∷ ms) some filled h =
      let all = filled (omega arith) in
      let more : All (λ n. 1 ≤ n) (node_lengths (m ∷ ms)) = λ k d lt. all (suc k) d (omega arith) in
      elim (ends_less answer n) as (λ b. ends_less answer n ≡ b → Place (n ∷ m ∷ ms) (node_for answer (n ∷ m ∷ ms))) [
        | true ↦
            λ e.
            rw (node_for-past n m ms e)
            (place_past n (m ∷ ms) _ (less_all n (parted-left n (concat (m ∷ ms)) h) e)
            (place_for (m ∷ ms) (omega arith) (λ _. more) (parted-right n (concat (m ∷ ms)) h)))
        | false ↦ λ e. rw (node_for-here n (m ∷ ms) e) (place_here n (m ∷ ms) (less_none n (concat (m ∷ ms)) (all 0 0 (omega arith)) h e))
      ] refl

  stops : (ns : List (List X)) (k : ℕ) → position_or_len (λ n. not (ends_less answer n)) ns < k → k ≤ length ns → AllWithin (λ n. ends_less answer n ≡ true) ns 0 k → ⊥
  stops ns k early le before =
      let p = position_or_len (λ n. not (ends_less answer n)) ns in
      false≢true (sym (prefix_len_stops (λ n. not (not (ends_less answer n))) ns [] (omega arith)) ∙ ap (λ b. not (not b)) (before p [] (omega arith) early))

  -- a node that does not end Less has an item that does not compare Less
  less_some : (n : List X) → 0 < length n → IsParted answer n → ends_less answer n ≡ false → less_count answer n < length n
  less_some n some h e =
      let parts = count_parts is_lt front-is_lt answer n h in
      elim (cases_lt (less_count answer n) (length n)) [
        | inl lt ↦ lt
        | inr ge ↦ absurd (false≢true (sym e ∙ first n some (λ d. parts.before (length n - 1) d (omega arith) (omega arith))))
      ]

  abbrev Ends : List (List X) → ℕ → Type 0
  Ends ns k = length (node_at ns k) ≤ less_count answer (node_at ns k) → length (concat ns) ≤ length (concat (take k ns)) + less_count answer (node_at ns k)

  ends_past : (n : List X) (ns : List (List X)) (k : ℕ) → Ends ns k → Ends (n ∷ ns) (suc k)
  ends_past n ns k h le = omega (arith, h le, length-append n (concat ns), length-append n (concat (take k ns)))

  -- a spot after its node's last item is after the last item of all
  pub ends_for : (ns : List (List X)) → 1 ≤ length ns → Filled ns → IsParted answer (concat ns) → Ends ns (node_for answer ns)
  ends_for [] some filled h = absurd (omega arith)
  ends_for (n ∷ []) some filled h = rw (node_for-one n) (λ le. omega (arith, le, length-append n []))
  ends_for (n ∷ m ∷ ms) some filled h =
      let all = filled (omega arith) in
      let more : All (λ n. 1 ≤ n) (node_lengths (m ∷ ms)) = λ k d lt. all (suc k) d (omega arith) in
      elim (ends_less answer n) as (λ b. ends_less answer n ≡ b → Ends (n ∷ m ∷ ms) (node_for answer (n ∷ m ∷ ms))) [
        | true ↦ λ e. rw (node_for-past n m ms e) (ends_past n (m ∷ ms) _ (ends_for (m ∷ ms) (omega arith) (λ _. more) (parted-right n (concat (m ∷ ms)) h)))
        | false ↦ λ e. rw (node_for-here n (m ∷ ms) e) (λ le. absurd (omega (arith, le, less_some n (all 0 0 (omega arith)) (parted-left n (concat (m ∷ ms)) h) e)))
      ] refl

  -- the items of a node are partitioned
  pub parted_node : (ns : List (List X)) (k : ℕ) → k < length ns → IsParted answer (concat ns) → IsParted answer (node_at ns k)
  parted_node [] k lt h = absurd (omega arith)
  parted_node (n ∷ ns) zero lt h = parted-left n (concat ns) h
  parted_node (n ∷ ns) (suc k) lt h = parted_node ns k (omega arith) (parted-right n (concat ns) h)

  -- the end of the search
  pub node_found : (ns : List (List X)) (k : ℕ) → 1 ≤ length ns → k ≤ length ns - 1
      → AllWithin (λ n. ends_less answer n ≡ true) ns 0 k
      → (k < length ns - 1 → HoldsAt (λ n. ends_less answer n ≡ false) ns k) → k ≡ node_for answer ns
  node_found ns k some le before here =
      let test = λ (n : List X). not (ends_less answer n) in
      elim (cases_lt k (length ns - 1)) [
        | inl lt ↦ omega (arith, position_or_len_is test ns k [] (omega arith) (λ j h. ap not (before j [] (omega arith) h)) (λ _. ap not (here lt [])))
        | inr ge ↦ elim (cases_lt (position_or_len test ns) k) [
          | inl early ↦ absurd (stops ns k early (omega arith) before)
          | inr late ↦ omega arith
        ]
      ]

  -- a node that ends Less, and all before it
  pub ends_until : (ns : List (List X)) → All (λ n. 1 ≤ n) (node_lengths ns) → IsParted answer (concat ns) → (k : ℕ)
      → k < length ns → ends_less answer (get_or ns k []) ≡ true
      → AllWithin (λ n. ends_less answer n ≡ true) ns 0 (k + 1)
  ends_until ns filled h k inside e j d low high =
      let same : get_or ns j d ≡ get_or ns j [] = get_or_default ns j d [] (omega arith) in
      rw same (elim (cases_lt j k) [
        | inl lt ↦ ends_before ns filled h j k lt inside e
        | inr ge ↦ let at : k ≡ j = omega arith in subst (λ i. ends_less answer (get_or ns i []) ≡ true) at e
      ])

-- the nodes as the code stores them
module _ {N X : Type 0} (answer : X → Ordering) (held : N → List X) where
  pub node_some : (vs : List N) (k : ℕ) (v : N) → k < length vs → v ≡ get_or vs k v → All (λ n. 1 ≤ n) (node_lengths (map held vs)) → 1 ≤ length (held v)
  node_some vs k v h e filled = subst (λ (l : List X). 1 ≤ length l) (node_read held vs k v h e []) (filled_at answer (map held vs) filled k (omega (arith, length-held held vs)))

  pub node_ends : (vs : List N) (k : ℕ) (v : N) (x : X) → k < length vs → v ≡ get_or vs k v → 1 ≤ length (held v)
      → x ≡ get_or (held v) (length (held v) - 1) x → (d : List X)
      → ends_less answer (get_or (map held vs) k d) ≡ is_lt (answer x)
  node_ends vs k v x h e some is d = ap (λ n. ends_less answer n) (node_read held vs k v h e d) ∙ (ends_last answer (held v) x some ∙ ap (λ y. is_lt (answer y)) (sym is))

-- the node that a search ends in, as the code reads it
pub searched : {N X : Type 0} (answer : X → Ordering) (held : N → List X) (vs : List N) (k : ℕ) (v : N)
    → 1 ≤ length vs → k ≡ node_for answer (map held vs) → v ≡ get_or vs k v
    → (k < length (map held vs)) × (held v ≡ node_at (map held vs) k)
searched answer held vs k v some at is =
    let long = length-held held vs in
    let inside : k < length vs = omega (arith, some, at, long) in
    (omega (arith, inside, long), sym (node_read held vs k v inside is []))

-- a node of nodes that hold no more than the size
pub small_at : {X : Type 0} (ns : List (List X)) (size k : ℕ) → k < length ns → All (λ n. n ≤ size) (node_lengths ns) → length (node_at ns k) ≤ size
small_at ns size k lt small =
    omega (arith, get_or-map (λ n. length n) ns k [] 0 lt, small k 0 (omega (arith, lt, length-map ns (λ n. length n))))

-- what is read at a position shows whether the item there compares Equal
pub equal_read : {X : Type 0} (answer : X → Ordering) (l : List X) (i : ℕ) (x : X) → slice_get l i ≡ Some x → equal_at answer l i ≡ is_eq (answer x)
equal_read answer l i x e = rw e refl

pub equal_none : {X : Type 0} (answer : X → Ordering) (l : List X) (i : ℕ) → slice_get l i ≡ None → equal_at answer l i ≡ false
equal_none answer l i e = rw e refl

-- the items of an only node are those of all
pub only_node : {N X : Type 0} (held : N → List X) (vs : List N) (v : N) → length vs ≡ 1 → v ≡ get_or vs 0 v → (concat (map held vs) ≡ held v) × (node_at (map held vs) 0 ≡ held v)
only_node held [] v one is = absurd (omega arith)
only_node held (w ∷ []) v one is = (append-nil (held w) ∙ ap held (sym is), ap held (sym is))
only_node held (w ∷ x ∷ vs) v one is = absurd (omega arith)
