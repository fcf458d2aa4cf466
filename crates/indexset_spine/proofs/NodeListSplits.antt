-- The nodes before a spot and those from it on, joined, and that each is a cut.
use Rattle.std.proofs.Common.{◌≡◌, ℕ, zero, suc, ◌+◌, ◌-◌, ◌<◌, ◌≤◌, ◌==◌, ◌&&◌, Bool, true, false, not, cond}
use Rattle.std.proofs.Common.{filter, List, [], ◌∷◌, ◌++◌, length, take, drop, nat_lt, if◌then◌else◌, refl}
use Rattle.std.proofs.Common.{sym, ap, ◌∙◌, subst, arith, length-append, length-take, length-drop, add-one}
use Rattle.std.proofs.lemmas.Bool.Decides.{nat_tests}
use Rattle.std.proofs.lemmas.List.{append-nil, length-map, get_or-map, take_at, drop_all, take-append-le, drop-append-le, nil_from_length, length-take-le}
use Rattle.std.proofs.lemmas.List.Elements.{All-cons, All-nil, All-append, All-take, All-drop, All-map, All-same, All-filter, All-weaker, filter_passes}
use Rattle.std.proofs.lemmas.Bool.{false≢true}
use Rattle.std.specs.List.{All, remove}
use Rattle.indexset_spine.specs.declared.spot.Spot.{Spot}
use Rattle.indexset_core.specs.Nodes.{concat, node_lengths, node_at}
use Rattle.indexset_spine.specs.NodeList.{AreNodeLengths, IsSpine, IsSpot, position_of}
use Rattle.indexset_spine.specs.Edits.{without_emptied, without_all_emptied, or_one_empty, left_nodes, right_nodes}
use Rattle.indexset_core.proofs.CallerLemmas.{concat-append, length-concat, around, joined_around}
use Rattle.indexset_spine.proofs.NodeListEdits.{spine_of, position_within}

zero_from_test : (n : ℕ) → (n == 0) ≡ true → n ≡ 0
zero_from_test n e = grind (arith, nat_tests)

some_from_test : (n : ℕ) → not (n == 0) ≡ true → 1 ≤ n
some_from_test zero e = absurd (false≢true e)
some_from_test (suc n) e = omega arith

module _ {X : Type 0} where
  take_mid : (fs n bs : List X) (i o : ℕ) → i ≡ length fs + o → o ≤ length n → take i (fs ++ (n ++ bs)) ≡ fs ++ take o n
  take_mid [] n bs i o e h = let e' : i ≡ o = omega arith in ap (λ j. take j (n ++ bs)) e' ∙ take-append-le o n bs h
  take_mid (f ∷ fs) n bs zero o e h = absurd (omega arith)
  take_mid (f ∷ fs) n bs (suc i) o e h = ap (λ l. f ∷ l) (take_mid fs n bs i o (omega arith) h)

  drop_mid : (fs n bs : List X) (i o : ℕ) → i ≡ length fs + o → o ≤ length n → drop i (fs ++ (n ++ bs)) ≡ drop o n ++ bs
  drop_mid [] n bs i o e h = let e' : i ≡ o = omega arith in ap (λ j. drop j (n ++ bs)) e' ∙ drop-append-le o n bs h
  drop_mid (f ∷ fs) n bs zero o e h = absurd (omega arith)
  drop_mid (f ∷ fs) n bs (suc i) o e h = drop_mid fs n bs i o (omega arith) h

  -- an empty node holds no item
  pub joined_emptied : (ns : List (List X)) (k : ℕ) → k < length ns → concat (without_emptied ns k) ≡ concat ns
  unfolding without_emptied
  joined_emptied ns k h =
      elim ((length (node_at ns k) == 0) && nat_lt 1 (length ns)) as (λ b. (length (node_at ns k) == 0) && nat_lt 1 (length ns) ≡ b → concat (if b then remove ns k else ns) ≡ concat ns) [
        | true ↦ λ e.
            let none : node_at ns k ≡ [] = nil_from_length (node_at ns k) (grind (arith, nat_tests)) in
            let split : concat (remove ns k) ≡ concat (take k ns) ++ concat (drop (k + 1) ns) = rw add-one (concat-append (take k ns) (drop (suc k) ns)) in
            split ∙ (ap (λ l. concat (take k ns) ++ (l ++ concat (drop (k + 1) ns))) (sym none) ∙ sym (joined_around ns k h))
        | false ↦ λ _. refl
      ] refl

  abbrev Filled : List X → Type 0
  Filled n = 1 ≤ length n

  abbrev Low : ℕ → List X → Type 0
  Low size n = length n ≤ size

  -- if only the k-th may be empty, the nodes are a cut without it
  cut_emptied : (ns : List (List X)) (k size : ℕ) → k < length ns → 2 ≤ size → All (Low size) ns
      → All Filled (take k ns) → All Filled (drop (k + 1) ns)
      → AreNodeLengths (node_lengths (without_emptied ns k)) size
  unfolding without_emptied
  cut_emptied ns k size h two low before after =
      let len : List X → ℕ = λ n. length n in
      elim ((length (node_at ns k) == 0) && nat_lt 1 (length ns))
      as (λ b. (length (node_at ns k) == 0) && nat_lt 1 (length ns) ≡ b
      → AreNodeLengths (node_lengths (if b then remove ns k else ns)) size) [
        | true ↦ λ e.
            let more : 1 < length ns = grind (arith, nat_tests) in
            rw (← add-one) (record {
              two = two;
              some = omega (arith, length-map (take k ns ++ drop (k + 1) ns) len, length-append (take k ns) (drop (k + 1) ns), length-take k ns, length-drop (k + 1) ns, h, more);
              bounded =
                  All-map (λ i. i ≤ size) len (take k ns ++ drop (k + 1) ns)
                  (All-append (Low size) (take k ns) (drop (k + 1) ns) (All-take (Low size) k ns low)
                  (All-drop (Low size) (k + 1) ns low));
              filled = λ _. All-map (λ i. 1 ≤ i) len (take k ns ++ drop (k + 1) ns) (All-append Filled (take k ns) (drop (k + 1) ns) before after);
            })
        | false ↦ λ e. record {
          two = two;
          some = omega (arith, length-map ns len, h);
          bounded = All-map (λ i. i ≤ size) len ns low;
          filled = λ more.
              let two_nodes : 1 < length ns = omega (arith, length-map ns len, more) in
              let some : 1 ≤ length (node_at ns k) = grind (arith, nat_tests) in
              All-map (λ i. 1 ≤ i) len ns
              (All-same Filled ns (take k ns ++ node_at ns k ∷ drop (k + 1) ns) (around ns k h)
              (All-append Filled (take k ns) (node_at ns k ∷ drop (k + 1) ns) before
              (All-cons Filled (node_at ns k) (drop (k + 1) ns) some after)));
        }
      ] refl

  all_lens : (P : ℕ → Type 0) (ns : List (List X)) → All P (node_lengths ns) → All (λ n. P (length n)) ns
  all_lens P ns h i d lt = let len : List X → ℕ = λ n. length n in subst P (get_or-map len ns i d 0 lt) (h i 0 (omega (arith, length-map ns len, lt)))

  module _ (ns : List (List X)) (size : ℕ) (is : AreNodeLengths (node_lengths ns) size) where
    low_all : All (Low size) ns
    low_all = all_lens (λ i. i ≤ size) ns is.bounded

    filled_all : 2 ≤ length ns → All Filled ns
    filled_all more = all_lens (λ i. 1 ≤ i) ns (is.filled (omega (arith, length-map ns (λ (n : List X). length n), more)))

    filled_before : (k : ℕ) → k < length ns → All Filled (take k ns)
    filled_before k h i d lt = All-take Filled k ns (filled_all (omega (arith, lt, length-take k ns))) i d lt

    filled_after : (k : ℕ) → All Filled (drop (k + 1) ns)
    filled_after k i d lt = All-drop Filled (k + 1) ns (filled_all (omega (arith, lt, length-drop (k + 1) ns))) i d lt

  module _ (ns : List (List X)) (s : Spot) (h : IsSpot ns s) where
    abbrev front : List (List X)
    front = take s.node ns ++ take s.offset (node_at ns s.node) ∷ []

    abbrev rest : List (List X)
    rest = drop s.offset (node_at ns s.node) ∷ drop (s.node + 1) ns

    long : length (take s.node ns) ≡ s.node
    long = length-take-le s.node ns (omega (arith, h.node_in))

    last_in : s.node < length front
    last_in = omega (arith, long, length-append (take s.node ns) (take s.offset (node_at ns s.node) ∷ []))

    pub joined_left : concat (left_nodes ns s) ≡ take (position_of ns s) (concat ns)
    unfolding left_nodes
    joined_left =
        let fs = concat (take s.node ns) in let bs = concat (drop (s.node + 1) ns) in let n = node_at ns s.node in
        joined_emptied front s.node last_in
        ∙ (concat-append (take s.node ns) (take s.offset n ∷ [])
        ∙ (ap (λ l. fs ++ l) (append-nil (take s.offset n))
        ∙ (sym (take_mid fs n bs (position_of ns s) s.offset refl h.offset_in) ∙ ap (take (position_of ns s)) (sym (joined_around ns s.node h.node_in)))))

    pub joined_right : concat (right_nodes ns s) ≡ drop (position_of ns s) (concat ns)
    unfolding right_nodes
    joined_right =
        let fs = concat (take s.node ns) in let bs = concat (drop (s.node + 1) ns) in let n = node_at ns s.node in
        joined_emptied rest 0 (omega arith)
        ∙ (sym (drop_mid fs n bs (position_of ns s) s.offset refl h.offset_in) ∙ ap (drop (position_of ns s)) (sym (joined_around ns s.node h.node_in)))

    module _ (size : ℕ) (is : AreNodeLengths (node_lengths ns) size) where
      node_low : Low size (node_at ns s.node)
      node_low = low_all ns size is s.node [] h.node_in

      cut_left : AreNodeLengths (node_lengths (left_nodes ns s)) size
      unfolding left_nodes
      cut_left =
          let n = node_at ns s.node in
          let none : drop (s.node + 1) front ≡ [] = drop_all (s.node + 1) front (omega (arith, long, length-append (take s.node ns) (take s.offset n ∷ []))) in
          cut_emptied front s.node size last_in is.two
          (All-append (Low size) (take s.node ns) (take s.offset n ∷ [])
          (All-take (Low size) s.node ns (low_all ns size is))
          (All-cons (Low size) (take s.offset n) [] (omega (arith, node_low, length-take s.offset n))
          (All-nil (Low size))))
          (All-same Filled (take s.node front) (take s.node ns) (take_at (take s.node ns) (take s.offset n ∷ []) s.node long) (filled_before ns size is s.node h.node_in))
          (All-same Filled (drop (s.node + 1) front) [] none (All-nil Filled))

      cut_right : AreNodeLengths (node_lengths (right_nodes ns s)) size
      unfolding right_nodes
      cut_right =
          let n = node_at ns s.node in
          cut_emptied rest 0 size (omega arith) is.two
          (All-cons (Low size) (drop s.offset n) (drop (s.node + 1) ns) (omega (arith, node_low, length-drop s.offset n)) (All-drop (Low size) (s.node + 1) ns (low_all ns size is)))
          (All-nil Filled) (filled_after ns size is s.node)

    pub spine_left : (size total : ℕ) → IsSpine (node_lengths ns) size total → IsSpine (node_lengths (left_nodes ns s)) size (position_of ns s)
    spine_left size total is =
        spine_of (left_nodes ns s) size (position_of ns s) (cut_left size is.is_cut)
        (sym (ap (λ (l : List X). length l) joined_left ∙ length-take-le (position_of ns s) (concat ns) (position_within ns s h)))

    pub spine_right : (size total : ℕ) → IsSpine (node_lengths ns) size total → IsSpine (node_lengths (right_nodes ns s)) size (total - position_of ns s)
    spine_right size total is =
        let e : length (concat (right_nodes ns s)) ≡ length (drop (position_of ns s) (concat ns)) = ap (λ (l : List X). length l) joined_right in
        spine_of (right_nodes ns s) size (total - position_of ns s) (cut_right size is.is_cut)
        (omega (arith, e, is.total_is, length-concat ns, length-drop (position_of ns s) (concat ns)))

-- the nodes without the empty ones
module _ {X : Type 0} where
  abbrev some_in : List X → Bool
  some_in n = not (length n == 0)

  concat-filter : (ns : List (List X)) → concat (filter some_in ns) ≡ concat ns
  concat-filter [] = refl
  concat-filter (n ∷ ns) =
      elim (length n == 0) as (λ b. (length n == 0) ≡ b → concat (cond (not b) (n ∷ filter some_in ns) (filter some_in ns)) ≡ n ++ concat ns) [
        | true ↦ λ e. let none : n ≡ [] = nil_from_length n (zero_from_test (length n) e) in concat-filter ns ∙ ap (λ l. l ++ concat ns) (sym none)
        | false ↦ λ _. ap (λ l. n ++ l) (concat-filter ns)
      ] refl

  joined_or_one : (ns : List (List X)) → concat (or_one_empty ns) ≡ concat ns
  joined_or_one [] = refl
  joined_or_one (n ∷ ns) = refl

  pub joined_all_emptied : (ns : List (List X)) → concat (without_all_emptied ns) ≡ concat ns
  unfolding without_all_emptied
  joined_all_emptied ns = joined_or_one (filter some_in ns) ∙ concat-filter ns

  cut_or_one : (ns : List (List X)) (size : ℕ) → 2 ≤ size → All (Low size) ns → All Filled ns → AreNodeLengths (node_lengths (or_one_empty ns)) size
  cut_or_one [] size two low filled = record {
    two = two;
    some = omega arith;
    bounded = All-cons (λ i. i ≤ size) 0 [] (omega arith) (All-nil (λ i. i ≤ size));
    filled = λ more. absurd (omega arith);
  }
  cut_or_one (n ∷ ns) size two low filled = record {
    two = two;
    some = omega arith;
    bounded = All-map (λ i. i ≤ size) (λ (n : List X). length n) (n ∷ ns) low;
    filled = λ _. All-map (λ i. 1 ≤ i) (λ (n : List X). length n) (n ∷ ns) filled;
  }

  pub cut_all_emptied : (ns : List (List X)) (size : ℕ) → 2 ≤ size → All (λ i. i ≤ size) (node_lengths ns) → AreNodeLengths (node_lengths (without_all_emptied ns)) size
  unfolding without_all_emptied
  cut_all_emptied ns size two low =
      cut_or_one (filter some_in ns) size two (All-filter some_in (Low size) ns (all_lens (λ i. i ≤ size) ns low))
      (All-weaker (λ n. some_in n ≡ true) Filled (λ n e. some_from_test (length n) e) (filter some_in ns) (filter_passes some_in ns))
