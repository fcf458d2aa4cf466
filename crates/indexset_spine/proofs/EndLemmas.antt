-- The end of a search in which each item compares Less.
use Rattle.std.proofs.Common.{◌≡◌, ℕ, ◌+◌, ◌-◌, ◌<◌, ◌≤◌, true, List, [], ◌∷◌, ◌++◌, length, take, drop, get_or, Ordering, subst, ap, sym, ◌∙◌, arith, length-append}
use Rattle.std.specs.declared.cmp.Ordering.TheVariants.{Less}
use Rattle.std.specs.List.{All}
use Rattle.std.specs.Ordering.{is_lt}
use Rattle.std.proofs.lemmas.List.{get_or_default, get_or_append_left, get_or-append-add}
use Rattle.indexset_core.specs.Nodes.{ends_less, concat, node_at, node_for, node_lengths}
use Rattle.indexset_core.specs.Parted.{less_count}
use Rattle.indexset_core.proofs.CallerLemmas.{count_parted, ends_last, joined_around, node_found}
use Rattle.indexset_spine.specs.NodeList.{AreNodeLengths}
use Rattle.indexset_spine.proofs.NodeListEdits.{node_filled}
use Rattle.indexset_index.proofs.CallerLemmas.{count-lengths}

module _ {X : Type 0} where
  -- what holds of all items holds of those of a node
  all_in_node : (P : X → Type 0) (ns : List (List X)) (k : ℕ) → k < length ns → All P (concat ns) → All P (node_at ns k)
  all_in_node P ns k h all i d lt =
      let fs = concat (take k ns) in let n = node_at ns k in let bs = concat (drop (k + 1) ns) in
      let whole = joined_around ns k h in
      let here : get_or (concat ns) (length fs + i) d ≡ get_or n i d = ap (λ l. get_or l (length fs + i) d) whole ∙ (get_or-append-add fs (n ++ bs) i d ∙ get_or_append_left n bs d i lt) in
      subst P here (all (length fs + i) d (omega (arith, ap (λ (l : List X). length l) whole, length-append fs (n ++ bs), length-append n bs, lt)))

  ends_of : (answer : X → Ordering) (n : List X) → 0 < length n → All (λ x. answer x ≡ Less) n → ends_less answer n ≡ true
  ends_of answer [] h all = absurd (omega arith)
  ends_of answer (x ∷ n) h all = ends_last answer (x ∷ n) x h ∙ ap is_lt (all (length (x ∷ n) - 1) x (omega arith))

  module _ (answer : X → Ordering) (size : ℕ) (ns : List (List X)) (is : AreNodeLengths (node_lengths ns) size) (all : All (λ x. answer x ≡ Less) (concat ns)) where
    some : 1 ≤ length ns
    some = omega (arith, is.some, count-lengths ns)

    before : (k : ℕ) (d : List X) → k < length ns - 1 → ends_less answer (get_or ns k d) ≡ true
    before k d h =
        let inside : k < length ns = omega arith in
        rw (get_or_default ns k d [] inside)
        (ends_of answer (node_at ns k) (node_filled ns k size inside (omega arith) is) (all_in_node (λ x. answer x ≡ Less) ns k inside all))

    pub end_node : length ns - 1 ≡ node_for answer ns
    end_node = node_found answer ns (length ns - 1) some (omega arith) (λ k d low high. before k d high) (λ lt. absurd (omega (arith, lt)))

    pub end_offset : length (node_at ns (length ns - 1)) ≡ less_count answer (node_at ns (length ns - 1))
    end_offset =
        let n = node_at ns (length ns - 1) in
        sym
        (count_parted (λ x. is_lt (answer x)) n (length n) (omega arith) (λ k d low high.
        ap is_lt (all_in_node (λ x. answer x ≡ Less) ns (length ns - 1) (omega (arith, some)) all k d high))
        (λ k d low high. absurd (omega (arith, low, high))))
