-- Elements that are inserted into one node, before its last element.
use Rattle.std.proofs.Common.{◌≡◌, ℕ, suc, ◌+◌, ◌-◌, ◌<◌, ◌≤◌, ◌||◌, Bool, true, false, List, [], ◌∷◌}
use Rattle.std.proofs.Common.{◌++◌, length, take, drop, get_or, slice_set, slice_get, Some, Ordering}
use Rattle.std.proofs.Common.{refl, sym, ap, ◌∙◌, subst, inl, inr, arith, length-append, length-take}
use Rattle.std.proofs.Common.{append_assoc, length-set, get_or-set_same, get_or-set_other}
use Rattle.std.specs.declared.cmp.Ordering.TheVariants.{Less, Greater}
use Rattle.std.specs.Cmp.{IsTotalOrder}
use Rattle.std.specs.List.{All, AllWithin, HoldsAt, fold, insert, list_any}
use Rattle.std.specs.Ordering.{ordering_reverse, is_eq, is_gt, is_lt}
use Rattle.std.proofs.lemmas.Bool.{cases_lt, false≢true}
use Rattle.std.proofs.lemmas.Cmp.{tied_itself}
use Rattle.std.proofs.lemmas.List.{append-nil, get_or-append-add, get_or-take, get_or_append_left, get_or_default, set-get_or, set-set, take-append-drop}
use Rattle.std.proofs.lemmas.List.Elements.{filter-append}
use Rattle.std.proofs.lemmas.List.Folds.{list_any-append, list_any_none}
use Rattle.std.proofs.lemmas.Option.{get_or_from_slice_get, slice_get_within}
use Rattle.indexset_core.specs.Nodes.{ends_less, equal_at, concat, node_at, node_for, node_lengths}
use Rattle.indexset_core.specs.Order.{IsAscending, above, below, has_equal, put, rank}
use Rattle.indexset_core.specs.Parted.{less_count}
use Rattle.indexset_core.proofs.CallerLemmas.{Parts, count_parts, ends_last, filter_back, filter_front}
use Rattle.indexset_core.proofs.CallerLemmas.{found_has_equal, found_put, front-is_lt, gap_has_equal, gap_put}
use Rattle.indexset_core.proofs.CallerLemmas.{joined_around, length-concat-mono, length-concat-more, less_from}
use Rattle.indexset_core.proofs.CallerLemmas.{located_found, located_gap, node_found, parted_by_item, place_for}
use Rattle.indexset_spine.specs.declared.spot.Spot.{Spot}
use Rattle.indexset_spine.specs.NodeList.{AreNodeLengths, node_list, with_replaced}
use Rattle.indexset_spine.specs.Edits.{FoldsPrefix, with_item_in}
use Rattle.indexset_spine.proofs.CallerLemmas.{count-lengths, fold_grown, item_in_node, joined_set, last_is, last_parts, length-at, node_up, put_before, put_short}
use Rattle.indexset_set.specs.SetNodes.{nodes_put}
use Rattle.indexset_set.specs.SetSpots.{spot_of}
use Rattle.indexset_set.proofs.SetNodeLemmas.{put_new, put_there, spot_told}

or_none : (b : Bool) → (b || false) ≡ b
or_none true = refl
or_none false = refl

module _ {T : Type 0} (cmp : T → T → Ordering) (o : IsTotalOrder cmp) where
  over : (x y : T) → cmp x y ≡ Less → cmp y x ≡ Greater
  over x y h = o.antisymm y x ∙ ap ordering_reverse h

  -- a list with an element below its last one is not empty
  some_last : (x : T) (n : List T) → HoldsAt (λ l. cmp x l ≡ Less) n (length n - 1) → 0 < length n
  some_last x [] h = absurd (false≢true (ap is_eq (sym (h x) ∙ tied_itself o x)))
  some_last x (y ∷ ys) h = omega arith

  module _ (ns : List (List T)) (k : ℕ) (inside : k < length ns) where
    abbrev before : List T
    before = concat (take k ns)

    abbrev after : List T
    after = concat (drop (k + 1) ns)

    -- all elements before the node are below v, and all after it are above
    pub record GoesIn (v : T) : Type 0 where
      pub ends : AllWithin (λ n. ends_less (λ y. cmp y v) n ≡ true) ns 0 k
      pub low : All (λ y. cmp y v ≡ Less) before
      pub high : All (λ y. cmp y v ≡ Greater) after

    -- then v is or belongs there, independent of the node's other elements, if its last element is
    -- above v
    module _ (m : List T) (l v : T) (goes : GoesIn v) (less : cmp v l ≡ Less) where
      abbrev n : List T
      n = m ++ l ∷ []

      abbrev ms : List (List T)
      ms = slice_set ns k n

      there : (d : List T) → get_or ms k d ≡ n
      there d = get_or-set_same ns k n d inside

      not_less : ends_less (λ y. cmp y v) n ≡ false
      not_less = rw (last_is n m l refl) (ap is_lt (over v l less))

      named : k ≡ node_for (λ y. cmp y v) ms
      named = node_found (λ y. cmp y v) ms k (omega (arith, inside, length-set ns k n)) (omega (arith, inside, length-set ns k n))
          (λ j d lo hi. subst (λ u. ends_less (λ y. cmp y v) u ≡ true) (sym (get_or-set_other ns k j n d (λ same. omega (arith, same, hi)))) (goes.ends j d lo hi))
          (λ lt d. subst (λ u. ends_less (λ y. cmp y v) u ≡ false) (sym (there d)) not_less)

      has : has_equal cmp (concat ms) v ≡ has_equal cmp n v
      has =
          let same : T → Bool = λ x. is_eq (cmp x v) in
          let none_before : list_any same before ≡ false = list_any_none same before (λ j d lt. ap is_eq (goes.low j d lt)) in
          let none_after : list_any same after ≡ false = list_any_none same after (λ j d lt. ap is_eq (goes.high j d lt)) in
          ap (list_any same) (joined_set ns k n inside)
          ∙ (list_any-append same before (n ++ after)
          ∙ (ap (λ b. b || list_any same (n ++ after)) none_before
          ∙ (list_any-append same n after ∙ (ap (λ b. list_any same n || b) none_after ∙ or_none (list_any same n)))))

      spot : Bool → Spot
      spot found = record { node = k; offset = rank cmp n v; found = found }

      place : (found : Bool) → found ≡ has_equal cmp (concat ms) v → spot found ≡ spot_of cmp ms v
      unfolding spot
      place found e = spot_told cmp ms v v (spot found) refl named (ap (less_count (λ x. cmp x v)) (sym (there []))) e

      pub put_in : (size : ℕ) → IsAscending cmp n → length n < size → nodes_put cmp (node_list ms size) v ≡ slice_set ns k (put cmp n v)
      unfolding with_replaced with_item_in spot
      put_in size up short =
          let i = rank cmp n v in
          let parted = parted_by_item cmp o n up v in
          let whole = set-set ns k n (put cmp n v) in
          elim (equal_at (λ x. cmp x v) n i) as (λ b. equal_at (λ x. cmp x v) n i ≡ b → nodes_put cmp (node_list ms size) v ≡ slice_set ns k (put cmp n v)) [
            | true ↦ λ e.
                let found = located_found cmp n v i parted refl e in
                let equal : has_equal cmp (concat ms) v ≡ true = has ∙ found_has_equal cmp n v i found in
                let written : slice_set ns k (put cmp n v) ≡ with_replaced ms (spot true) v =
                sym whole ∙ ap (slice_set ms k) (found_put cmp n v i o up found ∙ ap (λ u. slice_set u i v) (sym (there []))) in
                sym (put_there cmp (node_list ms size) v (spot true) (slice_set ns k (put cmp n v)) (place true (sym equal)) equal written)
            | false ↦ λ e.
                let gap = located_gap cmp n v i parted refl e in
                let none : has_equal cmp (concat ms) v ≡ false = has ∙ gap_has_equal cmp n v i gap in
                let written : slice_set ns k (put cmp n v) ≡ with_item_in ms (spot false) v =
                sym whole ∙ ap (slice_set ms k) (gap_put cmp n v i gap ∙ ap (λ u. insert u i v) (sym (there []))) in
                let short_there : length (node_at ms k) < size = omega (arith, short, ap (λ (u : List T). length u) (there [])) in
                let inserted = put_short size ms (spot false) v (omega (arith, inside, length-set ns k n)) short_there in
                sym (put_new cmp (node_list ms size) v (spot false) (slice_set ns k (put cmp n v)) (place false (sym none)) none (written ∙ inserted))
          ] refl

    -- each value of a run in order
    module _ (size : ℕ) where
      pub run_in : (m xs : List T) (l : T) → IsAscending cmp (m ++ l ∷ []) → All GoesIn xs → All (λ x. cmp x l ≡ Less) xs → length (m ++ l ∷ []) + length xs ≤ size
          → fold (λ ms x. nodes_put cmp (node_list ms size) x) (slice_set ns k (m ++ l ∷ [])) xs ≡ slice_set ns k (fold (put cmp) (m ++ l ∷ []) xs)
      run_in m [] l up goes less fits = refl
      run_in m (x ∷ xs) l up goes less fits =
          let x_less : cmp x l ≡ Less = less 0 x (omega arith) in
          let next : put cmp (m ++ l ∷ []) x ≡ put cmp m x ++ l ∷ [] = put_before cmp m l x (over x l x_less) in
          let grown = fold_grown cmp o (m ++ l ∷ []) (x ∷ []) up in
          let first = put_in m l x (goes 0 x (omega arith)) x_less size up (omega (arith, fits)) in
          ap (λ ms. fold (λ ms x. nodes_put cmp (node_list ms size) x) ms xs) (first ∙ ap (slice_set ns k) next)
          ∙ (run_in (put cmp m x) xs l (subst (IsAscending cmp) next grown.up)
          (λ j d lt. goes (suc j) d (omega (arith, lt))) (λ j d lt. less (suc j) d (omega (arith, lt)))
          (omega (arith, fits, grown.most, ap (λ (u : List T). length u) next))
          ∙ ap (λ u. slice_set ns k (fold (put cmp) u xs)) (sym next))

    -- and the result for all elements
    put_among : (n : List T) (v : T) → GoesIn v → put cmp (before ++ (n ++ after)) v ≡ before ++ (put cmp n v ++ after)
    unfolding put
    put_among n v goes =
        let lt : T → Bool = λ x. is_lt (cmp x v) in
        let gt : T → Bool = λ x. is_gt (cmp x v) in
        let low_before : below cmp before v ≡ before = filter_back lt before 0 (omega arith) (λ j d lo hi. absurd (omega (arith, lo, hi))) (λ j d lo hi. ap is_lt (goes.low j d hi)) in
        let low_after : below cmp after v ≡ [] = filter_front lt after 0 (omega arith) (λ j d lo hi. absurd (omega (arith, lo, hi))) (λ j d lo hi. ap is_lt (goes.high j d hi)) in
        let high_before : above cmp before v ≡ [] = filter_front gt before 0 (omega arith) (λ j d lo hi. absurd (omega (arith, lo, hi))) (λ j d lo hi. ap is_gt (goes.low j d hi)) in
        let high_after : above cmp after v ≡ after = filter_back gt after 0 (omega arith) (λ j d lo hi. absurd (omega (arith, lo, hi))) (λ j d lo hi. ap is_gt (goes.high j d hi)) in
        let lows : below cmp (before ++ (n ++ after)) v ≡ before ++ below cmp n v =
        filter-append lt before (n ++ after)
        ∙ (ap (λ u. u ++ below cmp (n ++ after) v) low_before
        ∙ ap (λ u. before ++ u) (filter-append lt n after ∙ (ap (λ u. below cmp n v ++ u) low_after ∙ append-nil (below cmp n v)))) in
        let highs : above cmp (before ++ (n ++ after)) v ≡ above cmp n v ++ after =
        filter-append gt before (n ++ after)
        ∙ (ap (λ u. u ++ above cmp (n ++ after) v) high_before ∙ (filter-append gt n after ∙ ap (λ u. above cmp n v ++ u) high_after)) in
        ap (λ u. u ++ v ∷ above cmp (before ++ (n ++ after)) v) lows
        ∙ (ap (λ u. (before ++ below cmp n v) ++ v ∷ u) highs
        ∙ (append_assoc before (below cmp n v) (v ∷ (above cmp n v ++ after)) ∙ ap (λ u. before ++ u) (sym (append_assoc (below cmp n v) (v ∷ above cmp n v) after))))

    fold_among : (n xs : List T) → All GoesIn xs → fold (put cmp) (before ++ (n ++ after)) xs ≡ before ++ (fold (put cmp) n xs ++ after)
    fold_among n [] goes = refl
    fold_among n (x ∷ xs) goes = ap (λ u. fold (put cmp) u xs) (put_among n x (goes 0 x (omega arith))) ∙ fold_among (put cmp n x) xs (λ j d lt. goes (suc j) d (omega (arith, lt)))

    pub run_items : (xs : List T) → All GoesIn xs → concat (slice_set ns k (fold (put cmp) (node_at ns k) xs)) ≡ fold (put cmp) (concat ns) xs
    run_items xs goes =
        joined_set ns k (fold (put cmp) (node_at ns k) xs) inside
        ∙ (sym (fold_among (node_at ns k) xs goes) ∙ ap (λ u. fold (put cmp) u xs) (sym (joined_around ns k inside)))

    -- if `first` is inserted into the node, so is an element that is not below it, if the last
    -- element of the node is above that
    module _ (size : ℕ) (is : AreNodeLengths (node_lengths ns) size) (up : IsAscending cmp (concat ns)) (first : T) (found : k ≡ node_for (λ y. cmp y first) ns) where
      filled : 2 ≤ length ns → All (λ i. 1 ≤ i) (node_lengths ns)
      filled two = is.filled (omega (arith, two, count-lengths ns))

      in_before : (j : ℕ) (d : T) → j < length before → get_or (concat ns) j d ≡ get_or before j d
      in_before j d lt = ap (λ u. get_or u j d) (joined_around ns k inside) ∙ get_or_append_left before (node_at ns k ++ after) d j lt

      first_low : (j : ℕ) (d : T) → j < length before → cmp (get_or (concat ns) j d) first ≡ Less
      first_low j d lt =
          let answer : T → Ordering = λ y. cmp y first in
          let parted = parted_by_item cmp o (concat ns) up first in
          let parts : Parts (λ y. is_lt (answer y)) (concat ns) (less_count answer (concat ns)) = count_parts is_lt front-is_lt answer (concat ns) parted in
          let place : length (concat (take k ns)) + less_count answer (node_at ns k) ≡ less_count answer (concat ns) = rw found (place_for answer ns (omega (arith, inside)) filled parted) in
          less_from _ (parts.before j d (omega arith) (omega (arith, lt, place)))

      module _ (x : T) (from : (y : T) → cmp y first ≡ Less → cmp y x ≡ Less) (last : HoldsAt (λ l. cmp x l ≡ Less) (node_at ns k) (length (node_at ns k) - 1)) where
        some : 0 < length (node_at ns k)
        some = some_last x (node_at ns k) last

        low_at : (j : ℕ) (d : T) → j < length before → cmp (get_or (concat ns) j d) x ≡ Less
        low_at j d lt = from (get_or (concat ns) j d) (first_low j d lt)

        ends_at : (j : ℕ) (d : List T) → j < k → ends_less (λ y. cmp y x) (get_or ns j d) ≡ true
        ends_at j d lt =
            let here : j < length ns = omega (arith, lt, inside) in
            let u = node_at ns j in
            let full : 0 < length u = omega (arith, filled (omega (arith, lt, inside)) j 0 (omega (arith, here, count-lengths ns)), length-at ns j here) in
            let p = length (concat (take j ns)) + (length u - 1) in
            let low : p < length before = omega (arith, full, length-concat-more ns j here, length-concat-mono ns (j + 1) k (omega (arith, lt))) in
            let e : get_or ns j d ≡ u = get_or_default ns j d [] here in
            rw e (ends_last (λ y. cmp y x) u x full ∙ ap is_lt (ap (λ y. cmp y x) (sym (item_in_node ns j here (length u - 1) x (omega (arith, full)))) ∙ low_at p x low))

        high_at : (j : ℕ) (d : T) → j < length after → cmp (get_or after j d) x ≡ Greater
        high_at j d lt =
            let u = node_at ns k in
            let long : length (concat ns) ≡ length before + (length u + length after) =
            ap (λ (l : List T). length l) (joined_around ns k inside)
            ∙ omega (arith, length-append before (u ++ after), length-append u after) in
            let at_last = item_in_node ns k inside (length u - 1) d (omega (arith, some)) in
            let at : get_or (concat ns) (length before + (length u + j)) d ≡ get_or after j d =
            ap (λ l. get_or l (length before + (length u + j)) d) (joined_around ns k inside) ∙ (get_or-append-add before (u ++ after) (length u + j) d ∙ get_or-append-add u after j d) in
            let above_last = up (length before + (length u - 1)) (length before + (length u + j)) d (omega (arith, some)) (omega (arith, long, lt)) in
            over x (get_or after j d) (o.trans x (get_or u (length u - 1) d) (get_or after j d) (last d) (rw (at_last, at) at above_last))

        pub goes_in : GoesIn x
        goes_in = record {
          ends = λ j d lo hi. ends_at j d hi;
          low = λ j d lt. rw (← in_before j d lt) (low_at j d lt);
          high = high_at;
        }

      -- the first elements of an ascending list that begins with `first`, all below the last
      -- element of the node
      module _ (xs : List T) (count : ℕ) (order : IsAscending cmp xs) (begins : slice_get xs 0 ≡ Some first) (positive : 0 < count)
          (below_last : All (λ x. HoldsAt (λ l. cmp x l ≡ Less) (node_at ns k) (length (node_at ns k) - 1)) (take count xs)) where
        abbrev run : List T
        run = take count xs

        begun : 0 < length run
        begun = omega (arith, positive, length-take count xs, slice_get_within xs 0 first begins)

        read : (j : ℕ) (d : T) → j < length run → get_or run j d ≡ get_or xs j d
        read j d lt = get_or-take count xs j d (omega (arith, lt, length-take count xs))

        after_first : (j : ℕ) (d : T) → j < length run → (y : T) → cmp y first ≡ Less → cmp y (get_or run j d) ≡ Less
        after_first j d lt y h = elim (cases_lt 0 j) [
          | inl later ↦
              let above_first : cmp first (get_or xs j d) ≡ Less =
              subst (λ u. cmp u (get_or xs j d) ≡ Less) (get_or_from_slice_get xs 0 first d begins)
              (order 0 j d later (omega (arith, lt, length-take count xs))) in
              rw (read j d lt) (o.trans y first (get_or xs j d) h above_first)
          | inr at ↦ let e : j ≡ 0 = omega (arith, at) in rw (read j d lt, e, get_or_from_slice_get xs 0 first d begins) h
        ]

        pub run_goes : All GoesIn run
        run_goes j d lt = goes_in (get_or run j d) (after_first j d lt) (below_last j d lt)

        pub taken_run : FoldsPrefix (put cmp) (concat ns) xs (concat (slice_set ns k (fold (put cmp) (node_at ns k) (take count xs)))) (drop count xs)
        taken_run = (run, sym (take-append-drop count xs), run_items run run_goes)

        pub taken_run_nodes : length (node_at ns k) + count ≤ size
            → FoldsPrefix (λ ms x. nodes_put cmp (node_list ms size) x) ns xs
            (slice_set ns k (fold (put cmp) (node_at ns k) (take count xs))) (drop count xs)
        taken_run_nodes room =
            let u = node_at ns k in
            let parts = last_parts u (some_last (get_or run 0 first) u (below_last 0 first begun)) in
            let m = parts.0 in
            let l = parts.1 in
            let same : slice_set ns k (m ++ l ∷ []) ≡ ns = ap (slice_set ns k) (sym parts.2) ∙ set-get_or ns k [] in
            let node_order : IsAscending cmp (m ++ l ∷ []) = subst (IsAscending cmp) parts.2 (node_up ns k inside cmp up) in
            let less : All (λ x. cmp x l ≡ Less) run =
            λ j d lt.
            subst (λ y. cmp (get_or run j d) y ≡ Less)
            (get_or_from_slice_get u (length u - 1) l l (last_is u m l parts.2)) (below_last j d lt l) in
            let fits : length (m ++ l ∷ []) + length run ≤ size = omega (arith, room, length-take count xs, ap (λ (v : List T). length v) parts.2) in
            let puts : List (List T) → List (List T) = λ z. fold (λ ms x. nodes_put cmp (node_list ms size) x) z run in
            (run, sym (take-append-drop count xs), ap (λ v. slice_set ns k (fold (put cmp) v run)) parts.2 ∙ (sym (run_in size m run l node_order run_goes less fits) ∙ ap puts same))

  -- a prefix of a list inserted keeps the order
  pub grown_up : (l xs m rest : List T) → IsAscending cmp l → FoldsPrefix (put cmp) l xs m rest → IsAscending cmp m
  grown_up l xs m rest up taken = subst (IsAscending cmp) (sym taken.2) (fold_grown cmp o l taken.0 up).up
