-- Two ascending lists, one after the other.
use Rattle.std.proofs.Common.{◌≡◌, ℕ, suc, ◌+◌, ◌-◌, ◌<◌, ◌≤◌, ◌↔◌, ◌⊎◌, true, false, List, [], ◌∷◌}
use Rattle.std.proofs.Common.{◌++◌, length, take, drop, get_or, Ordering, Some, slice_get, refl, ap}
use Rattle.std.proofs.Common.{sym, ◌∙◌, inl, inr, subst, arith, length-append, append_assoc}
use Rattle.std.specs.declared.cmp.Ordering.TheVariants.{Less}
use Rattle.std.specs.Cmp.{IsTotalOrder}
use Rattle.std.specs.List.{All, AllPairs, fold}
use Rattle.std.specs.Ordering.{is_lt}
use Rattle.std.proofs.lemmas.Bool.{cases_lt}
use Rattle.std.proofs.lemmas.List.{append-nil, drop_at, get_or_append_left, get_or-append-add, length-map, take_at}
use Rattle.std.proofs.lemmas.List.Edits.{insert_end}
use Rattle.std.proofs.lemmas.List.Elements.{All-append}
use Rattle.std.proofs.lemmas.List.Kept.{AllPairs-cons}
use Rattle.std.proofs.lemmas.List.Sums.{fold-append}
use Rattle.std.proofs.lemmas.Option.{get_or_from_slice_get, slice_get_within}
use Rattle.indexset_core.specs.Nodes.{concat, node_lengths}
use Rattle.indexset_core.specs.Order.{IsAscending, IsGapFor, has_equal, keep, put}
use Rattle.indexset_core.proofs.CallerLemmas.{gap_has_equal, gap_put, less_from, slice_get-right}
use Rattle.indexset_spine.specs.NodeList.{NodeList, AreNodeLengths, node_list, end_spot, with_all_last, with_last}
use Rattle.indexset_spine.specs.Edits.{FoldsPrefix}
use Rattle.indexset_spine.proofs.CallerLemmas.{cut_all_last, cut_last, empty_cut, end_node, end_offset, joined_all_last, joined_last, takes_all}
use Rattle.indexset_set.specs.SetAlgebra.{put_all}
use Rattle.indexset_set.specs.SetNodes.{PutsPrefix, nodes_kept, nodes_kept_all, nodes_put, nodes_put_all}
use Rattle.indexset_set.specs.SetSpots.{spot_of}
use Rattle.indexset_set.proofs.SetCloneLemmas.{gap_behind, keep_behind}
use Rattle.indexset_set.proofs.SetNodeLemmas.{kept_new, put_new, spot_told}

-- what holds within each of two lists, and across from one to the other
module _ {T : Type 0} (R : T → T → Type 0) where
  all_pairs_append : (xs ys : List T) → AllPairs R xs → AllPairs R ys → All (λ x. All (R x) ys) xs → AllPairs R (xs ++ ys)
  all_pairs_append [] ys front back across = back
  all_pairs_append (x ∷ xs) ys front back across =
      AllPairs-cons R x (xs ++ ys) (All-append (R x) xs ys (λ k d lt. front 0 (suc k) d (omega arith) (omega arith)) (across 0 x (omega arith)))
      (all_pairs_append xs ys (λ i j d lt inside. front (suc i) (suc j) d (omega arith) (omega arith)) back (λ k d lt. across (suc k) d (omega arith)))

-- two lists, and where one ends and the other begins
module _ {T : Type 0} (cmp : T → T → Ordering) (l r : List T) (last first : T) (last_is : slice_get l (length l - 1) ≡ Some last) (first_is : slice_get r 0 ≡ Some first) where
  last_at : (d : T) → get_or l (length l - 1) d ≡ last
  last_at d = get_or_from_slice_get l (length l - 1) last d last_is

  first_at : (d : T) → get_or r 0 d ≡ first
  first_at d = get_or_from_slice_get r 0 first d first_is

  upto_last : IsTotalOrder cmp → IsAscending cmp l → cmp last first ≡ Less → All (λ x. cmp x first ≡ Less) l
  upto_last o up less i d lt = elim (cases_lt i (length l - 1)) [
    | inl before ↦ o.trans (get_or l i d) last first (subst (λ x. cmp (get_or l i d) x ≡ Less) (last_at d) (up i (length l - 1) d before (omega arith))) less
    | inr at ↦ let e : i ≡ length l - 1 = omega arith in rw (e, last_at d) less
  ]

  inside : length l - 1 < length l
  inside = slice_get_within l (length l - 1) last last_is

  pub some : 0 < length r
  some = slice_get_within r 0 first first_is

  pub appended_ascending : IsTotalOrder cmp → IsAscending cmp l → IsAscending cmp r → cmp last first ≡ Less → IsAscending cmp (l ++ r)
  appended_ascending o up later less = all_pairs_append (λ x y. cmp x y ≡ Less) l r up later (λ i d lt k e le.
      let low : cmp (get_or l i d) first ≡ Less = upto_last o up less i d lt in
      elim (cases_lt 0 k) [
        | inl after ↦ o.trans (get_or l i d) first (get_or r k e) low (subst (λ x. cmp x (get_or r k e) ≡ Less) (first_at e) (later 0 k e after le))
        | inr at ↦ let z : k ≡ 0 = omega arith in rw (z, first_at e) low
      ])

  appended_less : IsAscending cmp (l ++ r) → cmp last first ≡ Less
  appended_less up =
      let at_last : get_or (l ++ r) (length l - 1) last ≡ last = get_or_append_left l r last (length l - 1) inside ∙ last_at last in
      let at_first : get_or (l ++ r) (length l + 0) last ≡ first = get_or-append-add l r 0 last ∙ first_at last in
      rw (at_last, at_first) at (up (length l - 1) (length l + 0) last (omega (arith, inside)) (omega (arith, some, length-append l r)))

  -- if these two ascend, so do both lists as one
  pub ends_tell : IsTotalOrder cmp → IsAscending cmp l → IsAscending cmp r → (is_lt (cmp last first) ≡ true) ↔ IsAscending cmp (l ++ r)
  ends_tell o up later = (λ less. appended_ascending o up later (less_from _ less), λ apart. ap is_lt (appended_less apart))

-- elements that are above all others are inserted after them
module _ {T : Type 0} (cmp : T → T → Ordering) where
  pub put_all_behind : (l xs : List T) → IsAscending cmp (l ++ xs) → l ++ xs ≡ put_all cmp l xs
  unfolding put_all
  put_all_behind l [] up = append-nil l
  put_all_behind l (x ∷ xs) up =
      let split : (l ++ x ∷ []) ++ xs ≡ l ++ x ∷ xs = append_assoc l (x ∷ []) xs in
      let behind : l ++ x ∷ [] ≡ put cmp l x = sym (gap_put cmp l x (length l) (gap_behind cmp l x xs up) ∙ insert_end l x) in
      sym split ∙ (put_all_behind (l ++ x ∷ []) xs (subst (IsAscending cmp) (sym split) up) ∙ ap (λ m. put_all cmp m xs) behind)

-- the first elements of an ascending list after another list
pub front_ascending : {T : Type 0} (cmp : T → T → Ordering) (l front rest : List T) → IsAscending cmp (l ++ (front ++ rest)) → IsAscending cmp (l ++ front)
front_ascending cmp l front rest up i j d lt inside =
    let whole = rw (← append_assoc l front rest) at up in
    rw (← get_or_append_left (l ++ front) rest d i (omega arith), ← get_or_append_left (l ++ front) rest d j inside) (whole i j d lt (omega (arith, inside, length-append (l ++ front) rest)))

-- and the others
pub back_ascending : {T : Type 0} (cmp : T → T → Ordering) (front rest : List T) → IsAscending cmp (front ++ rest) → IsAscending cmp rest
back_ascending cmp front rest up i j d lt inside =
    rw (← get_or-append-add front rest i d, ← get_or-append-add front rest j d) (up (length front + i) (length front + j) d (omega arith) (omega (arith, length-append front rest)))

-- an empty list on either side
pub behind_none : {T : Type 0} (cmp : T → T → Ordering) (l r : List T) → length l ≡ 0 → IsAscending cmp r → IsAscending cmp (l ++ r)
behind_none cmp [] r none up = up
behind_none cmp (x ∷ l) r none up = absurd (omega arith)

pub before_none : {T : Type 0} (cmp : T → T → Ordering) (l r : List T) → length r ≡ 0 → IsAscending cmp l → IsAscending cmp (l ++ r)
before_none cmp l [] none up = subst (IsAscending cmp) (sym (append-nil l)) up
before_none cmp l (x ∷ r) none up = absurd (omega arith)

-- if v is above all elements of the nodes ns, it is inserted after the last
module _ {T : Type 0} (cmp : T → T → Ordering) (size : ℕ) where
  module _ (ns : List (List T)) (v : T) (rest : List T) (is : AreNodeLengths (node_lengths ns) size) (up : IsAscending cmp (concat ns ++ v ∷ rest)) where
    gap : IsGapFor cmp (concat ns) v (length (concat ns))
    gap = gap_behind cmp (concat ns) v rest up

    none : has_equal cmp (concat ns) v ≡ false
    none = gap_has_equal cmp (concat ns) v _ gap

    all : All (λ x. cmp x v ≡ Less) (concat ns)
    all k d lt = gap.below_before k d (omega arith) lt

    place : end_spot ns ≡ spot_of cmp ns v
    place = spot_told cmp ns v v (end_spot ns) refl (end_node (λ x. cmp x v) size ns is all) (end_offset (λ x. cmp x v) size ns is all) (sym none)

    pub put_last : nodes_put cmp (node_list ns size) v ≡ with_last size ns v
    put_last = sym (put_new cmp (node_list ns size) v (end_spot ns) (with_last size ns v) place none refl)

    pub kept_last : nodes_kept cmp (node_list ns size) v ≡ with_last size ns v
    kept_last = sym (kept_new cmp (node_list ns size) v (end_spot ns) (with_last size ns v) place none refl)

    pub still_up : IsAscending cmp (concat (with_last size ns v) ++ rest)
    still_up = rw (joined_last size ns v (omega (arith, is.some, length-map ns (λ (n : List T). length n))), append_assoc (concat ns) (v ∷ []) rest) up

  pub put_all_last : (ns : List (List T)) (xs : List T) → AreNodeLengths (node_lengths ns) size
      → IsAscending cmp (concat ns ++ xs)
      → fold (λ ms x. nodes_put cmp (node_list ms size) x) ns xs ≡ fold (with_last size) ns xs
  put_all_last ns [] is up = refl
  put_all_last ns (x ∷ xs) is up =
      ap (λ ms. fold (λ ms x. nodes_put cmp (node_list ms size) x) ms xs) (put_last ns x xs is up)
      ∙ put_all_last (with_last size ns x) xs (cut_last size ns x is) (still_up ns x xs is up)

  pub kept_all_last : (ns : List (List T)) (xs : List T) → AreNodeLengths (node_lengths ns) size
      → IsAscending cmp (concat ns ++ xs)
      → fold (λ ms x. nodes_kept cmp (node_list ms size) x) ns xs ≡ fold (with_last size) ns xs
  kept_all_last ns [] is up = refl
  kept_all_last ns (x ∷ xs) is up =
      ap (λ ms. fold (λ ms x. nodes_kept cmp (node_list ms size) x) ms xs) (kept_last ns x xs is up)
      ∙ kept_all_last (with_last size ns x) xs (cut_last size ns x is) (still_up ns x xs is up)

  -- a set of ascending elements, made by blocks
  module _ (two : 2 ≤ size) (xs : List T) (ns : List (List T)) (made : ns ≡ with_all_last size ([] ∷ []) xs) where
    pub blocks_items : concat ns ≡ xs
    unfolding with_all_last
    blocks_items = ap concat made ∙ joined_all_last size ([] ∷ []) xs (empty_cut size two)

    pub blocks_nodes : IsAscending cmp xs → ns ≡ nodes_kept_all cmp (node_list ([] ∷ []) size) xs
    unfolding with_all_last nodes_kept_all
    blocks_nodes up = made ∙ sym (kept_all_last ([] ∷ []) xs (empty_cut size two) up)

  -- some first ones of those above
  module _ (ns ms : List (List T)) (xs rest : List T) (is : AreNodeLengths (node_lengths ns) size) (up : IsAscending cmp (concat ns ++ xs)) (taken : FoldsPrefix (with_last size) ns xs ms rest) where
    front_up : IsAscending cmp (concat ns ++ taken.0)
    front_up = front_ascending cmp (concat ns) taken.0 rest (rw taken.1 at up)

    made : concat ms ≡ concat ns ++ taken.0
    made = ap concat taken.2 ∙ joined_all_last size ns taken.0 is

    pub taken_ascending : IsAscending cmp (concat ms)
    taken_ascending = rw made front_up

    pub taken_put : FoldsPrefix (put cmp) (concat ns) xs (concat ms) rest
    unfolding put_all
    taken_put = (taken.0, taken.1, made ∙ put_all_behind cmp (concat ns) taken.0 front_up)

    pub taken_nodes : FoldsPrefix (λ ms x. nodes_put cmp (node_list ms size) x) ns xs ms rest
    taken_nodes = (taken.0, taken.1, taken.2 ∙ sym (put_all_last ns taken.0 is front_up))

  -- the nodes after all were inserted, or some
  pub nodes_all : (s : NodeList T) (xs rest : List T) (ms : List (List T)) → size ≡ s.size
      → FoldsPrefix (λ ms x. nodes_put cmp (node_list ms size) x) s.nodes xs ms rest → rest ≡ []
      → ms ≡ nodes_put_all cmp s xs
  unfolding nodes_put_all
  nodes_all s xs rest ms same h none = rw (← same) (takes_all (λ ms x. nodes_put cmp (node_list ms size) x) s.nodes ms xs rest h none)

  pub puts_some : (s : NodeList T) (xs rest : List T) (ms : List (List T)) → size ≡ s.size → FoldsPrefix (λ ms x. nodes_put cmp (node_list ms size) x) s.nodes xs ms rest → PutsPrefix cmp s xs ms rest
  unfolding nodes_put_all
  puts_some s xs rest ms same (front, is, made) = (
    length front,
    rw (← same) (made ∙ ap (fold (λ ms x. nodes_put cmp (node_list ms size) x) s.nodes) (sym (ap (take (length front)) is ∙ take_at front rest (length front) refl))),
    sym (ap (drop (length front)) is ∙ drop_at front rest (length front) refl),
  )

  -- v above the nodes ns and a run after them
  module _ (ns : List (List T)) (run : List T) (v : T) (is : AreNodeLengths (node_lengths ns) size) (up : IsAscending cmp (concat ns ++ (run ++ v ∷ []))) where
    run_up : IsAscending cmp ((concat ns ++ run) ++ v ∷ [])
    run_up = rw (append_assoc (concat ns) run (v ∷ [])) up

    pub run_kept : concat ns ++ (run ++ v ∷ []) ≡ keep cmp (concat ns ++ run) v
    run_kept = sym (append_assoc (concat ns) run (v ∷ [])) ∙ sym (keep_behind cmp (concat ns ++ run) v [] run_up)

    pub run_nodes : with_all_last size ns (run ++ v ∷ []) ≡ nodes_kept cmp (node_list (with_all_last size ns run) size) v
    unfolding with_all_last
    run_nodes =
        fold-append (with_last size) ns run (v ∷ [])
        ∙ sym (kept_last (fold (with_last size) ns run) v [] (cut_all_last size ns run is) (rw (joined_all_last size ns run is) run_up))

  -- all of the run is inserted, and then w, which is v
  module _ (ns ms : List (List T)) (run others : List T) (v w : T) (none : others ≡ []) (moved : ms ≡ with_all_last size ns run) (same : w ≡ v) where
    pub run_then_kept : (l : List T) → AreNodeLengths (node_lengths ns) size → l ≡ keep cmp (concat ms) w → l ++ others ≡ keep cmp (concat ns ++ run) v
    unfolding with_all_last
    run_then_kept l is kept =
        ap (λ xs. l ++ xs) none ∙ (append-nil l ∙ (kept ∙ (ap (keep cmp (concat ms)) same ∙ ap (λ m. keep cmp m v) (ap concat moved ∙ joined_all_last size ns run is))))

    pub run_then_nodes : (n : ℕ) (all : List (List T)) → n ≡ size → all ≡ nodes_kept cmp (node_list ms n) w
        → with_all_last size all others ≡ nodes_kept cmp (node_list (with_all_last size ns run) size) v
    unfolding with_all_last
    run_then_nodes n all sizes kept =
        ap (λ xs. fold (with_last size) all xs) none
        ∙ (kept ∙ (ap (λ i. nodes_kept cmp (node_list ms i) w) sizes ∙ (ap (nodes_kept cmp (node_list ms size)) same ∙ ap (λ z. nodes_kept cmp (node_list z size) v) moved)))

-- v after a run, some first values of which may be inserted
module _ {T : Type 0} (run others : List T) (v : T) where
  pub pushed_items : (l m : List T) → m ++ others ≡ l ++ run → m ++ (others ++ v ∷ []) ≡ l ++ (run ++ v ∷ [])
  pushed_items l m same = sym (append_assoc m others (v ∷ [])) ∙ (ap (λ xs. xs ++ v ∷ []) same ∙ append_assoc l run (v ∷ []))

  pub pushed_nodes : (size : ℕ) (ns ms : List (List T)) → with_all_last size ms others ≡ with_all_last size ns run → with_all_last size ms (others ++ v ∷ []) ≡ with_all_last size ns (run ++ v ∷ [])
  unfolding with_all_last
  pushed_nodes size ns ms same =
      fold-append (with_last size) ms others (v ∷ []) ∙ (ap (λ z. with_last size z v) same ∙ sym (fold-append (with_last size) ns run (v ∷ [])))

-- a run of which nothing is left
module _ {T : Type 0} (others : List T) (none : others ≡ []) where
  pub all_items : (l all : List T) → l ++ others ≡ all → l ≡ all
  all_items l all is = sym (append-nil l) ∙ (ap (λ xs. l ++ xs) (sym none) ∙ is)

  pub all_nodes : (size : ℕ) (ms all : List (List T)) → with_all_last size ms others ≡ all → ms ≡ all
  unfolding with_all_last
  all_nodes size ms all is = ap (λ xs. fold (with_last size) ms xs) (sym none) ∙ is

-- v above a list and a run after it
module _ {T : Type 0} (cmp : T → T → Ordering) (o : IsTotalOrder cmp) (l : List T) (v : T) where
  one_up : IsAscending cmp (v ∷ [])
  one_up i j d lt inside = absurd (omega (arith, lt, inside))

  pub joins_run : (run : List T) (last : T) → IsAscending cmp (l ++ run) → slice_get run (length run - 1) ≡ Some last → is_lt (cmp last v) ≡ true → IsAscending cmp (l ++ (run ++ v ∷ []))
  joins_run run last up is less =
      let inside = slice_get_within run (length run - 1) last is in
      let there : slice_get (l ++ run) (length (l ++ run) - 1) ≡ Some last = slice_get-right l run (length (l ++ run) - 1) (length run - 1) (omega (arith, inside, length-append l run)) ∙ is in
      rw (← append_assoc l run (v ∷ [])) (appended_ascending cmp (l ++ run) (v ∷ []) last v there refl o up one_up (less_from _ less))

  pub joins_none : (run : List T) → length run ≡ 0
      → (length l ≡ 0) ⊎ ((last : T) × (slice_get l (length l - 1) ≡ Some last) × (is_lt (cmp last v) ≡ true))
      → IsAscending cmp (l ++ run) → IsAscending cmp (l ++ (run ++ v ∷ []))
  joins_none [] e (inl none) up = behind_none cmp l (v ∷ []) none one_up
  joins_none [] e (inr (last, is, less)) up = appended_ascending cmp l (v ∷ []) last v is refl o (subst (IsAscending cmp) (append-nil l) up) one_up (less_from _ less)
  joins_none (x ∷ run) e h up = absurd (omega arith)
