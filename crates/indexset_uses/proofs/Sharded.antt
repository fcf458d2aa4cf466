-- Filtering by key commutes with commands.
use Rattle.std.proofs.Common.{◌≡◌, ℕ, suc, ◌+◌, Bool, true, false, cond, List, [], ◌∷◌, ◌++◌, length}
use Rattle.std.proofs.Common.{map, get_or, take, drop, Ordering, not, refl, ap, sym, ◌∙◌, subst}
use Rattle.std.proofs.Common.{arith, append-nil, append_assoc, length-append, slice_set, add-one}
use Rattle.std.specs.declared.cmp.Ordering.TheVariants.{Less, Equal, Greater}
use Rattle.std.proofs.lemmas.List.Elements.{filter-append, filter_passes, All-append, All-filter}
use Rattle.std.proofs.lemmas.List.Kept.{AllPairs-filter}
use Rattle.std.proofs.lemmas.Bool.{false≢true}
use Rattle.std.proofs.lemmas.List.{take-append-drop, take_all, set_split}
use Rattle.std.proofs.lemmas.List.Sums.{length-filter, sum_by-cons}
use Rattle.std.specs.List.{All, count_by, filter, zip}
use Rattle.std.specs.Ordering.{is_lt, is_eq, is_gt, ordering_reverse}
use Rattle.std.specs.Cmp.{IsTotalOrder}
use Rattle.indexset_core.specs.Nodes.{concat, equal_at}
use Rattle.indexset_core.specs.Order.{IsAscending, below, above, rank, put, without, IsGapFor, unequal}
use Rattle.indexset_core.proofs.CallerLemmas.{located_found, located_gap, found_ascending, found_put, gap_at}
use Rattle.indexset_core.proofs.CallerLemmas.{gap_ascending, gap_put, gap_without, parted_by_item, filter_front}
use Rattle.indexset_core.proofs.CallerLemmas.{filter_back, equal_from, less_from, Parts, count_parted}
use Rattle.indexset_core.proofs.CallerLemmas.{count_parts, front-is_lt, concat-append, joined_around}
use Rattle.indexset_uses.specs.Shards.{after_command, after_commands, not_above, parts, subject, IsOwner}
use Rattle.indexset_uses.specs.declared.shards.Command.{Command}
use Rattle.indexset_uses.specs.declared.shards.Command.TheVariants.{Put, Cut}

pub filter_swap : {X : Type 0} (p q : X → Bool) (xs : List X) → filter p (filter q xs) ≡ filter q (filter p xs)
filter_swap p q [] = refl
filter_swap p q (x ∷ xs) = elim (q x) as (λ b. q x ≡ b → filter p (cond b (x ∷ filter q xs) (filter q xs)) ≡ filter q (cond (p x) (x ∷ filter p xs) (filter p xs))) [
  | true ↦ λ e. elim (p x) as (λ a. cond a (x ∷ filter p (filter q xs)) (filter p (filter q xs)) ≡ filter q (cond a (x ∷ filter p xs) (filter p xs))) [
    | true ↦ rw e (ap (λ ys. x ∷ ys) (filter_swap p q xs))
    | false ↦ filter_swap p q xs
  ]
  | false ↦ λ e. elim (p x) as (λ a. filter p (filter q xs) ≡ filter q (cond a (x ∷ filter p xs) (filter p xs))) [
    | true ↦ rw e (filter_swap p q xs)
    | false ↦ filter_swap p q xs
  ]
] refl

swap_without : {T : Type 0} (cmp : T → T → Ordering) (p : T → Bool) (l : List T) (v : T) → filter p (without cmp l v) ≡ without cmp (filter p l) v
unfolding unequal
swap_without cmp p l v = filter_swap p (λ x. not (is_eq (cmp x v))) l

module _ {T : Type 0} (cmp : T → T → Ordering) (o : IsTotalOrder cmp) where
  put_ascending : (l : List T) → IsAscending cmp l → (v : T) → IsAscending cmp (put cmp l v)
  put_ascending l up v =
      let i = rank cmp l v in let parted = parted_by_item cmp o l up v in
      elim (equal_at (λ x. cmp x v) l i) as (λ b. equal_at (λ x. cmp x v) l i ≡ b → IsAscending cmp (put cmp l v)) [
        | true ↦ λ e. let f = located_found cmp l v i parted refl e in rw (found_put cmp l v i o up f) (found_ascending cmp l v i o up f)
        | false ↦ λ e. let g = located_gap cmp l v i parted refl e in rw (gap_put cmp l v i g) (gap_ascending cmp l v i o g up)
      ] refl

  pub command_ascending : (l : List T) → IsAscending cmp l → (c : Command T) → IsAscending cmp (after_command cmp l c)
  unfolding unequal
  command_ascending l up (Put v) = put_ascending l up v
  command_ascending l up (Cut v) = AllPairs-filter (λ x y. cmp x y ≡ Less) (λ x. not (is_eq (cmp x v))) l up

  pub commands_ascending : (l : List T) → IsAscending cmp l → (cs : List (Command T)) → IsAscending cmp (after_commands cmp l cs)
  commands_ascending l up [] = up
  commands_ascending l up (c ∷ cs) = commands_ascending (after_command cmp l c) (command_ascending l up c) cs

  whole : (l : List T) (v : T) (i : ℕ) → IsGapFor cmp l v i → below cmp l v ++ above cmp l v ≡ l
  whole l v i gap =
      let front : below cmp l v ≡ take i l =
      filter_front (λ x. is_lt (cmp x v)) l i gap.inside (λ k d low high. ap is_lt (gap.below_before k d low high))
      (λ k d low high. ap is_lt (gap.above_after k d low high)) in
      let back : above cmp l v ≡ drop i l =
      filter_back (λ x. is_gt (cmp x v)) l i gap.inside (λ k d low high. ap is_gt (gap.below_before k d low high))
      (λ k d low high. ap is_gt (gap.above_after k d low high)) in
      rw (front, back) (take-append-drop i l)

  around_gap : (l : List T) → IsAscending cmp l → (v : T) → All (λ x. is_eq (cmp x v) ≡ false) l → IsGapFor cmp l v (rank cmp l v)
  around_gap l up v none = gap_at cmp l v (rank cmp l v) (parted_by_item cmp o l up v) refl (λ lt d. none (rank cmp l v) d lt)

  -- the items less than a border, and the others, are all items
  pub two_parts : (l : List T) → IsAscending cmp l → (b : T) → filter (λ x. is_lt (cmp x b)) l ++ filter (λ x. not (is_lt (cmp x b))) l ≡ l
  two_parts l up b =
      let k = count_by (λ x. is_lt (cmp x b)) l in
      let at : Parts (λ x. is_lt (cmp x b)) l k = count_parts is_lt front-is_lt (λ x. cmp x b) l (parted_by_item cmp o l up b) in
      let front : filter (λ x. is_lt (cmp x b)) l ≡ take k l = filter_front (λ x. is_lt (cmp x b)) l k at.inside at.before at.after in
      let back : filter (λ x. not (is_lt (cmp x b))) l ≡ drop k l =
      filter_back (λ x. not (is_lt (cmp x b))) l k at.inside (λ i d low high. ap not (at.before i d low high))
      (λ i d low high. ap not (at.after i d low high)) in
      rw (front, back) (take-append-drop k l)

  -- a test that has the same result for equal items
  module _ (p : T → Bool) (same : (x v : T) → cmp x v ≡ Equal → p x ≡ p v) where
    others : (l : List T) (v : T) → p v ≡ false → All (λ x. is_eq (cmp x v) ≡ false) (filter p l)
    others l v fails k d lt = elim (is_eq (cmp (get_or (filter p l) k d) v)) as (λ b. is_eq (cmp (get_or (filter p l) k d) v) ≡ b → b ≡ false) [
      | true ↦ λ e. absurd (false≢true (sym fails ∙ (sym (same (get_or (filter p l) k d) v (equal_from (cmp (get_or (filter p l) k d) v) e)) ∙ filter_passes p l k d lt)))
      | false ↦ λ e. refl
    ] refl

    gap_left : (l : List T) → IsAscending cmp l → (v : T) → p v ≡ false → IsGapFor cmp (filter p l) v (rank cmp (filter p l) v)
    gap_left l up v e = around_gap (filter p l) (AllPairs-filter (λ x y. cmp x y ≡ Less) p l up) v (others l v e)

    kept_put : (l : List T) → IsAscending cmp l → (v : T) → filter p (put cmp l v) ≡ cond (p v) (put cmp (filter p l) v) (filter p l)
    unfolding put
    kept_put l up v =
        let low : filter p (below cmp l v) ≡ below cmp (filter p l) v = filter_swap p (λ x. is_lt (cmp x v)) l in
        let high : filter p (above cmp l v) ≡ above cmp (filter p l) v = filter_swap p (λ x. is_gt (cmp x v)) l in
        filter-append p (below cmp l v) (v ∷ above cmp l v)
        ∙ elim (p v)
        as (λ c. p v ≡ c
        → filter p (below cmp l v) ++ cond c (v ∷ filter p (above cmp l v)) (filter p (above cmp l v))
        ≡ cond c (below cmp (filter p l) v ++ v ∷ above cmp (filter p l) v) (filter p l)) [
          | true ↦ λ e. rw (low, high) refl
          | false ↦ λ e. rw (low, high) (whole (filter p l) v (rank cmp (filter p l) v) (gap_left l up v e))
        ] refl

    kept_cut : (l : List T) → IsAscending cmp l → (v : T) → filter p (without cmp l v) ≡ cond (p v) (without cmp (filter p l) v) (filter p l)
    kept_cut l up v =
        let swapped : filter p (without cmp l v) ≡ without cmp (filter p l) v = swap_without cmp p l v in
        swapped ∙ elim (p v) as (λ c. p v ≡ c → without cmp (filter p l) v ≡ cond c (without cmp (filter p l) v) (filter p l)) [
          | true ↦ λ e. refl
          | false ↦ λ e. gap_without cmp (filter p l) v (rank cmp (filter p l) v) (gap_left l up v e)
        ] refl

    kept_command : (l : List T) → IsAscending cmp l → (c : Command T) → filter p (after_command cmp l c) ≡ cond (p (subject c)) (after_command cmp (filter p l) c) (filter p l)
    kept_command l up (Put v) = kept_put l up v
    kept_command l up (Cut v) = kept_cut l up v

    -- filtering the list after commands gives the list after filtering, with the commands whose
    -- items pass
    pub kept_commands : (l : List T) → IsAscending cmp l → (cs : List (Command T)) → filter p (after_commands cmp l cs) ≡ after_commands cmp (filter p l) (filter (λ c. p (subject c)) cs)
    kept_commands l up [] = refl
    kept_commands l up (c ∷ cs) =
        let rest = filter (λ c. p (subject c)) cs in
        kept_commands (after_command cmp l c) (command_ascending l up c) cs
        ∙ elim (p (subject c)) as (λ b. p (subject c) ≡ b → after_commands cmp (filter p (after_command cmp l c)) rest ≡ after_commands cmp (filter p l) (cond b (c ∷ rest) rest)) [
          | true ↦ λ e. ap (λ m. after_commands cmp m rest) (kept_command l up c ∙ rw e refl)
          | false ↦ λ e. ap (λ m. after_commands cmp m rest) (kept_command l up c ∙ rw e refl)
        ] refl

  same_below : (b x v : T) → cmp x v ≡ Equal → is_lt (cmp x b) ≡ is_lt (cmp v b)
  same_below b x v e = ap is_lt (o.congr x v b e)

  pub parts_joined : (bs l : List T) → IsAscending cmp l → concat (parts cmp (λ x. x) bs l) ≡ l
  parts_joined [] l up = append-nil l
  parts_joined (b ∷ bs) l up =
      let rest = filter (λ x. not (is_lt (cmp x b))) l in
      ap (λ more. filter (λ x. is_lt (cmp x b)) l ++ more) (parts_joined bs rest (AllPairs-filter (λ x y. cmp x y ≡ Less) (λ x. not (is_lt (cmp x b))) l up)) ∙ two_parts l up b

  pub parts_kept : (bs l : List T) → IsAscending cmp l → (cs : List (Command T))
      → map (λ (p : List T × List (Command T)). after_commands cmp p.0 p.1)
      (zip (parts cmp (λ x. x) bs l) (parts cmp subject bs cs))
      ≡ parts cmp (λ x. x) bs (after_commands cmp l cs)
  parts_kept [] l up cs = refl
  parts_kept (b ∷ bs) l up cs =
      let upper = λ (x : T). not (is_lt (cmp x b)) in
      let low = kept_commands (λ x. is_lt (cmp x b)) (same_below b) l up cs in
      let high = kept_commands upper (λ x v e. ap not (same_below b x v e)) l up cs in
      rw (low, high) (ap (λ more. after_commands cmp (filter (λ x. is_lt (cmp x b)) l) (filter (λ c. is_lt (cmp (subject c) b)) cs) ∷ more)
      (parts_kept bs (filter upper l) (AllPairs-filter (λ x y. cmp x y ≡ Less) upper l up) (filter (λ c. upper (subject c)) cs)))

-- a list between two others, whose items are less than a value before it and greater after it
module _ {T : Type 0} (cmp : T → T → Ordering) (v : T) (front s back : List T) (less : All (λ x. cmp x v ≡ Less) front) (more : All (λ x. cmp x v ≡ Greater) back) where
  around_filter : (test : Ordering → Bool)
      → filter (λ x. test (cmp x v)) (front ++ (s ++ back))
      ≡ filter (λ x. test (cmp x v)) front ++ (filter (λ x. test (cmp x v)) s ++ filter (λ x. test (cmp x v)) back)
  around_filter test = filter-append (λ x. test (cmp x v)) front (s ++ back) ∙ ap (λ ys. filter (λ x. test (cmp x v)) front ++ ys) (filter-append (λ x. test (cmp x v)) s back)

  all_front : (test : Ordering → Bool) → test Less ≡ true → filter (λ x. test (cmp x v)) front ≡ front
  all_front test e =
      filter_front (λ x. test (cmp x v)) front (length front) (omega arith)
      (λ k d low high. ap test (less k d high) ∙ e) (λ k d low high. absurd (omega arith))
      ∙ take_all (length front) front (omega arith)

  none_front : (test : Ordering → Bool) → test Less ≡ false → filter (λ x. test (cmp x v)) front ≡ []
  none_front test e = filter_front (λ x. test (cmp x v)) front 0 (omega arith) (λ k d low high. absurd (omega arith)) (λ k d low high. ap test (less k d high) ∙ e)

  all_back : (test : Ordering → Bool) → test Greater ≡ true → filter (λ x. test (cmp x v)) back ≡ back
  all_back test e = filter_back (λ x. test (cmp x v)) back 0 (omega arith) (λ k d low high. absurd (omega arith)) (λ k d low high. ap test (more k d high) ∙ e)

  none_back : (test : Ordering → Bool) → test Greater ≡ false → filter (λ x. test (cmp x v)) back ≡ []
  none_back test e = filter_front (λ x. test (cmp x v)) back 0 (omega arith) (λ k d low high. absurd (omega arith)) (λ k d low high. ap test (more k d high) ∙ e)

  pub around_rank : rank cmp (front ++ (s ++ back)) v ≡ length front + rank cmp s v
  around_rank =
      sym (length-filter (λ x. is_lt (cmp x v)) (front ++ (s ++ back)))
      ∙ (ap (λ (ys : List T). length ys) (rw (around_filter is_lt, all_front is_lt refl, none_back is_lt refl) (ap (λ ys. front ++ ys) (append-nil (filter (λ x. is_lt (cmp x v)) s))))
      ∙ (length-append front (filter (λ x. is_lt (cmp x v)) s) ∙ ap (λ n. length front + n) (length-filter (λ x. is_lt (cmp x v)) s)))

  pub around_put : front ++ (put cmp s v ++ back) ≡ put cmp (front ++ (s ++ back)) v
  unfolding put
  around_put =
      rw (
        around_filter is_lt,
        around_filter is_gt,
        all_front is_lt refl,
        none_front is_gt refl,
        none_back is_lt refl,
        all_back is_gt refl,
        append-nil (below cmp s v),
      )
      (ap (λ ys. front ++ ys) (append_assoc (below cmp s v) (v ∷ above cmp s v) back)
      ∙ sym (append_assoc front (below cmp s v) (v ∷ (above cmp s v ++ back))))

  pub around_cut : front ++ (without cmp s v ++ back) ≡ without cmp (front ++ (s ++ back)) v
  unfolding unequal
  around_cut = let test : Ordering → Bool = λ a. not (is_eq a) in rw (around_filter test, all_front test refl, all_back test refl) refl

module _ {T : Type 0} (cmp : T → T → Ordering) (shards : List (List T)) (k : ℕ) (v : T) (owner : IsOwner cmp shards k v) where
  pub owner_rank : rank cmp (concat shards) v ≡ length (concat (take k shards)) + rank cmp (get_or shards k []) v
  owner_rank = ap (λ l. rank cmp l v) (joined_around shards k owner.inside) ∙ around_rank cmp v (concat (take k shards)) (get_or shards k []) (concat (drop (k + 1) shards)) owner.below owner.above

  changed : (s : List T) → concat (slice_set shards k s) ≡ concat (take k shards) ++ (s ++ concat (drop (k + 1) shards))
  changed s = ap (λ (ss : List (List T)). concat ss) (set_split shards k s owner.inside) ∙ (concat-append (take k shards) (s ∷ drop (suc k) shards) ∙ rw add-one refl)

  pub owner_put : concat (slice_set shards k (put cmp (get_or shards k []) v)) ≡ put cmp (concat shards) v
  owner_put =
      changed (put cmp (get_or shards k []) v)
      ∙ (around_put cmp v (concat (take k shards)) (get_or shards k []) (concat (drop (k + 1) shards)) owner.below
      owner.above
      ∙ ap (λ l. put cmp l v) (sym (joined_around shards k owner.inside)))

  pub owner_cut : concat (slice_set shards k (without cmp (get_or shards k []) v)) ≡ without cmp (concat shards) v
  owner_cut =
      changed (without cmp (get_or shards k []) v)
      ∙ (around_cut cmp v (concat (take k shards)) (get_or shards k []) (concat (drop (k + 1) shards)) owner.below
      owner.above
      ∙ ap (λ l. without cmp l v) (sym (joined_around shards k owner.inside)))

pub one_for_two : {T : Type 0} (low high : List (List T)) (first second : List T) → concat (low ++ first ∷ second ∷ high) ≡ concat (low ++ (first ++ second) ∷ high)
one_for_two low high first second =
    concat-append low (first ∷ second ∷ high)
    ∙ (ap (λ ys. concat low ++ ys) (sym (append_assoc first second (concat high)))
    ∙ sym (concat-append low ((first ++ second) ∷ high)))

-- the shard that routing by the borders finds has the item
module _ {T : Type 0} (cmp : T → T → Ordering) (o : IsTotalOrder cmp) where
  parts_all : (P : T → Type 0) (bs l : List T) → All P l → All P (concat (parts cmp (λ x. x) bs l))
  parts_all P [] l all = subst (All P) (sym (append-nil l)) all
  parts_all P (b ∷ bs) l all =
      let low = λ (x : T). is_lt (cmp x b) in let high = λ (x : T). not (is_lt (cmp x b)) in
      All-append P (filter low l) (concat (parts cmp (λ x. x) bs (filter high l))) (All-filter low P l all) (parts_all P bs (filter high l) (All-filter high P l all))

  -- v < b ≤ x
  past_border : (v b x : T) → cmp v b ≡ Less → not (is_lt (cmp x b)) ≡ true → cmp x v ≡ Greater
  past_border v b x less up = o.antisymm x v ∙ ap ordering_reverse (elim (cmp x b) as (λ a. cmp x b ≡ a → cmp v x ≡ Less) [
    | Less ↦ λ e. absurd (false≢true (sym (ap (λ a. not (is_lt a)) e) ∙ up))
    | Equal ↦ λ e. o.antisymm v x ∙ ap ordering_reverse (o.congr x b v e ∙ (o.antisymm b v ∙ ap ordering_reverse less))
    | Greater ↦ λ e. o.trans v b x less (o.antisymm b x ∙ ap ordering_reverse e)
  ] refl)

  -- the item is less than all items after the first border
  before_all : (b : T) (l : List T) (v : T) → cmp v b ≡ Less → (bs : List T) → All (λ x. cmp x v ≡ Greater) (concat (parts cmp (λ x. x) bs (filter (λ x. not (is_lt (cmp x b))) l)))
  before_all b l v less bs = parts_all (λ x. cmp x v ≡ Greater) bs (filter (λ x. not (is_lt (cmp x b))) l)
      (λ k d lt. past_border v b (get_or (filter (λ x. not (is_lt (cmp x b))) l) k d) less (filter_passes (λ x. not (is_lt (cmp x b))) l k d lt))

  -- x < b ≤ v
  short_of_border : (v b x : T) → is_lt (cmp v b) ≡ false → is_lt (cmp x b) ≡ true → cmp x v ≡ Less
  short_of_border v b x up low = elim (cmp v b) as (λ a. cmp v b ≡ a → cmp x v ≡ Less) [
    | Less ↦ λ e. absurd (false≢true (sym up ∙ ap is_lt e))
    | Equal ↦ λ e. o.antisymm x v ∙ ap ordering_reverse (o.congr v b x e ∙ (o.antisymm b x ∙ ap ordering_reverse (less_from (cmp x b) low)))
    | Greater ↦ λ e. o.trans x b v (less_from (cmp x b) low) (o.antisymm b v ∙ ap ordering_reverse e)
  ] refl

  none_above : (b : T) (bs : List T) (v : T) → IsAscending cmp (b ∷ bs) → cmp v b ≡ Less → count_by (λ c. not (is_lt (cmp v c))) bs ≡ 0
  none_above b bs v up less = count_parted (λ c. not (is_lt (cmp v c))) bs 0 (omega arith) (λ k d low high. absurd (omega arith))
      (λ k d low high. ap (λ a. not (is_lt a)) (o.trans v b (get_or bs k d) less (up 0 (suc k) d (omega arith) (omega arith))))

  pub route_owner : (bs l : List T) (v : T) → IsAscending cmp bs → IsOwner cmp (parts cmp (λ x. x) bs l) (not_above cmp bs v) v
  route_owner [] l v up = record { inside = omega arith; below = λ k d lt. absurd (omega arith); above = λ k d lt. absurd (omega arith) }
  route_owner (b ∷ bs) l v up =
      let low = filter (λ x. is_lt (cmp x b)) l in let rest = parts cmp (λ x. x) bs (filter (λ x. not (is_lt (cmp x b))) l) in
      let tail : IsAscending cmp bs = λ i j d lt inside. up (suc i) (suc j) d (omega arith) (omega arith) in
      elim (is_lt (cmp v b)) as (λ a. is_lt (cmp v b) ≡ a → IsOwner cmp (low ∷ rest) (not_above cmp (b ∷ bs) v) v) [
        | true ↦ λ e.
            let none : not_above cmp (b ∷ bs) v ≡ 0 = sum_by-cons (λ c. cond (not (is_lt (cmp v c))) 1 0) b bs ∙ rw (e, none_above b bs v up (less_from (cmp v b) e)) refl in
            rw none (record { inside = omega arith; below = λ k d lt. absurd (omega arith); above = before_all b l v (less_from (cmp v b) e) bs })
        | false ↦ λ e.
            let k = not_above cmp bs v in
            let next : IsOwner cmp rest k v = route_owner bs (filter (λ x. not (is_lt (cmp x b))) l) v tail in
            let one : not_above cmp (b ∷ bs) v ≡ suc k = sum_by-cons (λ c. cond (not (is_lt (cmp v c))) 1 0) b bs ∙ rw e (omega arith) in
            let further : suc (k + 1) ≡ suc k + 1 = omega arith in
            rw one (record {
              inside = omega (arith, next.inside);
              below = All-append (λ x. cmp x v ≡ Less) low (concat (take k rest)) (λ i d lt. short_of_border v b (get_or low i d) e (filter_passes (λ x. is_lt (cmp x b)) l i d lt)) next.below;
              above = subst (λ n. All (λ x. cmp x v ≡ Greater) (concat (drop n (low ∷ rest)))) further next.above;
            })
      ] refl

pub in_parts : {T : Type 0} (cmp : T → T → Ordering) (l : List T) (first rest : List (Command T)) → after_commands cmp (after_commands cmp l first) rest ≡ after_commands cmp l (first ++ rest)
in_parts cmp l [] rest = refl
in_parts cmp l (c ∷ first) rest = in_parts cmp (after_command cmp l c) first rest
