-- Items that are inserted into a list in order, replacing equal ones.
use Rattle.std.proofs.Common.{◌≡◌, ℕ, suc, ◌+◌, ◌-◌, ◌<◌, ◌≤◌, List, [], ◌∷◌, ◌++◌, length, get_or, take}
use Rattle.std.proofs.Common.{drop, reverse, true, false, slice_get, Some, MatchOption, Ordering, refl}
use Rattle.std.proofs.Common.{sym, ap, ◌∙◌, subst, arith, length-append, length-take, append_assoc}
use Rattle.std.specs.declared.cmp.Ordering.TheVariants.{Less, Equal, Greater}
use Rattle.std.specs.Cmp.{IsTotalOrder}
use Rattle.std.specs.List.{All, HoldsAt, fold}
use Rattle.std.specs.Option.{ForSome}
use Rattle.std.specs.Ordering.{ordering_reverse, is_lt, is_gt}
use Rattle.std.proofs.Math.Seq.{get_or-append_seam}
use Rattle.std.proofs.lemmas.Bool.{false≢true}
use Rattle.std.proofs.lemmas.List.{append-nil, get_or-append-add, get_or-take, get_or_append_left, length-set, reverse-append}
use Rattle.std.proofs.lemmas.Option.{get_or_from_slice_get}
use Rattle.std.proofs.lemmas.List.Edits.{insert_end, length-insert}
use Rattle.std.proofs.lemmas.List.Elements.{All-append, All-cons, All-filter, All-nil, All-weaker, filter-append}
use Rattle.std.proofs.lemmas.List.Sums.{fold-append}
use Rattle.indexset_core.specs.Nodes.{equal_at, concat, node_at}
use Rattle.indexset_core.specs.Order.{IsAscending, above, below, put, rank}
use Rattle.indexset_core.specs.Parted.{less_count}
use Rattle.indexset_core.proofs.CallerLemmas.{Parts, count_parts, found_ascending, found_put, front-is_lt}
use Rattle.indexset_core.proofs.CallerLemmas.{gap_ascending, gap_put, joined_around, less_from, located_found}
use Rattle.indexset_core.proofs.CallerLemmas.{located_gap, offset-le, parted_by_item, slice_get-right}

-- an item after all others of an ascending list
module _ {T : Type 0} (cmp : T → T → Ordering) (m : List T) (x : T) (up : IsAscending cmp (m ++ x ∷ [])) where
  pub front_up : IsAscending cmp m
  front_up i j d lt inside =
      rw (← get_or_append_left m (x ∷ []) d i (omega arith), ← get_or_append_left m (x ∷ []) d j inside) (up i j d lt (omega (arith, inside, length-append m (x ∷ []))))

  pub front_less : All (λ y. cmp y x ≡ Less) m
  front_less k d lt =
      sym (ap (λ y. cmp y x) (get_or_append_left m (x ∷ []) d k lt))
      ∙ (sym (ap (cmp (get_or (m ++ x ∷ []) k d)) (get_or-append_seam m x [] d)) ∙ up k (length m) d lt (omega (arith, length-append m (x ∷ []))))

module _ {T : Type 0} (cmp : T → T → Ordering) where
  -- v is inserted before the last item
  pub put_before : (m : List T) (l v : T) → cmp l v ≡ Greater → put cmp (m ++ l ∷ []) v ≡ put cmp m v ++ l ∷ []
  unfolding put
  put_before m l v e =
      let low : below cmp (m ++ l ∷ []) v ≡ below cmp m v = filter-append (λ y. is_lt (cmp y v)) m (l ∷ []) ∙ rw e (append-nil (below cmp m v)) in
      let high : above cmp (m ++ l ∷ []) v ≡ above cmp m v ++ l ∷ [] = filter-append (λ y. is_gt (cmp y v)) m (l ∷ []) ∙ rw e refl in
      rw (low, high) (sym (append_assoc (below cmp m v) (v ∷ above cmp m v) (l ∷ [])))

  -- or replaces it
  put_over : (m : List T) (l v : T) → cmp l v ≡ Equal → put cmp (m ++ l ∷ []) v ≡ put cmp m v
  unfolding put
  put_over m l v e =
      let low : below cmp (m ++ l ∷ []) v ≡ below cmp m v = filter-append (λ y. is_lt (cmp y v)) m (l ∷ []) ∙ rw e (append-nil (below cmp m v)) in
      let high : above cmp (m ++ l ∷ []) v ≡ above cmp m v = filter-append (λ y. is_gt (cmp y v)) m (l ∷ []) ∙ rw e (append-nil (above cmp m v)) in
      rw (low, high) refl

  -- or is inserted after all
  put_behind : (m : List T) (v : T) → All (λ y. cmp y v ≡ Less) m → put cmp m v ≡ m ++ v ∷ []
  put_behind m v less =
      gap_put cmp m v (length m) (record { inside = omega arith; below_before = λ k d low high. less k d high; above_after = λ k d low high. absurd (omega (arith, low, high)) })
      ∙ insert_end m v

  pub put_some : (m : List T) (v : T) → 0 < length (put cmp m v)
  unfolding put
  put_some m v = omega (arith, length-append (below cmp m v) (v ∷ above cmp m v))

  put_each : (P : T → Type 0) (m : List T) (v : T) → All P m → P v → All P (put cmp m v)
  unfolding put
  put_each P m v h p = All-append P (below cmp m v) (v ∷ above cmp m v) (All-filter (λ y. is_lt (cmp y v)) P m h) (All-cons P v (above cmp m v) p (All-filter (λ y. is_gt (cmp y v)) P m h))

  pub fold_before : (m xs : List T) (l : T) → All (λ x. cmp l x ≡ Greater) xs → fold (put cmp) (m ++ l ∷ []) xs ≡ fold (put cmp) m xs ++ l ∷ []
  fold_before m [] l h = refl
  fold_before m (x ∷ xs) l h = ap (λ z. fold (put cmp) z xs) (put_before m l x (h 0 x (omega arith))) ∙ fold_before (put cmp m x) xs l (λ k d lt. h (suc k) d (omega arith))

  fold_each : (P : T → Type 0) (m xs : List T) → All P m → All P xs → All P (fold (put cmp) m xs)
  fold_each P m [] h each = h
  fold_each P m (x ∷ xs) h each = fold_each P (put cmp m x) xs (put_each P m x h (each 0 x (omega arith))) (λ k d lt. each (suc k) d (omega arith))

  fold_behind : (m r : List T) (b : T) → All (λ y. cmp y b ≡ Less) m → All (λ y. cmp y b ≡ Less) r → fold (put cmp) m (r ++ b ∷ []) ≡ fold (put cmp) m r ++ b ∷ []
  fold_behind m r b h g = fold-append (put cmp) m r (b ∷ []) ∙ put_behind (fold (put cmp) m r) b (fold_each (λ y. cmp y b ≡ Less) m r h g)

  fold_over : (m r : List T) (a b : T) → cmp a b ≡ Equal → All (λ y. cmp y b ≡ Less) m → All (λ y. cmp y b ≡ Less) r
      → All (λ y. cmp a y ≡ Greater) r → fold (put cmp) (m ++ a ∷ []) (r ++ b ∷ []) ≡ fold (put cmp) m r ++ b ∷ []
  fold_over m r a b e h g up =
      fold-append (put cmp) (m ++ a ∷ []) r (b ∷ [])
      ∙ (ap (λ z. put cmp z b) (fold_before m r a up)
      ∙ (put_over (fold (put cmp) m r) a b e ∙ put_behind (fold (put cmp) m r) b (fold_each (λ y. cmp y b ≡ Less) m r h g)))

-- the last item
module _ {T : Type 0} where
  pub last_is : (u m : List T) (a : T) → u ≡ m ++ a ∷ [] → slice_get u (length u - 1) ≡ Some a
  last_is u m a e = rw e (slice_get-right m (a ∷ []) (length (m ++ a ∷ []) - 1) 0 (omega (arith, length-append m (a ∷ []))))

  pub parts_at_last : (x : T) (xs : List T) → (m : List T) × (a : T) × (x ∷ xs ≡ m ++ a ∷ [])
  parts_at_last x [] = ([], x, refl)
  parts_at_last x (y ∷ ys) = let rest = parts_at_last y ys in (x ∷ rest.0, rest.1, ap (λ l. x ∷ l) rest.2)

  pub last_parts : (u : List T) → 0 < length u → (m : List T) × (a : T) × (u ≡ m ++ a ∷ [])
  last_parts [] some = absurd (omega arith)
  last_parts (x ∷ xs) some = parts_at_last x xs

-- a merge from the back: some last items of u and r are in out, in reverse, and all items make
-- `whole`
pub record IsMerging {T : Type 0} (cmp : T → T → Ordering) (u r out whole : List T) : Type 0 where
  pub order : IsAscending cmp u
  pub run_order : IsAscending cmp r
  pub same : fold (put cmp) u r ++ reverse out ≡ whole

module _ {T : Type 0} (cmp : T → T → Ordering) (o : IsTotalOrder cmp) where
  over : (x y : T) → cmp x y ≡ Less → cmp y x ≡ Greater
  over x y h = o.antisymm y x ∙ ap ordering_reverse h

  under : (x y : T) → cmp x y ≡ Greater → cmp y x ≡ Less
  under x y h = o.antisymm y x ∙ ap ordering_reverse h

  next_out : (l out : List T) (x : T) → (l ++ x ∷ []) ++ reverse out ≡ l ++ reverse (out ++ x ∷ [])
  next_out l out x = append_assoc l (x ∷ []) (reverse out) ∙ ap (λ z. l ++ z) (sym (reverse-append out (x ∷ [])))

  module _ (u r out whole : List T) (is : IsMerging cmp u r out whole) (answer : Ordering)
      (told : ForSome (slice_get r (length r - 1))
      (λ b. MatchOption (slice_get u (length u - 1)) (answer ≡ Less) (λ a. answer ≡ cmp a b))) where
    -- the comparison is that of the last items
    answer_is : (m r' : List T) (a b : T) → u ≡ m ++ a ∷ [] → r ≡ r' ++ b ∷ [] → answer ≡ cmp a b
    answer_is m r' a b e f = (rw (last_is u m a e) at (told b (last_is r r' b f)))

    -- if the comparison is not Less, there is a last item
    pub some_there : 0 < length r → is_lt answer ≡ false → 0 < length u
    some_there some other =
        let parts = last_parts r some in
        let there : (v : List T) → u ≡ v → 0 < length v = elim [
          | [] ↦ λ e. absurd (false≢true (sym other ∙ ap is_lt (rw e at (told parts.1 (last_is r parts.0 parts.1 parts.2)))))
          | x ∷ xs ↦ λ e. omega arith
        ] in
        there u refl

    all_less : (r' : List T) (b : T) → r ≡ r' ++ b ∷ [] → answer ≡ Less → (v : List T) → u ≡ v → All (λ y. cmp y b ≡ Less) v
    all_less r' b f e [] is_none = All-nil (λ y. cmp y b ≡ Less)
    all_less r' b f e (x ∷ xs) is_some =
        let parts = parts_at_last x xs in
        let split : u ≡ parts.0 ++ parts.1 ∷ [] = is_some ∙ parts.2 in
        let less : cmp parts.1 b ≡ Less = sym (answer_is parts.0 r' parts.1 b split f) ∙ e in
        let before = front_less cmp parts.0 parts.1 (rw split at is.order) in
        subst (All (λ y. cmp y b ≡ Less)) (sym parts.2)
        (All-append (λ y. cmp y b ≡ Less) parts.0 (parts.1 ∷ [])
        (All-weaker (λ y. cmp y parts.1 ≡ Less) (λ y. cmp y b ≡ Less) (λ y h. o.trans y parts.1 b h less) parts.0
        before)
        (All-cons (λ y. cmp y b ≡ Less) parts.1 [] less (All-nil (λ y. cmp y b ≡ Less))))

    -- the last item of the run moves
    pub merged_less : answer ≡ Less → (r' : List T) (b : T) → r ≡ r' ++ b ∷ [] → IsMerging cmp u r' (out ++ b ∷ []) whole
    merged_less e r' b f =
        let run_up = rw f at is.run_order in
        record {
          order = is.order;
          run_order = front_up cmp r' b run_up;
          same =
              sym (next_out (fold (put cmp) u r') out b)
              ∙ (ap (λ z. z ++ reverse out)
              (sym (fold_behind cmp u r' b (all_less r' b f e u refl) (front_less cmp r' b run_up))
              ∙ ap (fold (put cmp) u) (sym f))
              ∙ is.same);
        }

    -- the last item of the list moves
    pub merged_greater : answer ≡ Greater → 0 < length r → (m : List T) (a : T) → u ≡ m ++ a ∷ [] → IsMerging cmp m r (out ++ a ∷ []) whole
    merged_greater e some m a f =
        let parts = last_parts r some in
        let high : cmp a parts.1 ≡ Greater = sym (answer_is m parts.0 a parts.1 f parts.2) ∙ e in
        let before = front_less cmp parts.0 parts.1 (rw parts.2 at is.run_order) in
        let all : All (λ y. cmp a y ≡ Greater) r = subst (All (λ y. cmp a y ≡ Greater)) (sym parts.2)
        (All-append (λ y. cmp a y ≡ Greater) parts.0 (parts.1 ∷ [])
        (All-weaker (λ y. cmp y parts.1 ≡ Less) (λ y. cmp a y ≡ Greater)
        (λ y h. over y a (o.trans y parts.1 a h (under a parts.1 high))) parts.0 before)
        (All-cons (λ y. cmp a y ≡ Greater) parts.1 [] high (All-nil (λ y. cmp a y ≡ Greater)))) in
        record {
          order = front_up cmp m a (rw f at is.order);
          run_order = is.run_order;
          same = sym (next_out (fold (put cmp) m r) out a) ∙ (ap (λ z. z ++ reverse out) (sym (fold_before cmp m r a all) ∙ ap (λ z. fold (put cmp) z r) (sym f)) ∙ is.same);
        }

    -- both are removed, and that of the run is kept
    pub merged_equal : answer ≡ Equal → (m r' : List T) (a b : T) → u ≡ m ++ a ∷ [] → r ≡ r' ++ b ∷ [] → IsMerging cmp m r' (out ++ b ∷ []) whole
    merged_equal e m r' a b f g =
        let tied : cmp a b ≡ Equal = sym (answer_is m r' a b f g) ∙ e in
        let up = rw f at is.order in
        let run_up = rw g at is.run_order in
        let run_less = front_less cmp r' b run_up in
        let less : All (λ y. cmp y b ≡ Less) m = All-weaker (λ y. cmp y a ≡ Less) (λ y. cmp y b ≡ Less) (λ y h. under b y (sym (o.congr a b y tied) ∙ over y a h)) m (front_less cmp m a up) in
        let all : All (λ y. cmp a y ≡ Greater) r' = All-weaker (λ y. cmp y b ≡ Less) (λ y. cmp a y ≡ Greater) (λ y h. o.congr a b y tied ∙ over y b h) r' run_less in
        record {
          order = front_up cmp m a up;
          run_order = front_up cmp r' b run_up;
          same =
              sym (next_out (fold (put cmp) m r') out b)
              ∙ (ap (λ z. z ++ reverse out)
              (sym (fold_over cmp m r' a b tied less run_less all)
              ∙ (ap (λ z. fold (put cmp) z (r' ++ b ∷ [])) (sym f) ∙ ap (fold (put cmp) u) (sym g)))
              ∙ is.same);
        }

  -- the first items of an ascending list
  pub taken_up : (xs : List T) (n : ℕ) → IsAscending cmp xs → IsAscending cmp (take n xs)
  taken_up xs n up i j d lt inside =
      rw (get_or-take n xs i d (omega (arith, inside, lt, length-take n xs)), get_or-take n xs j d (omega (arith, inside, length-take n xs)))
      (up i j d lt (omega (arith, inside, length-take n xs)))

  -- as many as are below the last item of another list
  pub taken_below : (l xs : List T) (last : T) (n m : ℕ) → IsAscending cmp xs
      → n ≡ less_count (λ x. cmp x last) (take m xs) → slice_get l (length l - 1) ≡ Some last
      → All (λ x. HoldsAt (λ y. cmp x y ≡ Less) l (length l - 1)) (take n xs)
  taken_below l xs last n m up count is k d lt e =
      let up_m = taken_up xs m up in
      let parts : Parts (λ x. is_lt (cmp x last)) (take m xs) n = rw count (count_parts is_lt front-is_lt (λ x. cmp x last) (take m xs) (parted_by_item cmp o (take m xs) up_m last)) in
      let here : k < n = omega (arith, lt, length-take n xs) in
      let same : get_or (take n xs) k d ≡ get_or (take m xs) k d = get_or-take n xs k d here ∙ sym (get_or-take m xs k d (omega (arith, here, parts.inside, length-take m xs))) in
      rw (same, get_or_from_slice_get l (length l - 1) last e is) (less_from _ (parts.before k d (omega arith) here))

  -- r is l with n items more at most, in order
  pub record IsGrown (l : List T) (n : ℕ) (r : List T) : Type 0 where
    pub up : IsAscending cmp r
    pub least : length l ≤ length r
    pub most : length r ≤ length l + n

  put_grown : (l : List T) (v : T) → IsAscending cmp l → IsGrown l 1 (put cmp l v)
  put_grown l v up =
      let i = rank cmp l v in
      let parted = parted_by_item cmp o l up v in
      elim (equal_at (λ x. cmp x v) l i) as (λ b. equal_at (λ x. cmp x v) l i ≡ b → IsGrown l 1 (put cmp l v)) [
        | true ↦ λ e.
            let there = located_found cmp l v i parted refl e in
            let is = found_put cmp l v i o up there in
            record {
              up = subst (IsAscending cmp) (sym is) (found_ascending cmp l v i o up there);
              least = omega (arith, ap (λ (m : List T). length m) is, length-set l i v);
              most = omega (arith, ap (λ (m : List T). length m) is, length-set l i v);
            }
        | false ↦ λ e.
            let gap = located_gap cmp l v i parted refl e in
            let is = gap_put cmp l v i gap in
            record {
              up = subst (IsAscending cmp) (sym is) (gap_ascending cmp l v i o gap up);
              least = omega (arith, ap (λ (m : List T). length m) is, length-insert l i v gap.inside);
              most = omega (arith, ap (λ (m : List T). length m) is, length-insert l i v gap.inside);
            }
      ] refl

  pub fold_grown : (l xs : List T) → IsAscending cmp l → IsGrown l (length xs) (fold (put cmp) l xs)
  fold_grown l [] up = record { up = up; least = omega arith; most = omega arith }
  fold_grown l (x ∷ xs) up =
      let one = put_grown l x up in
      let more = fold_grown (put cmp l x) xs one.up in
      record { up = more.up; least = omega (arith, one.least, more.least); most = omega (arith, one.most, more.most) }

  -- an inserted item is present
  fold_some : (l xs : List T) → 0 < length l → 0 < length (fold (put cmp) l xs)
  fold_some l [] some = some
  fold_some l (x ∷ xs) some = fold_some (put cmp l x) xs (put_some cmp l x)

  pub put_filled : (l xs : List T) → 0 < length xs → 0 < length (fold (put cmp) l xs)
  put_filled l [] some = absurd (omega arith)
  put_filled l (x ∷ xs) some = fold_some (put cmp l x) xs (put_some cmp l x)

-- the items of one node
module _ {T : Type 0} (ns : List (List T)) (k : ℕ) (h : k < length ns) where
  fs : List T
  fs = concat (take k ns)

  bs : List T
  bs = concat (drop (k + 1) ns)

  pub item_in_node : (i : ℕ) (d : T) → i < length (node_at ns k) → get_or (concat ns) (length (concat (take k ns)) + i) d ≡ get_or (node_at ns k) i d
  unfolding fs bs
  item_in_node i d lt = ap (λ l. get_or l (length fs + i) d) (joined_around ns k h) ∙ (get_or-append-add fs (node_at ns k ++ bs) i d ∙ get_or_append_left (node_at ns k) bs d i lt)

  pub node_up : (cmp : T → T → Ordering) → IsAscending cmp (concat ns) → IsAscending cmp (node_at ns k)
  node_up cmp up i j d lt inside =
      rw (← item_in_node i d (omega (arith, lt, inside)), ← item_in_node j d inside)
      (up (length (concat (take k ns)) + i) (length (concat (take k ns)) + j) d (omega (arith, lt)) (omega (arith, inside, offset-le ns k (j + 1) h (omega (arith, inside)))))
